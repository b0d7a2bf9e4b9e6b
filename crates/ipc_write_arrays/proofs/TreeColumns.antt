-- Rows of an array as the column that is sent of them, with the rows' own cells, and its children as columns.
use Rattle.std.proofs.Common.{◌≡◌, ℕ, suc, ◌+◌, ◌*◌, ◌≤◌, List, [], ◌∷◌, ◌++◌, true, None, map, length, sym, ap, refl, ◌∙◌, pos}
use Rattle.std.specs.List.{flat_map}
use Rattle.std.specs.Option.{option_map}
use Rattle.std.proofs.lemmas.List.Concat.{flat_map-cons}
use Rattle.arrow_spec.specs.declared.message.FieldNode.{FieldNode}
use Rattle.arrow_spec.specs.Flat.{Order}
use Rattle.arrow_spec.specs.Kinds.{Kind, Fields, none as no_fields, field}
use Rattle.arrow_spec.specs.Cells.{Cell}
use Rattle.arrow_buffers.specs.Rows.{part, null_rows}
use Rattle.arrow_arrays.specs.Heads.{Head, sized, tagged, Cut, whole, run, head_kind, head_rows, head_validity, head_cells, cut_cells, fits_offsets}
use Rattle.arrow_arrays.specs.Parts.{Parts, Forest, leaf, nested, none, also, rows_in, null_rows_in, rows_each, cells_in, cells_each, fault_in, fault_each}
use Rattle.arrow_arrays.specs.Nodes.{counts_in, counts_each}
use Rattle.arrow_arrays.proofs.Sliced.{neither, length-cells}
use Rattle.ipc_write_laws.specs.Columns.{WrittenColumn}
use Rattle.ipc_write_laws.specs.Streams.{AreOf, pieces_of}
use Rattle.ipc_write_laws.proofs.Tops.{top_column}
use Rattle.ipc_write_arrays.specs.Dictionaries.{first_kind, other_fields}
use Rattle.ipc_write_arrays.specs.Pieces.{with_kind, head_pieces, tree_nodes, trees_nodes, tree_pieces, trees_pieces}
use Rattle.ipc_write_arrays.specs.Trims.{head_trim, held_by, trim, trim_each}
use Rattle.ipc_write_arrays.proofs.Alike.{shape, head_under, cells_under, AreAlike, same_size}
use Rattle.ipc_write_arrays.proofs.TrimLaws.{all_of, head_cells-trim}

-- the rows from one on, so many of them, under a kind
abbrev pub sent_column : Order → Kind → ℕ → ℕ → Parts → WrittenColumn
sent_column order k o n p =
    record { kind = k; nodes = tree_nodes (trim o n p); pieces = tree_pieces order (trim o n p); views = counts_in (trim o n p); cells = part o n (cells_in p) }

-- of each child what is cut, under its field's kind
abbrev pub sent_columns : Order → Fields → Cut → Forest → List WrittenColumn
sent_columns order fs whole none = []
sent_columns order fs whole (also p cs) = sent_column order (first_kind fs) 0 (rows_in p) p ∷ sent_columns order (other_fields fs) whole cs
sent_columns order fs (run o n) none = []
sent_columns order fs (run o n) (also p cs) = sent_column order (first_kind fs) o n p ∷ sent_columns order (other_fields fs) (run o n) cs

-- the nodes behind an array's own
abbrev pub nodes_below : Parts → List FieldNode
nodes_below (leaf l) = []
nodes_below (nested h cs) = trees_nodes cs

pub own_node : (q : Parts) → tree_nodes q ≡ record { length = pos (rows_in q); null_count = pos (null_rows_in q) } ∷ nodes_below q
own_node (leaf l) = refl
own_node (nested h cs) = refl

nodes_are : (order : Order) (fs : Fields) (c : Cut) (cs : Forest) → trees_nodes (trim_each c cs) ≡ flat_map (λ c. c.nodes) (sent_columns order fs c cs)
nodes_are order fs whole none = refl
nodes_are order fs whole (also p cs) = ap (λ l. tree_nodes (trim 0 (rows_in p) p) ++ l) (nodes_are order (other_fields fs) whole cs) ∙ sym (flat_map-cons (λ (c : WrittenColumn). c.nodes) (sent_column order (first_kind fs) 0 (rows_in p) p) (sent_columns order (other_fields fs) whole cs))
nodes_are order fs (run o n) none = refl
nodes_are order fs (run o n) (also p cs) = ap (λ l. tree_nodes (trim o n p) ++ l) (nodes_are order (other_fields fs) (run o n) cs) ∙ sym (flat_map-cons (λ (c : WrittenColumn). c.nodes) (sent_column order (first_kind fs) o n p) (sent_columns order (other_fields fs) (run o n) cs))

pieces_are : (order : Order) (fs : Fields) (c : Cut) (cs : Forest) → trees_pieces order (trim_each c cs) ≡ pieces_of (sent_columns order fs c cs)
pieces_are order fs whole none = refl
pieces_are order fs whole (also p cs) = ap (λ l. tree_pieces order (trim 0 (rows_in p) p) ++ l) (pieces_are order (other_fields fs) whole cs) ∙ sym (flat_map-cons (λ (c : WrittenColumn). c.pieces) (sent_column order (first_kind fs) 0 (rows_in p) p) (sent_columns order (other_fields fs) whole cs))
pieces_are order fs (run o n) none = refl
pieces_are order fs (run o n) (also p cs) = ap (λ l. tree_pieces order (trim o n p) ++ l) (pieces_are order (other_fields fs) (run o n) cs) ∙ sym (flat_map-cons (λ (c : WrittenColumn). c.pieces) (sent_column order (first_kind fs) o n p) (sent_columns order (other_fields fs) (run o n) cs))

counts_are : (order : Order) (fs : Fields) (c : Cut) (cs : Forest) → counts_each (trim_each c cs) ≡ flat_map (λ c. c.views) (sent_columns order fs c cs)
counts_are order fs whole none = refl
counts_are order fs whole (also p cs) = ap (λ l. counts_in (trim 0 (rows_in p) p) ++ l) (counts_are order (other_fields fs) whole cs) ∙ sym (flat_map-cons (λ (c : WrittenColumn). c.views) (sent_column order (first_kind fs) 0 (rows_in p) p) (sent_columns order (other_fields fs) whole cs))
counts_are order fs (run o n) none = refl
counts_are order fs (run o n) (also p cs) = ap (λ l. counts_in (trim o n p) ++ l) (counts_are order (other_fields fs) (run o n) cs) ∙ sym (flat_map-cons (λ (c : WrittenColumn). c.views) (sent_column order (first_kind fs) o n p) (sent_columns order (other_fields fs) (run o n) cs))

cells_are : (order : Order) (fs : Fields) (c : Cut) (cs : Forest) → fault_each cs ≡ None → cut_cells c (cells_each cs) ≡ map (λ c. c.cells) (sent_columns order fs c cs)
cells_are order fs whole none e = refl
cells_are order fs whole (also p cs) e =
    let f = neither (fault_in p) (fault_each cs) e in
    let all : cells_in p ≡ part 0 (rows_in p) (cells_in p) = sym (all_of (rows_in p) (cells_in p) (length-cells p f.0)) in
    ap (λ xs. xs ∷ cells_each cs) all ∙ ap (λ css. part 0 (rows_in p) (cells_in p) ∷ css) (cells_are order (other_fields fs) whole cs f.1)
cells_are order fs (run o n) none e = refl
cells_are order fs (run o n) (also p cs) e = ap (λ css. part o n (cells_in p) ∷ css) (cells_are order (other_fields fs) (run o n) cs (neither (fault_in p) (fault_each cs) e).1)

-- a top as it is laid anew over columns
abbrev pub trimmed : Order → ℕ → ℕ → Head → List WrittenColumn → WrittenColumn
trimmed order o n h cs =
    let t = head_trim o n h in
    top_column (head_kind t) (head_rows t) (null_rows (head_validity t)) (head_pieces order t) cs (head_cells t (map (λ c. c.cells) cs))

-- a column of a top over children that are cut, with other cells
abbrev laid_over : Order → Head → Forest → List Cell → WrittenColumn
laid_over order t cs xs = record { kind = head_kind t; nodes = tree_nodes (nested t cs); pieces = tree_pieces order (nested t cs); views = counts_in (nested t cs); cells = xs }

-- is a column with children
pub nested_is : (order : Order) (fs : Fields) (o n : ℕ) (h : Head) (cs : Forest) → fault_each cs ≡ None → fits_offsets h (rows_each cs) ≡ true → o + n ≤ head_rows h
    → laid_over order (head_trim o n h) (trim_each (held_by o n h) cs) (part o n (head_cells h (cells_each cs))) ≡ trimmed order o n h (sent_columns order fs (held_by o n h) cs)
nested_is order fs o n h cs e fits le =
    let c = held_by o n h in
    rw (nodes_are order fs c cs, pieces_are order fs c cs, counts_are order fs c cs, sym (head_cells-trim o n h (rows_each cs) (cells_each cs) fits le), cells_are order fs c cs e) refl

-- under another kind of the same shape it is the same column under that kind
pub trimmed_under : (order : Order) (o n : ℕ) (k : Kind) (h : Head) (cs : List WrittenColumn) → shape (head_kind h) ≡ shape k → trimmed order o n (head_under k h) cs ≡ with_kind k (trimmed order o n h cs)
trimmed_under order o n k (sized c) cs e = ap (top_column k n (null_rows (option_map (part o n) c.validity)) (head_pieces order (head_trim o n (sized c))) cs) (cells_under k (head_trim o n (sized c)) (map (λ c. c.cells) cs) e)
trimmed_under order o n k (tagged t) cs e = ap (top_column k (length (part o n t.types)) 0 (head_pieces order (head_trim o n (tagged t))) cs) (cells_under k (head_trim o n (tagged t)) (map (λ c. c.cells) cs) e)
trimmed_under order o n k h cs e = refl

-- over the same rows of its children
pub held_under : (o n : ℕ) (k : Kind) (h : Head) → shape (head_kind h) ≡ shape k → held_by o n (head_under k h) ≡ held_by o n h
held_under o n k (sized c) e = ap (λ s. run (s * o) (s * n)) (same_size k c.kind (sym e))
held_under o n k h e = refl

-- the columns of children that are alike to fields are of these
pub columns_are_of : (order : Order) (c : Cut) (fs : Fields) (cs : Forest) → AreAlike fs cs → AreOf fs (sent_columns order fs c cs)
columns_are_of order whole no_fields none a = tt
columns_are_of order (run o n) no_fields none a = tt
columns_are_of order c no_fields (also q cs) a = absurd a
columns_are_of order c (field name nullable metadata k others) none a = absurd a
columns_are_of order whole (field name nullable metadata k others) (also q cs) a = (refl, columns_are_of order whole others cs a.1)
columns_are_of order (run o n) (field name nullable metadata k others) (also q cs) a = (refl, columns_are_of order (run o n) others cs a.1)

pub length-columns : (order : Order) (fs : Fields) (c : Cut) (cs : Forest) → length (sent_columns order fs c cs) ≡ length (rows_each cs)
length-columns order fs whole none = refl
length-columns order fs whole (also p cs) = ap suc (length-columns order (other_fields fs) whole cs)
length-columns order fs (run o n) none = refl
length-columns order fs (run o n) (also p cs) = ap suc (length-columns order (other_fields fs) (run o n) cs)
