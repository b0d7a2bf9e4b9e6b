-- Arrays without rows as they are written: a dictionary that was never read has one.
use Rattle.std.proofs.Common.{◌≡◌, ℕ, suc, ◌+◌, ◌-◌, ◌*◌, ◌^◌, ◌<◌, List, [], ◌∷◌, ◌++◌, length, take, drop, refl, sym, ap, subst, ◌∙◌, arith, rules, true, Option, None, Some, pos, append-nil}
use Rattle.std.specs.Prelude.{map, ◌&&◌, nat_eq, nat_lt}
use Rattle.std.specs.List.{AllByRecursion}
use Rattle.std.specs.Int.{byte_len}
use Rattle.std.proofs.lemmas.Bool.{and_parts, eqb-true}
use Rattle.std.proofs.lemmas.List.{map-append}
use Rattle.arrow_spec.specs.declared.message.FieldNode.{FieldNode}
use Rattle.arrow_spec.specs.declared.types.IntervalUnit.TheVariants.{YearMonth, DayTime, MonthDayNano}
use Rattle.arrow_spec.specs.declared.types.UnionMode.TheVariants.{Dense, Sparse}
use Rattle.arrow_spec.specs.Flat.{little}
use Rattle.arrow_spec.specs.Kinds as kind
use Rattle.arrow_spec.specs.Kinds.{Kind, Fields, Offsets, small, large, none, field, dictionary_count, numbered, numbered_kind, width}
use Rattle.arrow_spec.specs.Counts.{RecordBatch, Place, Written, after, first_place, magnitude}
use Rattle.arrow_spec.specs.Arrays.{Dictionaries, integer_width, offset, offset_width}
use Rattle.arrow_spec.specs.Bodies.{NodeFits}
use Rattle.arrow_spec.specs.Sent.{also_written, no_source, offset_read, own, parts_written, written, written_part}
use Rattle.arrow_spec.specs.Schema.{first_is_struct_of_two}
use Rattle.arrow_types.specs.Physical.{physical_of}
use Rattle.arrow_types.specs.UnionIds.{are_right}
use Rattle.arrow_buffers.specs.Layouts.{binary_size}
use Rattle.arrow_buffers.specs.Variable.{Variable}
use Rattle.arrow_types.specs.declared.physical.PhysicalType.{PhysicalType}
use Rattle.arrow_types.specs.declared.physical.PhysicalType.TheVariants as physical
use Rattle.ipc_files.specs.Below.{is_carried, are_carried, empty_forest, empty_leaf, empty_parts, empty_under, Head, indexed, joined, list_size, listed, mapped, run, sized, structured, tagged, whole, LeafParts, binary, fixed, numbers, text, leaf_part_of, node_in, counts_in, counts_each, Parts, Forest, leaf, nested, none as no_parts, also, cells_in, fault_in, kind_in, rows_each, offset_bytes, offset_limit, HoldsEachAt, HoldsValuesAt, is_alike, Fit, FitEach, HeadFit, column_in, head_pieces, nodes_in, pieces_in, tree_nodes, tree_pieces, trees_nodes, trees_pieces, width_of_kind, with_kind, sent, trim, trim_each}
use Rattle.ipc_files.proofs.Below.{cells-empty, kind-empty, rows-empty, sound-empty, means_under, may_little, first_rows}
use Rattle.ipc_fields.proofs.SameKinds.{same_itself}
use Rattle.laws_writers.proofs.Below.{plain_twice, carried_plain, width_plain}
use Rattle.laws_writers.specs.Below.{plain_kind, plain_fields}
use Rattle.laws_transcode.specs.Below.{Means, IsKnown, Known}
use Rattle.laws_transcode.specs.Sending.{AllAreKnown, AreKnown, IsColumnOf}
use Rattle.laws_sent.specs.Parts.{PartTree, columns_in}
use Rattle.laws_sent.proofs.Lists.{all_both}

-- ── kinds under new ids ──

mutual
  pub plain_numbered : (k : Kind) (id : ℕ) → plain_kind (numbered_kind k id) ≡ plain_kind k
  plain_numbered (kind.«list» o fs) id = ap (kind.«list» o) (plain_numbered_fields fs id)
  plain_numbered (kind.fixed_size_list size fs) id = ap (kind.fixed_size_list size) (plain_numbered_fields fs id)
  plain_numbered (kind.struct fs) id = ap kind.struct (plain_numbered_fields fs id)
  plain_numbered (kind.map sorted fs) id = ap (kind.map sorted) (plain_numbered_fields fs id)
  plain_numbered (kind.union mode stated ids fs) id = ap (kind.union mode stated ids) (plain_numbered_fields fs id)
  plain_numbered (kind.dictionary t ordered old k) id = ap (kind.dictionary t ordered (pos 0)) (plain_numbered k (suc id))
  plain_numbered (kind.extension name metadata k) id = ap (kind.extension name metadata) (plain_numbered k id)
  plain_numbered k id = refl

  plain_numbered_fields : (fs : Fields) (id : ℕ) → plain_fields (numbered fs id) ≡ plain_fields fs
  plain_numbered_fields none id = refl
  plain_numbered_fields (field name nullable metadata k others) id =
      ap (λ l. field name nullable metadata l (plain_fields (numbered others (id + dictionary_count k)))) (plain_numbered k id) ∙ ap (field name nullable metadata (plain_kind k)) (plain_numbered_fields others (id + dictionary_count k))

-- ── what is written ──

abbrev no_rows : FieldNode
no_rows = record { length = pos 0; null_count = pos 0 }

abbrev tree_written : Parts → Written
tree_written t = record { nodes = tree_nodes t; lengths = map length (tree_pieces little t); views = counts_in t }

abbrev trees_written : Forest → Written
trees_written cs = record { nodes = trees_nodes cs; lengths = map length (trees_pieces little cs); views = counts_each cs }

abbrev rows_node : ℕ → FieldNode
rows_node rows = record { length = pos rows; null_count = pos 0 }

-- a tree whose numbers fit, and what is written of it
record IsBare (t : Parts) (w : Written) : Type 0 where
  fit : Fit t
  nodes : AllByRecursion NodeFits (tree_nodes t)
  views : AllByRecursion (λ n. n < 2 ^ 63) (counts_in t)
  same : tree_written t ≡ w

record AreBare (cs : Forest) (w : Written) : Type 0 where
  fit : FitEach cs
  nodes : AllByRecursion NodeFits (trees_nodes cs)
  views : AllByRecursion (λ n. n < 2 ^ 63) (counts_each cs)
  same : trees_written cs ≡ w

no_rows_fit : NodeFits no_rows
no_rows_fit = (search rules, search rules)

times_none : (n : ℕ) → n * 0 ≡ 0
times_none n = omega arith

-- an array over children
over_children : (h : Head) (cs : Forest) (lengths : List ℕ) (w : Written) → HeadFit h (rows_each cs) → node_in (nested h cs) ≡ no_rows → map length (head_pieces little h) ≡ lengths → AreBare cs w
    → IsBare (nested h cs) (also_written (record { nodes = no_rows ∷ []; lengths = lengths; views = [] }) w)
over_children h cs lengths w fits node pieces b = record {
  fit = (fits, b.fit);
  nodes = (subst NodeFits (sym node) no_rows_fit, b.nodes);
  views = b.views;
  same = rw (node, map-append length (head_pieces little h) (trees_pieces little cs), pieces) (ap (also_written (record { nodes = no_rows ∷ []; lengths = lengths; views = [] })) b.same);
}

-- ── arrays without children ──

leaf_bare : (l : LeafParts) (w : Written) → Fit (leaf l) → node_in (leaf l) ≡ no_rows → AllByRecursion (λ n. n < 2 ^ 63) (counts_in (leaf l)) → record { nodes = no_rows ∷ []; lengths = map length (tree_pieces little (leaf l)); views = counts_in (leaf l) } ≡ w → IsBare (leaf l) w
leaf_bare l w fits node counts same = record {
  fit = fits;
  nodes = (subst NodeFits (sym node) no_rows_fit, tt);
  views = counts;
  same = rw node same;
}

numbers_bare : (l : Kind) (m : RecordBatch) (p : Place) (from n : ℕ) → n ≡ 0 → IsBare (leaf (numbers (record { kind = l; values = []; validity = None }))) (own m p 0 from 0 (n ∷ []))
numbers_bare l m p from n e = leaf_bare _ _ tt refl tt (rw e refl)

offsets_length : (o : Offsets) → length (offset_bytes little o (pos 0 ∷ [])) ≡ byte_len (offset_width o) * 1
offsets_length small = refl
offsets_length large = refl

offsets_below : (o : Offsets) → AllByRecursion (λ x. magnitude x < offset_limit o) (pos 0 ∷ [])
offsets_below small = (omega arith, tt)
offsets_below large = (omega arith, tt)

-- ── any kind ──

one_child : (fs : Fields) → nat_eq (width fs) 1 ≡ true → length (rows_each (trim_each (run 0 0) (empty_forest (plain_fields fs)))) ≡ 1
one_child fs h = counted (plain_fields fs) ∙ width_plain fs ∙ eqb-true (width fs) 1 h
  where
    counted : (gs : Fields) → length (rows_each (trim_each (run 0 0) (empty_forest gs))) ≡ width gs
    counted none = refl
    counted (field name nullable metadata k others) = ap suc (counted others)

-- the children of a dense union, which are held whole
whole_none : (gs : Fields) → trim_each whole (empty_forest gs) ≡ trim_each (run 0 0) (empty_forest gs)
whole_none none = refl
whole_none (field name nullable metadata k others) = ap (λ n. also (trim 0 n (empty_under k k)) (trim_each whole (empty_forest others))) (rows-empty k k) ∙ ap (also (trim 0 0 (empty_under k k))) (whole_none others)

same_place : (n : ℕ) (x : ℕ → ℕ) → x (n + 0) - x n ≡ 0
same_place n x = let start : n + 0 ≡ n = omega arith in let zero_left : x n - x n ≡ 0 = omega arith in ap (λ i. x i - x n) start ∙ zero_left

abbrev no_bytes : Kind → Variable
no_bytes l = record { kind = l; offsets = pos 0 ∷ []; values = []; validity = None }

binary_bare : (l : Kind) (o : Offsets) (m : RecordBatch) (p : Place) (from n : ℕ) → width_of_kind l ≡ o → n ≡ 0 → IsBare (leaf (binary (no_bytes l))) (own m p 0 from 0 (byte_len (offset_width o) * 1 ∷ n ∷ []))
binary_bare l o m p from n w e = leaf_bare (binary (no_bytes l)) _ (subst (λ x. AllByRecursion (λ i. magnitude i < offset_limit x) (pos 0 ∷ [])) (sym w) (offsets_below o)) refl tt
    (ap (λ x. record { nodes = no_rows ∷ []; lengths = 0 ∷ length (offset_bytes little x (pos 0 ∷ [])) ∷ 0 ∷ []; views = [] }) w ∙ rw (offsets_length o, e) refl)

text_bare : (l : Kind) (o : Offsets) (m : RecordBatch) (p : Place) (from n : ℕ) → width_of_kind l ≡ o → n ≡ 0 → IsBare (leaf (text (no_bytes l))) (own m p 0 from 0 (byte_len (offset_width o) * 1 ∷ n ∷ []))
text_bare l o m p from n w e = leaf_bare (text (no_bytes l)) _ (subst (λ x. AllByRecursion (λ i. magnitude i < offset_limit x) (pos 0 ∷ [])) (sym w) (offsets_below o)) refl tt
    (ap (λ x. record { nodes = no_rows ∷ []; lengths = 0 ∷ length (offset_bytes little x (pos 0 ∷ [])) ∷ 0 ∷ []; views = [] }) w ∙ rw (offsets_length o, e) refl)

width_of_plain : (k : Kind) → width_of_kind (plain_kind k) ≡ width_of_kind k
width_of_plain (kind.extension name metadata k) = width_of_plain k
width_of_plain k = refl

abbrev Pair : Type 0
Pair = ℕ × ℕ

abbrev pair : ℕ → ℕ → Pair
pair a b = (a, b)

both_none : (read rows : ℕ) → read ≡ 0 → rows ≡ 0 → pair 0 0 ≡ pair read rows
both_none read rows h g = ap (λ n. pair n 0) (sym h) ∙ ap (pair read) (sym g)

-- no bytes of one size
no_part : (n : ℕ) → take {A = ℕ} (n * 0) (drop (n * 0) []) ≡ []
no_part n = rw (times_none n) refl

mutual
  bare : (m : RecordBatch) (p : Place) (from : ℕ) (l k : Kind) → width_of_kind l ≡ width_of_kind k → is_carried k ≡ true → IsBare (trim 0 0 (empty_under l (plain_kind k))) (written_part m k p 0 from 0)
  bare m p from l (kind.«list» o fs) w c =
      let both = and_parts (nat_eq (width fs) 1) (are_carried fs) c in
      over_children _ _ _ _ (offsets_below o) refl (ap (λ n. 0 ∷ n ∷ []) (offsets_length o))
      (all_bare m _ (λ q. offset_read m o p 0) _ (λ q. offset m o (p.buffer + 1) (from + 0) - offset m o (p.buffer + 1) from) fs (λ q. refl) (λ q. same_place from (offset m o (p.buffer + 1))) both.1)
  bare m p from l (kind.map sorted fs) w c =
      let both = and_parts (nat_eq (width fs) 1 && first_is_struct_of_two fs) (are_carried fs) c in
      over_children _ _ _ _ (offsets_below small) refl refl
      (all_bare m _ (λ q. offset_read m small p 0) _ (λ q. offset m small (p.buffer + 1) (from + 0) - offset m small (p.buffer + 1) from) fs (λ q. refl) (λ q. same_place from (offset m small (p.buffer + 1))) both.1)
  bare m p from l (kind.fixed_size_list size fs) w c =
      let both = and_parts (nat_eq (width fs) 1 && nat_lt 0 size) (are_carried fs) c in
      let one = and_parts (nat_eq (width fs) 1) (nat_lt 0 size) both.0 in
      let h = sized (record { kind = l; rows = 0; validity = None }) in
      subst (λ n. IsBare (nested h (trim_each (run n n) (empty_forest (plain_fields fs)))) (written_part m (kind.fixed_size_list size fs) p 0 from 0)) (sym (times_none (list_size l)))
      (over_children h _ _ _ (one_child fs one.0) refl refl (all_bare m _ (λ q. size * 0) _ (λ q. size * 0) fs (λ q. times_none size) (λ q. times_none size) both.1))
  bare m p from l (kind.struct fs) w c = over_children _ _ _ _ tt refl refl (all_bare m _ (λ q. 0) _ (λ q. 0) fs (λ q. refl) (λ q. refl) c)
  bare m p from l (kind.union Sparse stated ids fs) w c =
      let both = and_parts (are_right ids (width fs)) (are_carried fs) c in
      over_children _ _ _ _ tt refl refl (all_bare m _ (λ q. 0) _ (λ q. 0) fs (λ q. refl) (λ q. refl) both.1)
  bare m p from l (kind.union Dense stated ids fs) w c =
      let both = and_parts (are_right ids (width fs)) (are_carried fs) c in
      let h = tagged (record { kind = l; types = []; offsets = Some [] }) in
      subst (λ cs. IsBare (nested h cs) (written_part m (kind.union Dense stated ids fs) p 0 from 0)) (sym (whole_none (plain_fields fs)))
      (over_children h _ _ _ (tt, tt) refl refl (all_bare m _ (λ q. 0) _ (λ q. 0) fs (λ q. refl) (λ q. refl) both.1))
  bare m p from l (kind.dictionary t ordered old k) w c =
      let none : byte_len (integer_width t) * 0 ≡ 0 = times_none (byte_len (integer_width t)) in
      subst (IsBare (trim 0 0 (empty_under l (plain_kind (kind.dictionary t ordered old k))))) (ap (λ n. own m p 0 from 0 (n ∷ [])) (sym none))
      (over_children _ no_parts _ (record { nodes = []; lengths = []; views = [] }) tt refl refl (record { fit = tt; nodes = tt; views = tt; same = refl }))
  bare m p from l (kind.extension name metadata k) w c = bare m p from l k w c
  bare m p from l kind.null w c = leaf_bare _ _ tt refl tt refl
  bare m p from l kind.boolean w c = leaf_bare _ _ tt refl tt refl
  bare m p from l (kind.integer t) w c = numbers_bare l m p from _ (times_none (byte_len (integer_width t)))
  bare m p from l (kind.float kind.half) w c = cc
  bare m p from l (kind.float kind.single) w c = cc
  bare m p from l (kind.float kind.double) w c = cc
  bare m p from l (kind.interval YearMonth) w c = numbers_bare l m p from _ refl
  bare m p from l (kind.interval DayTime) w c = numbers_bare l m p from _ refl
  bare m p from l (kind.interval MonthDayNano) w c = numbers_bare l m p from _ refl
  bare m p from l (kind.decimal256 precision scale) w c = cc
  bare m p from l (kind.binary small) w c = binary_bare l small m p from _ w (same_place from (offset m small (p.buffer + 1)))
  bare m p from l (kind.binary large) w c = binary_bare l large m p from _ w (same_place from (offset m large (p.buffer + 1)))
  bare m p from l (kind.utf8 small) w c = text_bare l small m p from _ w (same_place from (offset m small (p.buffer + 1)))
  bare m p from l (kind.utf8 large) w c = text_bare l large m p from _ w (same_place from (offset m large (p.buffer + 1)))
  bare m p from l kind.binary_view w c = leaf_bare _ _ tt refl (omega arith, tt) refl
  bare m p from l kind.utf8_view w c = leaf_bare _ _ tt refl (omega arith, tt) refl
  bare m p from l (kind.fixed_size_binary n) w c =
      subst (λ xs. IsBare (leaf (fixed (record { kind = l; values = xs; validity = None }))) (own m p 0 from 0 (n * 0 ∷ []))) (sym (no_part (binary_size l)))
      (leaf_bare (fixed (record { kind = l; values = []; validity = None })) _ tt (ap rows_node (rows-empty l (kind.fixed_size_binary n))) tt (rw (times_none n) refl))
  bare m p from l k w c = numbers_bare l m p from _ refl

  all_bare : (m : RecordBatch) (p : Place) (read : Place → ℕ) (from : ℕ) (rows : Place → ℕ) (fs : Fields) → ((q : Place) → read q ≡ 0) → ((q : Place) → rows q ≡ 0) → are_carried fs ≡ true
      → AreBare (trim_each (run 0 0) (empty_forest (plain_fields fs))) (parts_written m fs p read from rows)
  all_bare m p read from rows none h g c = record { fit = tt; nodes = tt; views = tt; same = refl }
  all_bare m p read from rows (field name nullable metadata k others) h g c =
      let both = and_parts (is_carried k) (are_carried others) c in
      let first = bare m p from (plain_kind k) k (width_of_plain k) both.0 in
      let rest = all_bare m (after m k p) read from rows others h g both.1 in
      let t = trim 0 0 (empty_under (plain_kind k) (plain_kind k)) in
      let cs = trim_each (run 0 0) (empty_forest (plain_fields others)) in
      record {
        fit = (first.fit, rest.fit);
        nodes = all_both NodeFits (tree_nodes t) (trees_nodes cs) first.nodes rest.nodes;
        views = all_both (λ n. n < 2 ^ 63) (counts_in t) (counts_each cs) first.views rest.views;
        same = ap (λ lengths. record { nodes = tree_nodes t ++ trees_nodes cs; lengths = lengths; views = counts_in t ++ counts_each cs }) (map-append length (tree_pieces little t) (trees_pieces little cs))
            ∙ ap (λ x. also_written x (trees_written cs)) first.same ∙ ap (also_written (written_part m k p 0 from 0)) rest.same
            ∙ ap (λ (r : Pair). also_written (written_part m k p r.0 from r.1) (parts_written m others (after m k p) read from rows)) (both_none (read p) (rows p) (h p) (g p));
      }

-- ── as it is sent ──

sent_leaf : (p : PhysicalType) (l : Kind) → leaf (leaf_part_of 0 0 (empty_leaf p l)) ≡ leaf (empty_leaf p l)
sent_leaf physical.FixedSizeBinary l = ap (λ xs. leaf (fixed (record { kind = l; values = xs; validity = None }))) (no_part (binary_size l))
sent_leaf p l = refl

sent_empty : (l k : Kind) → sent (empty_under l k) ≡ trim 0 0 (empty_under l k)
sent_empty l (kind.«list» o fs) = refl
sent_empty l (kind.map sorted fs) = refl
sent_empty l (kind.fixed_size_list size fs) = refl
sent_empty l (kind.struct fs) = refl
sent_empty l (kind.union Sparse stated ids fs) = refl
sent_empty l (kind.union Dense stated ids fs) = refl
sent_empty l (kind.dictionary t ordered id k) = refl
sent_empty l (kind.extension name metadata k) = sent_empty l k
sent_empty l k = sym (sent_leaf (physical_of k) l)

-- ── its dictionaries are those that were never read ──

held_under : (s : Dictionaries) (name : List ℕ) (metadata : Option (List ℕ)) (k : Kind) (t : Parts) → HoldsValuesAt s k t → HoldsValuesAt s (kind.extension name metadata k) t
held_under s name metadata k (leaf l) h = tt
held_under s name metadata k (nested (indexed d) cs) h = h
held_under s name metadata k (nested (listed d) cs) h = h
held_under s name metadata k (nested (mapped d) cs) h = h
held_under s name metadata k (nested (sized d) cs) h = h
held_under s name metadata k (nested (structured d) cs) h = h
held_under s name metadata k (nested (tagged d) cs) h = h

module _ (a : Known) (s : Dictionaries) (told : IsKnown a s) where
  mutual
    none_held : (l k : Kind) (i : ℕ) → AreKnown [] k i a → is_carried k ≡ true → HoldsValuesAt s (numbered_kind k i) (empty_under l (plain_kind k))
    none_held l (kind.«list» o fs) i known c = no_fields_held fs i known (and_parts (nat_eq (width fs) 1) (are_carried fs) c).1
    none_held l (kind.map sorted fs) i known c = no_fields_held fs i known (and_parts (nat_eq (width fs) 1 && first_is_struct_of_two fs) (are_carried fs) c).1
    none_held l (kind.fixed_size_list size fs) i known c = no_fields_held fs i known (and_parts (nat_eq (width fs) 1 && nat_lt 0 size) (are_carried fs) c).1
    none_held l (kind.struct fs) i known c = no_fields_held fs i known c
    none_held l (kind.union Sparse stated ids fs) i known c = no_fields_held fs i known (and_parts (are_right ids (width fs)) (are_carried fs) c).1
    none_held l (kind.union Dense stated ids fs) i known c = no_fields_held fs i known (and_parts (are_right ids (width fs)) (are_carried fs) c).1
    none_held l (kind.dictionary t ordered old k) i known c =
        let cells : cells_in (empty_parts (plain_kind k)) ≡ [] = cells-empty (plain_kind k) (carried_plain k ∙ c) in
        ([], told (pos i) ∙ known ∙ sym (ap (λ xs. Some (joined (xs ∷ []) ++ [])) cells))
    none_held l (kind.extension name metadata k) i known c = held_under s name metadata (numbered_kind k i) (empty_under l (plain_kind k)) (none_held l k i known c)
    none_held l k i known c = tt

    no_fields_held : (fs : Fields) (i : ℕ) → AllAreKnown [] fs i a → are_carried fs ≡ true → HoldsEachAt s (numbered fs i) (empty_forest (plain_fields fs))
    no_fields_held none i known c = tt
    no_fields_held (field name nullable metadata k others) i known c =
        let both = and_parts (is_carried k) (are_carried others) c in
        (none_held (plain_kind k) k i known.0 both.0, no_fields_held others (i + dictionary_count k) known.1 both.1)

-- ── its column ──

pub empty_column : (ps : List PartTree) (k : Kind) (i : ℕ) → is_carried k ≡ true → IsColumnOf [] k i (columns_in ps [] k i)
unfolding written
empty_column ps k i c =
    let l = plain_kind k in
    let t = empty_parts l in
    let sound : fault_in t ≡ None = sound-empty l l refl (carried_plain k ∙ c) in
    let b = subst (λ x. IsBare x (written_part no_source k first_place 0 0 0)) (sym (sent_empty l l)) (bare no_source first_place 0 l k (width_of_plain k) c) in
    let alike : is_alike (kind_in t) (numbered_kind k i) ≡ true =
    ap (λ x. kind.is_same_kind (plain_kind x) (plain_kind (numbered_kind k i))) (kind-empty l l) ∙ ap (λ x. kind.is_same_kind x (plain_kind (numbered_kind k i))) (plain_twice k) ∙ ap (kind.is_same_kind l) (plain_numbered k i) ∙ same_itself l in
    record {
      kind = refl;
      written = rw (append-nil (nodes_in t), append-nil (pieces_in little t), append-nil (counts_in (sent t))) b.same;
      cells = cells-empty l (carried_plain k ∙ c);
      good = λ a s known told. subst (λ n. Means little s n (with_kind (numbered_kind k i) (column_in little t))) (rows-empty l l) (means_under true (numbered_kind k i) s t alike (none_held a s told l k i known c) sound b.fit (may_little t));
      rows = first_rows t sound ∙ rows-empty l l;
      few = omega arith;
      nodes = b.nodes;
      views = b.views;
    }
