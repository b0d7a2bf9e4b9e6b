-- Unions, sparse and dense: their types are ids, each row stands in a row of its child, and their cells are those of the record batch.
use Rattle.std.proofs.Common.{◌≡◌, ℕ, zero, suc, ◌+◌, ◌*◌, ◌<◌, ◌≤◌, ◌&&◌, List, [], ◌∷◌, length, Bool, true, false, Option, Some, None, ℤ, pos, not, nat_eq, refl, sym, ap, ◌∙◌, arith, subst}
use Rattle.std.specs.Prelude.{slice_index_or, nat_le, nat_lt}
use Rattle.std.specs.Int.{w8, w32}
use Rattle.std.proofs.lemmas.Bool.{and_parts, and_from, eqb-true, eq-eqb, leb-false, lt-leb, or_parts, or_from}
use Rattle.arrow_spec.specs.declared.types.UnionMode.{UnionMode}
use Rattle.arrow_spec.specs.declared.types.UnionMode.TheVariants.{Dense, Sparse}
use Rattle.arrow_spec.specs.Kinds.{Kind, Fields, union, width}
use Rattle.arrow_spec.specs.Schema.{are_ids}
use Rattle.arrow_spec.specs.Cells as cells
use Rattle.arrow_spec.specs.Cells.{Cell}
use Rattle.arrow_spec.specs.Counts.{RecordBatch, Place, magnitude, is_negative, union_buffers, inside}
use Rattle.arrow_spec.specs.Arrays.{Dictionaries, from_on, signed_in, types_buffer, id_place, child_row, or_0}
use Rattle.arrow_spec.specs.ArrayCells.{cell}
use Rattle.arrow_spec.specs.Faults.{array_faults, child_faults, union_faults, some_row, is_no_id, end_of, is_bad_row, place_in}
use Rattle.arrow_spec.specs.Sent.{dense_rows}
use Rattle.arrow_spec.proofs.Fewer.{cause-none, child_ends, none_first, none_second, sound_second, some_row-none, some_row-all}
use Rattle.arrow_types.specs.UnionIds.{are_right}
use Rattle.arrow_buffers.specs.Rows.{part}
use Rattle.arrow_buffers.proofs.Parts.{length-part, length-from_on, shift-from_on}
use Rattle.arrow_arrays.specs.Heads.{Head, tagged, head_part, head_cells, head_fault, child_under, child_place, ids_in, is_mode, is_union, has_offsets, have_ids, fits_places, is_bad_place, number_at, tagged_cell, tagged_rows, are_all}
use Rattle.arrow_arrays.specs.Parts.{Forest, nested, kinds_each, rows_each}
use Rattle.arrow_arrays.proofs.HeadSliced.{sound_head}
use Rattle.arrow_arrays.proofs.UnionPlaces.{id_below}
use Rattle.ipc_read_laws.specs.Held.{Held}
use Rattle.ipc_read_laws.specs.PlainKinds.{plain_fields}
use Rattle.ipc_read_laws.specs.PartsRead.{tagged_read, places_read, parts_under, forest_read, HaveBytes, AllHaveBytes}
use Rattle.ipc_read_laws.specs.WrittenParts.{head_written}
use Rattle.ipc_read_laws.proofs.Buffers.{get-told}
use Rattle.ipc_read_laws.proofs.Labels.{Label, label_fields, label_ids, label_union}
use Rattle.ipc_read_laws.proofs.Trees.{rows_told, told_all, told_at, cells_told, child_told, SoundAs, ForestSound, both_none, suited}

-- the offsets where they are dense, and for how many rows a child is read: for the union's, or whole
abbrev pub places_told : RecordBatch → UnionMode → Place → ℕ → Option (List ℤ)
places_told m Sparse p rows = None
places_told m Dense p rows = Some (places_read m p rows)

abbrev pub child_rows : RecordBatch → UnionMode → ℕ → Place → ℕ
child_rows m Sparse rows q = rows
child_rows m Dense rows q = dense_rows m q rows

-- the top that is read, and where the children stand
abbrev pub union_read : RecordBatch → Kind → UnionMode → Place → ℕ → Head
union_read m l mode p rows = tagged (tagged_read m l p rows (places_told m mode p rows))

abbrev pub children_at : RecordBatch → UnionMode → Place → Place
children_at m mode p = inside (union_buffers m.version mode) p

pub union_under : (l : Kind) (m : RecordBatch) (held : Held) (mode : UnionMode) (stated : Bool) (ids : List ℤ) (fs : Fields) (p : Place) (rows : ℕ)
    → nested (union_read m l mode p rows) (forest_read m held fs (children_at m mode p) (λ q. child_rows m mode rows q)) ≡ parts_under l m held (union mode stated ids fs) p rows
union_under l m held Sparse stated ids fs p rows = refl
union_under l m held Dense stated ids fs p rows = refl

pub union_bytes : (m : RecordBatch) (mode : UnionMode) (stated : Bool) (ids : List ℤ) (fs : Fields) (p : Place) (rows : ℕ) → HaveBytes m (union mode stated ids fs) p rows → AllHaveBytes m fs (children_at m mode p) (λ q. child_rows m mode rows q)
union_bytes m Sparse stated ids fs p rows b = b
union_bytes m Dense stated ids fs p rows b = b

-- ── what is not wrong with an array of unions ──

pub union_children : (m : RecordBatch) (d : Dictionaries) (mode : UnionMode) (stated : Bool) (ids : List ℤ) (fs : Fields) (p : Place) (rows : ℕ) → array_faults m d (union mode stated ids fs) p rows ≡ []
    → child_faults m d fs (children_at m mode p) (λ q. child_rows m mode rows q) ≡ []
union_children m d Sparse stated ids fs p zero h = none_second _ _ h
union_children m d Sparse stated ids fs p (suc n) h = none_second _ _ h
union_children m d Dense stated ids fs p zero h = none_second _ _ h
union_children m d Dense stated ids fs p (suc n) h = none_second _ _ h

own_fine : (m : RecordBatch) (d : Dictionaries) (mode : UnionMode) (stated : Bool) (ids : List ℤ) (fs : Fields) (p : Place) (n : ℕ) → array_faults m d (union mode stated ids fs) p (suc n) ≡ [] → union_faults m mode ids fs p (suc n) ≡ []
own_fine m d Sparse stated ids fs p n h = none_second _ _ (none_first _ _ h)
own_fine m d Dense stated ids fs p n h = none_second _ _ (none_first _ _ h)

-- the type of a row, the child under it, and whether its offset is negative
abbrev type_of : RecordBatch → Place → ℕ → ℤ
type_of m p row = signed_in m w8 (types_buffer m p) row

abbrev child_of : RecordBatch → List ℤ → Place → ℕ → ℕ
child_of m ids p row = or_0 (id_place ids (type_of m p row))

abbrev is_below : RecordBatch → UnionMode → Place → ℕ → Bool
is_below m Sparse p row = false
is_below m Dense p row = is_negative (signed_in m w32 (suc (types_buffer m p)) row)

-- a row stands in a row of the child under its type
record Stands (m : RecordBatch) (mode : UnionMode) (ids : List ℤ) (fs : Fields) (p : Place) (rows row : ℕ) : Type 0 where
  pub known : id_place ids (type_of m p row) ≡ Some (child_of m ids p row)
  pub among : child_of m ids p row < width fs
  pub above : is_below m mode p row ≡ false
  pub within : child_row m mode p row < child_rows m mode rows (place_in m fs (child_of m ids p row) (children_at m mode p))

is_known : (r : Option ℕ) → is_no_id r ≡ false → r ≡ Some (or_0 r)
is_known None h = cc
is_known (Some i) h = refl

ids_many : (ids : List ℤ) (n : ℕ) → are_right ids n ≡ true → length ids ≡ n
ids_many ids n h = eqb-true (length ids) n (and_parts (are_ids ids) (nat_eq (length ids) n) (and_parts (are_ids ids && nat_eq (length ids) n) (nat_lt 0 n) h).0).1

type_known : (m : RecordBatch) (mode : UnionMode) (ids : List ℤ) (fs : Fields) (p : Place) (n row : ℕ) → union_faults m mode ids fs p (suc n) ≡ [] → row < suc n → is_no_id (id_place ids (type_of m p row)) ≡ false
unfolding union_faults
type_known m mode ids fs p n row h lt =
    some_row-none (λ row. is_no_id (id_place ids (signed_in m w8 (types_buffer m p) row))) (suc n) row (cause-none _ _ (none_first _ _ (sound_second _ _ (none_second _ _ h)))) lt

row_within : (m : RecordBatch) (d : Dictionaries) (mode : UnionMode) (ids : List ℤ) (fs : Fields) (p : Place) (n row i : ℕ) → union_faults m mode ids fs p (suc n) ≡ [] → child_faults m d fs (children_at m mode p) (λ q. child_rows m mode (suc n) q) ≡ []
    → row < suc n → i < width fs → id_place ids (type_of m p row) ≡ Some i → (is_below m mode p row ≡ false) × (child_row m mode p row < child_rows m mode (suc n) (place_in m fs i (children_at m mode p)))
unfolding union_faults
row_within m d Sparse ids fs p n row i h c lt among e = (refl, lt)
row_within m d Dense ids fs p n row i h c lt among e =
    let q = children_at m Dense p in
    let at : ℕ → ℤ = λ row. signed_in m w32 (suc (types_buffer m p)) row in
    let here : is_bad_row m fs q (id_place ids (type_of m p row)) (at row) ≡ false =
    some_row-none (λ row. is_bad_row m fs q (id_place ids (signed_in m w8 (types_buffer m p) row)) (at row)) (suc n) row (cause-none _ _ (none_second _ _ (sound_second _ _ (none_second _ _ h)))) lt in
    let fine : is_bad_row m fs q (Some i) (at row) ≡ false = ap (λ r. is_bad_row m fs q r (at row)) (sym e) ∙ here in
    let both = or_parts (is_negative (at row)) _ fine in
    (both.0, subst (λ many. magnitude (at row) < many) (child_ends m d fs q (λ q. dense_rows m q (suc n)) c i among) (leb-false (end_of m (place_in m fs i q).node) (magnitude (at row)) both.1))

stands : (m : RecordBatch) (d : Dictionaries) (mode : UnionMode) (stated : Bool) (ids : List ℤ) (fs : Fields) (p : Place) (rows row : ℕ) → are_right ids (width fs) ≡ true → array_faults m d (union mode stated ids fs) p rows ≡ [] → row < rows
    → Stands m mode ids fs p rows row
stands m d mode stated ids fs p zero row right h lt = absurd (omega (arith, lt))
stands m d mode stated ids fs p (suc n) row right h lt =
    let own = own_fine m d mode stated ids fs p n h in
    let known = is_known (id_place ids (type_of m p row)) (type_known m mode ids fs p n row own lt) in
    let among : child_of m ids p row < width fs = omega (arith, id_below ids (type_of m p row) (child_of m ids p row) known, ids_many ids (width fs) right) in
    let there = row_within m d mode ids fs p n row (child_of m ids p row) own (union_children m d mode stated ids fs p (suc n) h) lt among known in
    record { known = known; among = among; above = there.0; within = there.1 }

-- ── types and offsets ──

type_told : (m : RecordBatch) (l : Kind) (p : Place) (rows row : ℕ) (o : Option (List ℤ)) → row < rows → number_at (tagged_read m l p rows o).types row ≡ type_of m p row
type_told m l p rows row o lt = let e : 0 + row ≡ row = omega arith in get-told (λ j. signed_in m w8 (types_buffer m p) j) 0 rows row (pos 0) lt ∙ ap (λ j. signed_in m w8 (types_buffer m p) j) e

types_length : (m : RecordBatch) (l : Kind) (p : Place) (rows : ℕ) (o : Option (List ℤ)) → length (tagged_read m l p rows o).types ≡ rows
types_length m l p rows o = length-from_on (λ j. signed_in m w8 (types_buffer m p) j) 0 rows

offset_told : (m : RecordBatch) (p : Place) (rows row : ℕ) → row < rows → number_at (places_read m p rows) row ≡ signed_in m w32 (suc (types_buffer m p)) row
offset_told m p rows row lt = let e : 0 + row ≡ row = omega arith in get-told (λ j. signed_in m w32 (suc (types_buffer m p)) j) 0 rows row (pos 0) lt ∙ ap (λ j. signed_in m w32 (suc (types_buffer m p)) j) e

offsets_length : (m : RecordBatch) (p : Place) (rows : ℕ) → length (places_read m p rows) ≡ rows
offsets_length m p rows = length-from_on (λ j. signed_in m w32 (suc (types_buffer m p)) j) 0 rows

place_told : (m : RecordBatch) (mode : UnionMode) (p : Place) (rows row : ℕ) → row < rows → child_place (places_told m mode p rows) row ≡ child_row m mode p row
place_told m Sparse p rows row lt = refl
place_told m Dense p rows row lt = ap magnitude (offset_told m p rows row lt)

-- ── the array ──

-- each row that is read is fine where each that is told is
none_bad : (m : RecordBatch) (l : Kind) (p : Place) (rows : ℕ) (o : Option (List ℤ)) (bad : ℕ → Bool) → ((row : ℕ) → row < rows → bad row ≡ false) → not (some_row bad (length (tagged_read m l p rows o).types)) ≡ true
none_bad m l p rows o bad fine = ap (λ c. not (some_row bad c)) (types_length m l p rows o) ∙ ap not (some_row-all bad rows fine)

ids_fit : (m : RecordBatch) (l : Kind) (mode : UnionMode) (ids : List ℤ) (fs : Fields) (p : Place) (rows : ℕ) (o : Option (List ℤ)) → ((row : ℕ) → row < rows → Stands m mode ids fs p rows row) → have_ids ids (tagged_read m l p rows o).types ≡ true
ids_fit m l mode ids fs p rows o all = none_bad m l p rows o (λ row. is_no_id (id_place ids (number_at (tagged_read m l p rows o).types row))) (λ row lt. ap (λ t. is_no_id (id_place ids t)) (type_told m l p rows row o lt) ∙ ap is_no_id (all row lt).known)

offsets_fit : (m : RecordBatch) (l : Kind) (mode : UnionMode) (ids : List ℤ) (fs : Fields) (p : Place) (rows : ℕ) (ns : List ℕ) → ((row : ℕ) → row < rows → Stands m mode ids fs p rows row) → ns ≡ rows_told m fs (children_at m mode p) (λ q. child_rows m mode rows q)
    → fits_places ids (tagged_read m l p rows (places_told m mode p rows)).types (places_told m mode p rows) ns ≡ true
offsets_fit m l Sparse ids fs p rows ns all e = refl
offsets_fit m l Dense ids fs p rows ns all e =
    let q = children_at m Dense p in
    let o : Option (List ℤ) = Some (places_read m p rows) in
    let at : ℕ → ℤ = λ row. number_at (places_read m p rows) row in
    let count : (i : ℕ) → i < width fs → slice_index_or ns i 0 ≡ dense_rows m (place_in m fs i q) rows = λ i lt. ap (λ xs. slice_index_or xs i 0) e ∙ told_at m fs q (λ q. dense_rows m q rows) i lt in
    none_bad m l p rows o (λ row. is_bad_place ns (id_place ids (number_at (tagged_read m l p rows o).types row)) (at row)) (λ row lt.
    let s = all row lt in
    let i = child_of m ids p row in
    let told = signed_in m w32 (suc (types_buffer m p)) row in
    ap (λ t. is_bad_place ns (id_place ids t) (at row)) (type_told m l p rows row o lt)
    ∙ ap (λ r. is_bad_place ns r (at row)) s.known
    ∙ ap (is_bad_place ns (Some i)) (offset_told m p rows row lt)
    ∙ or_from (is_negative told) _ s.above (ap (λ n. nat_le n (magnitude told)) (count i s.among) ∙ lt-leb _ (magnitude told) s.within))

rows_fit : (m : RecordBatch) (l : Kind) (mode : UnionMode) (fs : Fields) (p : Place) (rows : ℕ) (ns : List ℕ) → ns ≡ rows_told m fs (children_at m mode p) (λ q. child_rows m mode rows q)
    → tagged_rows (places_told m mode p rows) (length (tagged_read m l p rows (places_told m mode p rows)).types) ns ≡ true
rows_fit m l Sparse fs p rows ns e = ap (λ n. are_all n ns) (types_length m l p rows None) ∙ ap (are_all rows) e ∙ told_all m fs (children_at m Sparse p) rows
rows_fit m l Dense fs p rows ns e = eq-eqb _ _ (offsets_length m p rows ∙ sym (types_length m l p rows (Some (places_read m p rows))))

of_mode : (m : RecordBatch) (mode : UnionMode) (p : Place) (rows : ℕ) → is_mode (has_offsets (places_told m mode p rows)) mode ≡ true
of_mode m Sparse p rows = refl
of_mode m Dense p rows = refl

pub union_sound : (m : RecordBatch) (d : Dictionaries) (l : Kind) (mode : UnionMode) (stated : Bool) (ids : List ℤ) (fs : Fields) (p : Place) (rows : ℕ) (cs : Forest) → Label l (union mode stated ids fs) → are_right ids (width fs) ≡ true
    → array_faults m d (union mode stated ids fs) p rows ≡ [] → ForestSound (plain_fields fs) (rows_told m fs (children_at m mode p) (λ q. child_rows m mode rows q)) cs → SoundAs l rows (nested (union_read m l mode p rows) cs)
union_sound m d l mode stated ids fs p rows cs e right h c =
    let o = places_told m mode p rows in
    let k = union mode stated ids fs in
    let top = union_read m l mode p rows in
    let all : (row : ℕ) → row < rows → Stands m mode ids fs p rows row = λ row lt. stands m d mode stated ids fs p rows row right h lt in
    let dense : is_union (has_offsets o) l ≡ true = label_union (has_offsets o) l k e ∙ and_from (is_mode (has_offsets o) mode) (are_right ids (width fs)) (of_mode m mode p rows) right in
    record {
      kind_is = refl;
      rows_are = types_length m l p rows o;
      none = both_none (head_fault top (kinds_each cs) (rows_each cs)) _ (sound_head top (kinds_each cs) (rows_each cs) (record {
        suits = suited top _ l (plain_fields fs) (kinds_each cs) refl dense (label_fields l k e) c.kinds;
        valid = refl;
        rows = rows_fit m l mode fs p rows (rows_each cs) c.rows;
        offsets = ap (λ x. fits_places x (tagged_read m l p rows o).types o (rows_each cs)) (label_ids l k e) ∙ offsets_fit m l mode ids fs p rows (rows_each cs) all c.rows;
        types = ap (λ x. have_ids x (tagged_read m l p rows o).types) (label_ids l k e) ∙ ids_fit m l mode ids fs p rows o all;
        keys = refl;
      })) c.none;
    }

-- ── cells ──

pub union_cells : (m : RecordBatch) (d : Dictionaries) (l : Kind) (mode : UnionMode) (stated : Bool) (ids : List ℤ) (fs : Fields) (p : Place) (rows : ℕ) (css : List (List Cell)) → Label l (union mode stated ids fs) → are_right ids (width fs) ≡ true
    → array_faults m d (union mode stated ids fs) p rows ≡ [] → css ≡ cells_told m d fs (children_at m mode p) (λ q. child_rows m mode rows q) → head_cells (union_read m l mode p rows) css ≡ from_on (cell m d (union mode stated ids fs) p) 0 rows
union_cells m d l mode stated ids fs p rows css e right h same =
    let q = children_at m mode p in
    let o = places_told m mode p rows in
    let types = (tagged_read m l p rows o).types in
    let told = cells_told m d fs q (λ q. child_rows m mode rows q) in
    let read : ℕ → Cell = λ row. tagged_cell (ids_in l) types o css row in
    let under : ℤ → ℕ → Cell = λ t row. slice_index_or (child_under ids told t) row cells.null in
    let one : (row : ℕ) → row < rows → read row ≡ cell m d (union mode stated ids fs) p row = λ row lt.
    let t = type_of m p row in
    ap (λ x. tagged_cell x types o css row) (label_ids l (union mode stated ids fs) e) ∙ ap (λ x. tagged_cell ids types o x row) same
    ∙ ap (λ t. cells.tagged t (under t (child_place o row))) (type_told m l p rows row o lt)
    ∙ ap (λ j. cells.tagged t (under t j)) (place_told m mode p rows row lt)
    ∙ ap (cells.tagged t) (child_told m d fs q (λ q. child_rows m mode rows q) (child_of m ids p row) (child_row m mode p row) (stands m d mode stated ids fs p rows row right h lt).within) in
    ap (λ c. from_on read 0 c) (types_length m l p rows o) ∙ shift-from_on read (cell m d (union mode stated ids fs) p) 0 0 rows
    (λ row lt. let z : 0 + row ≡ row = omega arith in ap read z ∙ one row lt ∙ ap (cell m d (union mode stated ids fs) p) (omega arith))

-- ── what is written ──

abbrev pub places_of : UnionMode → ℕ → List ℕ
places_of Sparse n = []
places_of Dense n = 4 * n ∷ []

pub union_top : (m : RecordBatch) (l : Kind) (mode : UnionMode) (p : Place) (read from n : ℕ) → from + n ≤ read
    → record { nodes = record { length = pos n; null_count = pos 0 } ∷ []; lengths = n ∷ places_of mode n; views = [] } ≡ head_written (head_part from n (union_read m l mode p read))
union_top m l Sparse p read from n h =
    let e : length (part from n (tagged_read m l p read None).types) ≡ n = length-part _ from n (omega (arith, h, types_length m l p read None)) in
    rw e refl
union_top m l Dense p read from n h =
    let o : Option (List ℤ) = Some (places_read m p read) in
    let e : length (part from n (tagged_read m l p read o).types) ≡ n = length-part _ from n (omega (arith, h, types_length m l p read o)) in
    let f : length (part from n (places_read m p read)) ≡ n = length-part _ from n (omega (arith, h, offsets_length m p read)) in
    rw (e, f) refl
