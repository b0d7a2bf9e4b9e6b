-- Columns that are read one after another: what is done, and what is left at the present place.
use Rattle.std.proofs.Common.{◌≡◌, ℕ, zero, suc, ◌+◌, ◌≤◌, List, [], ◌∷◌, ◌++◌, length, drop, Option, Some, None, Result, Ok, Err, ℤ, Bool, true, false, refl, sym, ap, ◌∙◌, arith, subst, map, append-nil, append_assoc, add-one}
use Rattle.std.specs.Prelude.{slice_get, nat_eq, ◌&&◌, ◌||◌, not, if◌then◌else◌}
use Rattle.std.specs.List.{list_all}
use Rattle.std.proofs.lemmas.List.{map-append, length-append}
use Rattle.arrow_spec.specs.declared.error.IpcError.{IpcError}
use Rattle.arrow_spec.specs.Readings.{bind, Refuses, refusals, free_of, ◌>>=◌}
use Rattle.arrow_spec.specs.Cells.{Cell}
use Rattle.arrow_spec.specs.Kinds.{Kind, Fields, none, field, width}
use Rattle.arrow_spec.specs.Counts.{RecordBatch, Place, first_place, after}
use Rattle.arrow_spec.specs.Arrays.{from_on, Dictionaries}
use Rattle.arrow_spec.specs.ArrayCells.{cell}
use Rattle.arrow_spec.specs.Faults.{column_faults, count_faults, top_node_faults, array_faults, place_in}
use Rattle.arrow_spec.specs.Columns.{columns_at, is_chosen, chosen_faults, chosen_cells}
use Rattle.arrow_spec.specs.Needed.{columns_looked_at, looked_at}
use Rattle.arrow_types.specs.KindOf.{kind_of, child_of}
use Rattle.arrow_types.specs.declared.data_type.Field.{Field}
use Rattle.arrow_types.specs.Child.{Child}
use Rattle.arrow_types.specs.Schemas.{Keyed, fields_in}
use Rattle.arrow_arrays.specs.Parts.{Parts, kind_in, cells_in, rows_in}
use Rattle.arrow_arrays.specs.Batches.{have_rows}
use Rattle.arrow_arrays.specs.Carried.{is_carried}
use Rattle.ipc_fields.specs.IpcFields.{ids_of}
use Rattle.ipc_fields.specs.Uses.{first_id, first_ids}
use Rattle.ipc_fields.specs.declared.ipc_field.IpcField.{IpcField}
use Rattle.ipc_read_laws.specs.Batches.{columns_read}
use Rattle.ipc_read_laws.specs.Faults.{read_faults, stated_of, fetched_at_most}
use Rattle.ipc_read_laws.specs.Held.{Held}
use Rattle.ipc_read_laws.specs.PartsRead.{parts_read}
use Rattle.ipc_read.specs.Batches.{IsFieldAt, are_carried_kinds, batch_fetched, cells_asked, chosen_fetched, chosen_read, kinds_of, schema_fields}
use Rattle.ipc_read.specs.Held.{column_kind}
use Rattle.ipc_read_laws.specs.Projection.{kept, chosen}
use Rattle.ipc_read.proofs.Refusals.{refuses_left, refuses_right}
use Rattle.ipc_read.proofs.ColumnKinds.{drop_at, both_first, both_second}
use Rattle.ipc_read.proofs.ColumnIds.{after_with, counts_with}
use Rattle.ipc_read.proofs.LeftFields.{dropped, before, StandsIn, next_in, dropped_end, stands_with, child_as, child_at, child_kind}
use Rattle.ipc_read.proofs.Nested.{drop_all, stated_append}
use Rattle.arrow_types.proofs.DataTypes.{kind_of_child}
use Rattle.ipc_read.proofs.Places.{first_place_in}
use Rattle.ipc_read.proofs.Chosen.{kept_before, chosen_next}
use Rattle.ipc_read.proofs.BatchTables.{refused_first, refused_place, place_none}

-- ── one column ──

-- a column whose node has the batch's rows is refused by what refuses its array
pub column_is : (m : RecordBatch) (d : Dictionaries) (k : Kind) (p : Place) (rows few : ℕ) → top_node_faults (slice_get m.nodes p.node) rows ≡ [] → read_faults m d k p few ≡ column_faults m d k p rows few
unfolding read_faults column_faults
column_is m d k p rows few h = ap (λ es. es ++ array_faults m d k p few) (sym (append-nil (count_faults m k p)) ∙ ap (λ es. count_faults m k p ++ es) (sym h))

-- a node of other rows refuses the column
pub node_refused : (m : RecordBatch) (d : Dictionaries) (k : Kind) (p : Place) (rows few : ℕ) (e : IpcError) → Refuses e (top_node_faults (slice_get m.nodes p.node) rows) → Refuses e (column_faults m d k p rows few)
unfolding column_faults
node_refused m d k p rows few e h = refuses_left (count_faults m k p ++ top_node_faults (slice_get m.nodes p.node) rows) _ e (refuses_right (count_faults m k p) _ e h)

-- ── the fields that are left ──

pub held_at : (asked : Option (List ℕ)) (c : ℕ) (s : List Keyed) (i : ℕ) (x : Keyed) → slice_get s i ≡ Some x → is_chosen asked (c + i) ≡ true → are_carried_kinds asked c s ≡ true → is_carried x.1.kind ≡ true
held_at asked c [] zero x h a f = cc
held_at asked c [] (suc i) x h a f = cc
held_at asked c (y ∷ ys) zero x h a f =
    let e : y ≡ x = cc in
    let n : c + 0 ≡ c = omega arith in
    let is : is_chosen asked c ≡ true = ap (is_chosen asked) (sym n) ∙ a in
    let g = both_first (not (is_chosen asked c) || is_carried y.1.kind) _ f in
    subst (λ (z : Keyed). is_carried z.1.kind ≡ true) e (sym (ap (λ b. not b || is_carried y.1.kind) is) ∙ g)
held_at asked c (y ∷ ys) (suc i) x h a f =
    let n : suc c + i ≡ c + suc i = omega arith in
    held_at asked (suc c) ys i x h (ap (is_chosen asked) n ∙ a) (both_second (not (is_chosen asked c) || is_carried y.1.kind) _ f)

-- ── what is done ──

-- the columns mean what is done with what is left of them, and those that are asked for have these parts
pub record AreDone (m : RecordBatch) (d : Dictionaries) (h : Held) (asked : Option (List ℕ)) (fs : Fields) (i rows few : ℕ) (parts : List Parts) : Type 0 where
  pub done : List (List Cell)
  pub count : length done ≡ i
  pub chosen_are : chosen asked 0 done ≡ map cells_in parts
  pub cells : columns_at m d asked fs 0 first_place rows few ≡ (columns_at m d asked (dropped i fs) i (place_in m fs i first_place) rows few >>= λ left. Ok (done ++ left))
  pub parts_are : chosen_read m h asked fs 0 first_place few ≡ parts ++ chosen_read m h asked (dropped i fs) i (place_in m fs i first_place) few

bind_ok : {A E : Type 0} → (r : Result (List A) E) → (r >>= λ left. Ok ([] ++ left)) ≡ r
unfolding bind
bind_ok (Ok x) = refl
bind_ok (Err e) = refl

bind_both : {A E : Type 0} → (r : Result (List A) E) (xs : List A) (x : A) → ((r >>= λ rest. Ok (x ∷ rest)) >>= λ left. Ok (xs ++ left)) ≡ (r >>= λ left. Ok ((xs ++ x ∷ []) ++ left))
unfolding bind
bind_both (Ok left) xs x = ap Ok (sym (append_assoc xs (x ∷ []) left))
bind_both (Err e) xs x = refl

pub none_done : (m : RecordBatch) (d : Dictionaries) (h : Held) (asked : Option (List ℕ)) (fs : Fields) (rows few : ℕ) → AreDone m d h asked fs 0 rows few []
none_done m d h asked fs rows few = record {
  done = [];
  count = refl;
  chosen_are = refl;
  cells = rw (first_place_in m fs first_place) (sym (bind_ok (columns_at m d asked fs 0 first_place rows few)));
  parts_are = rw (first_place_in m fs first_place) refl;
}

-- what refuses the next column refuses all
pub next_refused : (m : RecordBatch) (d : Dictionaries) (h : Held) (asked : Option (List ℕ)) (fs : Fields) (i rows few : ℕ) (parts : List Parts) (x : Child) (e : IpcError) → StandsIn fs i x → AreDone m d h asked fs i rows few parts
    → Refuses e (chosen_faults (is_chosen asked i) m d x.kind (place_in m fs i first_place) rows few) → Refuses e (refusals (cells_asked m d asked fs rows few))
unfolding columns_at
next_refused m d h asked fs i rows few parts x e g done r =
    let q = place_in m fs i first_place in
    let left : Refuses e (refusals (columns_at m d asked (before x (dropped (suc i) fs)) i q rows few)) = refused_first (free_of (chosen_faults (is_chosen asked i) m d x.kind q rows few)) _ e (refused_place _ e r) in
    let here : Refuses e (refusals (columns_at m d asked (dropped i fs) i q rows few)) = subst (λ gs. Refuses e (refusals (columns_at m d asked gs i q rows few))) (sym g) left in
    refused_first (columns_at m d asked fs 0 first_place rows few) _ e (subst (λ r. Refuses e (refusals r)) (sym done.cells) (refused_first (columns_at m d asked (dropped i fs) i q rows few) _ e here))

-- one more column is done, read or passed over
pub one_done : (m : RecordBatch) (d : Dictionaries) (h : Held) (asked : Option (List ℕ)) (fs : Fields) (i rows few : ℕ) (parts new : List Parts) (x : Child) (z : List Cell) → StandsIn fs i x → AreDone m d h asked fs i rows few parts
    → chosen_faults (is_chosen asked i) m d x.kind (place_in m fs i first_place) rows few ≡ []
    → z ≡ chosen_cells (is_chosen asked i) m d x.kind (place_in m fs i first_place) few
    → kept (is_chosen asked i) z [] ≡ map cells_in new
    → new ≡ kept (is_chosen asked i) (parts_read m h x.kind (place_in m fs i first_place) few) []
    → AreDone m d h asked fs (suc i) rows few (parts ++ new)
unfolding columns_at
one_done m d h asked fs i rows few parts new x z g done f c a e =
    let q = place_in m fs i first_place in
    let k = x.kind in
    let rest = dropped (suc i) fs in
    let behind = columns_at m d asked rest (suc i) (after m k q) rows few in
    let step : columns_at m d asked (before x rest) i q rows few ≡ (behind >>= λ rest. Ok (z ∷ rest)) =
    place_none (chosen_faults (is_chosen asked i) m d k q rows few) _ f ∙ ap (λ z. behind >>= λ rest. Ok (z ∷ rest)) (sym c) in
    let cells = done.cells ∙ ap (λ gs. columns_at m d asked gs i q rows few >>= λ left. Ok (done.done ++ left)) g ∙ ap (λ r. r >>= λ left. Ok (done.done ++ left)) step
    ∙ bind_both behind done.done z
    ∙ ap (λ q. columns_at m d asked rest (suc i) q rows few >>= λ left. Ok ((done.done ++ z ∷ []) ++ left)) (sym (next_in m fs i x first_place g)) in
    let left = chosen_read m h asked rest (suc i) (after m k q) few in
    let are = done.parts_are ∙ ap (λ gs. parts ++ chosen_read m h asked gs i q few) g
    ∙ ap (λ ys. parts ++ ys) (kept_before (is_chosen asked i) (parts_read m h k q few) left ∙ ap (λ ys. ys ++ left) (sym e))
    ∙ sym (append_assoc parts new left)
    ∙ ap (λ q. (parts ++ new) ++ chosen_read m h asked rest (suc i) q few) (sym (next_in m fs i x first_place g)) in
    let at : 0 + length done.done ≡ i = omega (arith, done.count) in
    let picked : chosen asked 0 (done.done ++ z ∷ []) ≡ map cells_in (parts ++ new) =
    chosen_next asked 0 done.done z ∙ ap (λ j. chosen asked 0 done.done ++ kept (is_chosen asked j) z []) at ∙ ap (λ ys. ys ++ kept (is_chosen asked i) z []) done.chosen_are ∙ ap (λ ys. map cells_in parts ++ ys) a ∙ sym (map-append cells_in parts new) in
    record { done = done.done ++ z ∷ []; count = length-append done.done (z ∷ []) ∙ ap (λ j. j + 1) done.count ∙ add-one i; chosen_are = picked; cells = cells; parts_are = are }

-- all columns are done
pub all_cells : (m : RecordBatch) (d : Dictionaries) (h : Held) (asked : Option (List ℕ)) (fs : Fields) (i rows few : ℕ) (parts : List Parts) → width fs ≤ i → AreDone m d h asked fs i rows few parts
    → (columns_at m d asked fs 0 first_place rows few >>= λ all. Ok (chosen asked 0 all)) ≡ Ok (map cells_in parts)
unfolding columns_at bind
all_cells m d h asked fs i rows few parts g done =
    ap (λ r. r >>= λ all. Ok (chosen asked 0 all)) (done.cells ∙ ap (λ gs. columns_at m d asked gs i (place_in m fs i first_place) rows few >>= λ left. Ok (done.done ++ left)) (dropped_end fs i g) ∙ ap Ok (append-nil done.done))
    ∙ ap Ok done.chosen_are

pub all_parts : (m : RecordBatch) (d : Dictionaries) (h : Held) (asked : Option (List ℕ)) (fs : Fields) (i rows few : ℕ) (parts : List Parts) → width fs ≤ i → AreDone m d h asked fs i rows few parts → parts ≡ chosen_read m h asked fs 0 first_place few
all_parts m d h asked fs i rows few parts g done = sym (done.parts_are ∙ ap (λ gs. parts ++ chosen_read m h asked gs i (place_in m fs i first_place) few) (dropped_end fs i g) ∙ append-nil parts)

-- all parts are read where all columns are asked for
pub all_read : (m : RecordBatch) (h : Held) (fs : Fields) (c : ℕ) (p : Place) (rows : ℕ) → chosen_read m h None fs c p rows ≡ columns_read m h fs p rows
all_read m h none c p rows = refl
all_read m h (field name nullable metadata k others) c p rows = ap (λ ps. parts_read m h k p rows ∷ ps) (all_read m h others (suc c) (after m k p) rows)

-- each of one more has the rows
pub rows_next : (rows : ℕ) (parts : List Parts) (a : Parts) → have_rows rows parts ≡ true → rows_in a ≡ rows → have_rows rows (parts ++ a ∷ []) ≡ true
rows_next rows [] a h e = let f : nat_eq (rows_in a) rows ≡ true = grind arith in rw f refl
rows_next rows (b ∷ parts) a h e = both (nat_eq (rows_in b) rows) (list_all (λ p. nat_eq (rows_in p) rows) parts) _ h (rows_next rows parts a)
  where
    both : (x y z : Bool) → (x && y) ≡ true → (y ≡ true → rows_in a ≡ rows → z ≡ true) → (x && z) ≡ true
    both true y z g k = k g e
    both false y z g k = cc

-- ── what is fetched ──

pub fetched_next : (m : RecordBatch) (asked : Option (List ℕ)) (fs : Fields) (i rows : ℕ) (x : Child) → StandsIn fs i x → chosen_fetched m asked (dropped i fs) i (place_in m fs i first_place) rows
    ≡ (if is_chosen asked i then fetched_at_most m x.kind (place_in m fs i first_place) rows else 0) + chosen_fetched m asked (dropped (suc i) fs) (suc i) (place_in m fs (suc i) first_place) rows
fetched_next m asked fs i rows x g =
    let q = place_in m fs i first_place in
    let first = if is_chosen asked i then fetched_at_most m x.kind q rows else 0 in
    ap (λ gs. chosen_fetched m asked gs i q rows) g
    ∙ ap (λ z. first + chosen_fetched m asked (dropped (suc i) fs) (suc i) z rows) (sym (next_in m fs i x first_place g))

none_fetched : (m : RecordBatch) (asked : Option (List ℕ)) (fs : Fields) (c : ℕ) (p : Place) → chosen_fetched m asked fs c p 0 ≡ 0
none_fetched m asked none c p = refl
none_fetched m asked (field name nullable metadata k others) c p = rw (none_fetched m asked others (suc c) (after m k p)) (by (is_chosen asked c))
  where
    by : (b : Bool) → (if b then fetched_at_most m k p 0 else 0) + 0 ≡ 0
    by true = refl
    by false = refl

some_fetched : (m : RecordBatch) (asked : Option (List ℕ)) (n : ℕ) (fs : Fields) (c : ℕ) (p : Place) → chosen_fetched m asked fs c p (suc n) ≡ stated_of m (columns_looked_at m asked fs c p)
some_fetched m asked n none c p = refl
some_fetched m asked n (field name nullable metadata k others) c p =
    ap (λ x. (if is_chosen asked c then fetched_at_most m k p (suc n) else 0) + x) (some_fetched m asked n others (suc c) (after m k p)) ∙ by (is_chosen asked c)
  where
    by : (b : Bool) → (if b then fetched_at_most m k p (suc n) else 0) + stated_of m (columns_looked_at m asked others (suc c) (after m k p)) ≡ stated_of m ((if b then looked_at m k p else []) ++ columns_looked_at m asked others (suc c) (after m k p))
    by true = sym (stated_append m (looked_at m k p) (columns_looked_at m asked others (suc c) (after m k p)))
    by false = omega arith

-- the buffers that are fetched are those that are looked at
pub fetched_is : (m : RecordBatch) (asked : Option (List ℕ)) (fs : Fields) (rows : ℕ) → chosen_fetched m asked fs 0 first_place rows ≡ batch_fetched m asked fs rows
fetched_is m asked fs zero = none_fetched m asked fs 0 first_place
fetched_is m asked fs (suc n) = some_fetched m asked n fs 0 first_place

-- ── a column that is read, and one that is passed over ──

pub column_refused : (m : RecordBatch) (d : Dictionaries) (h : Held) (asked : Option (List ℕ)) (fs : Fields) (i rows few : ℕ) (parts : List Parts) (x : Child) (e : IpcError) → StandsIn fs i x → is_chosen asked i ≡ true → AreDone m d h asked fs i rows few parts
    → Refuses e (column_faults m d x.kind (place_in m fs i first_place) rows few) → Refuses e (refusals (cells_asked m d asked fs rows few))
column_refused m d h asked fs i rows few parts x e g is done r = next_refused m d h asked fs i rows few parts x e g done (rw is r)

pub passed_refused : (m : RecordBatch) (d : Dictionaries) (h : Held) (asked : Option (List ℕ)) (fs : Fields) (i rows few : ℕ) (parts : List Parts) (x : Child) (e : IpcError) → StandsIn fs i x → is_chosen asked i ≡ false → AreDone m d h asked fs i rows few parts
    → Refuses e (count_faults m x.kind (place_in m fs i first_place)) → Refuses e (refusals (cells_asked m d asked fs rows few))
passed_refused m d h asked fs i rows few parts x e g is done r = next_refused m d h asked fs i rows few parts x e g done (rw is r)

pub column_done : (m : RecordBatch) (d : Dictionaries) (h : Held) (asked : Option (List ℕ)) (fs : Fields) (i rows few : ℕ) (parts : List Parts) (x : Child) (a : Parts) → StandsIn fs i x → is_chosen asked i ≡ true → AreDone m d h asked fs i rows few parts
    → column_faults m d x.kind (place_in m fs i first_place) rows few ≡ [] → cells_in a ≡ from_on (cell m d x.kind (place_in m fs i first_place)) 0 few → a ≡ parts_read m h x.kind (place_in m fs i first_place) few
    → AreDone m d h asked fs (suc i) rows few (parts ++ a ∷ [])
column_done m d h asked fs i rows few parts x a g is done f c e =
    one_done m d h asked fs i rows few parts (a ∷ []) x (cells_in a) g done (rw is f) (rw is c) (rw is refl) (rw is (ap (λ y. y ∷ []) e))

pub passed_done : (m : RecordBatch) (d : Dictionaries) (h : Held) (asked : Option (List ℕ)) (fs : Fields) (i rows few : ℕ) (parts : List Parts) (x : Child) → StandsIn fs i x → is_chosen asked i ≡ false → AreDone m d h asked fs i rows few parts
    → count_faults m x.kind (place_in m fs i first_place) ≡ [] → AreDone m d h asked fs (suc i) rows few parts
passed_done m d h asked fs i rows few parts x g is done f =
    subst (AreDone m d h asked fs (suc i) rows few) (append-nil parts) (one_done m d h asked fs i rows few parts [] x [] g done (rw is f) (rw is refl) (rw is refl) (rw is refl))

pub field_held : (asked : Option (List ℕ)) (s : List Keyed) (i : ℕ) (f : Field) → IsFieldAt s i f → is_chosen asked i ≡ true → are_carried_kinds asked 0 s ≡ true → is_carried (kind_of f.dtype) ≡ true
field_held asked s i f h a k = let n : 0 + i ≡ i = omega arith in ap is_carried (sym h.kind) ∙ held_at asked 0 s i (h.key, child_of f) h.at (ap (is_chosen asked) n ∙ a) k

-- the field at a place of a schema stands in its columns, with the ids of its IPC field
pub column_stands : (s : List Keyed) (ts : List IpcField) (i : ℕ) (f : Field) (id : Option ℤ) (fs : List IpcField) → IsFieldAt s i f → id ≡ first_id (ids_of (drop i ts)) → ids_of fs ≡ first_ids (ids_of (drop i ts)) → StandsIn (schema_fields s ts) i (child_as f (column_kind f.dtype id fs))
column_stands s ts i f id fs h a b =
    stands_with (λ p. p.1) s ts i (h.key, child_of f) (drop_at s i (h.key, child_of f) h.at ∙ ap (λ n. (h.key, child_of f) ∷ drop n s) (add-one i))
    ∙ ap (λ k. before (child_as f k) (dropped (suc i) (schema_fields s ts))) (sym (child_kind f id fs ts i a b))

pub passed_stands : (s : List Keyed) (ts : List IpcField) (i : ℕ) (f : Field) → IsFieldAt s i f → StandsIn (schema_fields s ts) i (child_at f ts i)
passed_stands s ts i f h = stands_with (λ p. p.1) s ts i (h.key, child_of f) (drop_at s i (h.key, child_of f) h.at ∙ ap (λ n. (h.key, child_of f) ∷ drop n s) (add-one i))

pub passed_after : (m : RecordBatch) (ts : List IpcField) (i : ℕ) (f : Field) (p : Place) → after m (kind_of f.dtype) p ≡ after m (child_at f ts i).kind p
passed_after m ts i f p = ap (λ k. after m k p) (sym (kind_of_child f)) ∙ sym (after_with m (child_of f).kind (first_id (ids_of (drop i ts))) (first_ids (ids_of (drop i ts))) p)

pub passed_counts : (m : RecordBatch) (ts : List IpcField) (i : ℕ) (f : Field) (p : Place) → count_faults m (kind_of f.dtype) p ≡ count_faults m (child_at f ts i).kind p
passed_counts m ts i f p = ap (λ k. count_faults m k p) (sym (kind_of_child f)) ∙ sym (counts_with m (child_of f).kind (first_id (ids_of (drop i ts))) (first_ids (ids_of (drop i ts))) p)

-- there is a field for each
pub width_of : (s : List Keyed) → width (fields_in s) ≡ length s
width_of [] = refl
width_of (p ∷ ps) = ap suc (width_of ps)

-- how many are chosen of a schema, one field further
pub count_next : (asked : Option (List ℕ)) (s : List Keyed) (i n n' : ℕ) (f : Field) → IsFieldAt s i f → is_chosen asked i ≡ true → n' ≡ n + 1 → n + length (chosen asked i (drop i s)) ≡ length (chosen asked 0 s) → n' + length (chosen asked (i + 1) (drop (i + 1) s)) ≡ length (chosen asked 0 s)
count_next asked s i n n' f h is e c =
    let j : suc i ≡ i + 1 = omega arith in
    let step = ap (λ xs. length (chosen asked i xs)) (drop_at s i (h.key, child_of f) h.at) ∙ ap (λ b. length (kept b (h.key, child_of f) (chosen asked (suc i) (drop (i + 1) s)))) is ∙ ap (λ k. suc (length (chosen asked k (drop (i + 1) s)))) j in
    omega (arith, e, c, step)

pub passed_count : (asked : Option (List ℕ)) (s : List Keyed) (i n : ℕ) (f : Field) → IsFieldAt s i f → is_chosen asked i ≡ false → n + length (chosen asked i (drop i s)) ≡ length (chosen asked 0 s) → n + length (chosen asked (i + 1) (drop (i + 1) s)) ≡ length (chosen asked 0 s)
passed_count asked s i n f h is c =
    let j : suc i ≡ i + 1 = omega arith in
    let step = ap (λ xs. length (chosen asked i xs)) (drop_at s i (h.key, child_of f) h.at) ∙ ap (λ b. length (kept b (h.key, child_of f) (chosen asked (suc i) (drop (i + 1) s)))) is ∙ ap (λ k. length (chosen asked k (drop (i + 1) s))) j in
    omega (arith, c, step)

pub count_end : (asked : Option (List ℕ)) (s : List Keyed) (i n : ℕ) → length s ≤ i → n + length (chosen asked i (drop i s)) ≡ length (chosen asked 0 s) → n ≡ length (chosen asked 0 s)
count_end asked s i n h c = let e = ap (λ xs. length (chosen asked i xs)) (drop_all s i h) in omega (arith, c, e)

-- and of which kinds
pub kinds_next : (asked : Option (List ℕ)) (s : List Keyed) (i : ℕ) (ps : List Parts) (a : Parts) (f : Field) → IsFieldAt s i f → is_chosen asked i ≡ true → kind_in a ≡ kind_of f.dtype
    → map kind_in ps ++ chosen asked i (kinds_of (drop i s)) ≡ chosen asked 0 (kinds_of s) → map kind_in (ps ++ a ∷ []) ++ chosen asked (i + 1) (kinds_of (drop (i + 1) s)) ≡ chosen asked 0 (kinds_of s)
kinds_next asked s i ps a f h is e c =
    let rest = chosen asked (i + 1) (kinds_of (drop (i + 1) s)) in
    let step : chosen asked i (kinds_of (drop i s)) ≡ (child_of f).kind ∷ rest =
    ap (λ xs. chosen asked i (kinds_of xs)) (drop_at s i (h.key, child_of f) h.at) ∙ ap (λ b. kept b (child_of f).kind (chosen asked (suc i) (kinds_of (drop (i + 1) s)))) is
    ∙ ap (λ k. (child_of f).kind ∷ chosen asked k (kinds_of (drop (i + 1) s))) (sym (add-one i)) in
    ap (λ xs. xs ++ rest) (map-append kind_in ps (a ∷ [])) ∙ append_assoc (map kind_in ps) (kind_in a ∷ []) rest
    ∙ ap (λ k. map kind_in ps ++ k ∷ rest) (e ∙ sym h.kind) ∙ ap (λ xs. map kind_in ps ++ xs) (sym step) ∙ c

pub kinds_passed : (asked : Option (List ℕ)) (s : List Keyed) (i : ℕ) (ps : List Parts) (f : Field) → IsFieldAt s i f → is_chosen asked i ≡ false
    → map kind_in ps ++ chosen asked i (kinds_of (drop i s)) ≡ chosen asked 0 (kinds_of s) → map kind_in ps ++ chosen asked (i + 1) (kinds_of (drop (i + 1) s)) ≡ chosen asked 0 (kinds_of s)
kinds_passed asked s i ps f h is c =
    let step : chosen asked i (kinds_of (drop i s)) ≡ chosen asked (i + 1) (kinds_of (drop (i + 1) s)) =
    ap (λ xs. chosen asked i (kinds_of xs)) (drop_at s i (h.key, child_of f) h.at) ∙ ap (λ b. kept b (child_of f).kind (chosen asked (suc i) (kinds_of (drop (i + 1) s)))) is
    ∙ ap (λ k. chosen asked k (kinds_of (drop (i + 1) s))) (sym (add-one i)) in
    ap (λ xs. map kind_in ps ++ xs) (sym step) ∙ c

pub kinds_end : (asked : Option (List ℕ)) (s : List Keyed) (i : ℕ) (ps : List Parts) → length s ≤ i → map kind_in ps ++ chosen asked i (kinds_of (drop i s)) ≡ chosen asked 0 (kinds_of s) → map kind_in ps ≡ chosen asked 0 (kinds_of s)
kinds_end asked s i ps h c = sym (append-nil (map kind_in ps)) ∙ ap (λ xs. map kind_in ps ++ chosen asked i (kinds_of xs)) (sym (drop_all s i h)) ∙ c

-- what is fetched of a column that is asked for, and that nothing is of another
pub chosen_fetched_next : (m : RecordBatch) (asked : Option (List ℕ)) (fs : Fields) (i rows : ℕ) (x : Child) → StandsIn fs i x → is_chosen asked i ≡ true → chosen_fetched m asked (dropped i fs) i (place_in m fs i first_place) rows
    ≡ fetched_at_most m x.kind (place_in m fs i first_place) rows + chosen_fetched m asked (dropped (i + 1) fs) (i + 1) (place_in m fs (i + 1) first_place) rows
chosen_fetched_next m asked fs i rows x g is =
    fetched_next m asked fs i rows x g
    ∙ ap (λ b. (if b then fetched_at_most m x.kind (place_in m fs i first_place) rows else 0) + chosen_fetched m asked (dropped (suc i) fs) (suc i) (place_in m fs (suc i) first_place) rows) is
    ∙ ap (λ j. fetched_at_most m x.kind (place_in m fs i first_place) rows + chosen_fetched m asked (dropped j fs) j (place_in m fs j first_place) rows) (sym (add-one i))

pub passed_fetched_next : (m : RecordBatch) (asked : Option (List ℕ)) (fs : Fields) (i rows : ℕ) (x : Child) → StandsIn fs i x → is_chosen asked i ≡ false → chosen_fetched m asked (dropped i fs) i (place_in m fs i first_place) rows
    ≡ chosen_fetched m asked (dropped (i + 1) fs) (i + 1) (place_in m fs (i + 1) first_place) rows
passed_fetched_next m asked fs i rows x g is =
    let e = fetched_next m asked fs i rows x g
    ∙ ap (λ b. (if b then fetched_at_most m x.kind (place_in m fs i first_place) rows else 0) + chosen_fetched m asked (dropped (suc i) fs) (suc i) (place_in m fs (suc i) first_place) rows) is
    ∙ ap (λ j. 0 + chosen_fetched m asked (dropped j fs) j (place_in m fs j first_place) rows) (sym (add-one i)) in
    omega (arith, e)
