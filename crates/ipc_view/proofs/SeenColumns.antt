-- Columns that are seen one after another.
use Rattle.std.proofs.Common.{◌≡◌, ℕ, zero, suc, ◌+◌, ◌≤◌, List, [], ◌∷◌, ◌++◌, map, true, Some, None, Result, Ok, Err, slice_get, refl, sym, ap, subst, ◌∙◌, arith, append_assoc, append-nil}
use Rattle.std.proofs.lemmas.Bool.{and_parts}
use Rattle.std.proofs.lemmas.List.{map-append}
use Rattle.arrow_spec.specs.declared.error.IpcError.{IpcError}
use Rattle.arrow_spec.specs.Readings.{Refuses, bind, free_of, refusals, ◌>>=◌}
use Rattle.arrow_spec.specs.Kinds.{Kind, Fields, width}
use Rattle.arrow_spec.specs.Counts.{RecordBatch, Place, after, first_place}
use Rattle.arrow_spec.specs.Arrays.{Dictionaries, from_on}
use Rattle.arrow_spec.specs.ArrayCells.{cell}
use Rattle.arrow_spec.specs.Columns.{columns_at}
use Rattle.arrow_spec.specs.Faults.{array_faults, column_faults, count_faults, counts_faults, place_in, top_node_faults, view_count_faults}
use Rattle.arrow_spec.proofs.CellLists.{from_on-same}
use Rattle.arrow_spec.proofs.Fewer.{none_first, none_second}
use Rattle.arrow_types.specs.Child.{Child}
use Rattle.arrow_types.specs.KindOf.{kind_of, child_of}
use Rattle.arrow_types.specs.Schemas.{Keyed, fields_in}
use Rattle.arrow_types.specs.declared.data_type.Field.{Field}
use Rattle.ipc_read.specs.Batches.{IsFieldAt}
use Rattle.ipc_read.proofs.BatchTables.{place_none, refused_first, refused_place}
use Rattle.ipc_read.proofs.LeftFields.{StandsIn, before, dropped, dropped_end, next_in}
use Rattle.ipc_read.proofs.Places.{first_place_in}
use Rattle.ipc_read.proofs.Refusals.{both_none, refuses_by, refuses_left, refuses_right}
use Rattle.view_types.specs.Views.{View, cell_of, cells_in}
use Rattle.ipc_view.specs.Built.{IsViewOf}
use Rattle.ipc_view.specs.Nested.{IsSeen, are_shown, is_shown, seen_faults}

-- ── one column ──

pub top_refused : (m : RecordBatch) (d : Dictionaries) (k : Kind) (p : Place) (rows : ℕ) (e : IpcError) → Refuses e (top_node_faults (slice_get m.nodes p.node) rows) → Refuses e (column_faults m d k p rows rows)
unfolding column_faults
top_refused m d k p rows e h = refuses_left (count_faults m k p ++ top_node_faults (slice_get m.nodes p.node) rows) _ e (refuses_right (count_faults m k p) _ e h)

pub array_refused : (m : RecordBatch) (d : Dictionaries) (k : Kind) (p : Place) (rows : ℕ) (e : IpcError) → Refuses e (seen_faults m d k p rows) → Refuses e (column_faults m d k p rows rows)
unfolding column_faults count_faults
array_refused m d k p rows e h =
    let top = top_node_faults (slice_get m.nodes p.node) rows in
    let counts = counts_faults m (after m k p) ++ view_count_faults m k p in
    refuses_by (array_faults m d k p rows) (view_count_faults m k p) ((counts ++ top) ++ array_faults m d k p rows) e
    (λ r. refuses_right (counts ++ top) _ e r)
    (λ r. refuses_left (counts ++ top) _ e (refuses_left counts top e (refuses_right (counts_faults m (after m k p)) _ e r))) h

pub counts_refused : (m : RecordBatch) (d : Dictionaries) (k : Kind) (p q : Place) (rows : ℕ) (e : IpcError) → q ≡ after m k p → Refuses e (counts_faults m q) → Refuses e (column_faults m d k p rows rows)
unfolding column_faults count_faults
counts_refused m d k p q rows e next h =
    let top = top_node_faults (slice_get m.nodes p.node) rows in
    let counts = counts_faults m (after m k p) ++ view_count_faults m k p in
    refuses_left (counts ++ top) _ e (refuses_left counts top e (refuses_left (counts_faults m (after m k p)) _ e (subst (λ x. Refuses e (counts_faults m x)) next h)))

pub column_fits : (m : RecordBatch) (d : Dictionaries) (k : Kind) (p q : Place) (rows : ℕ) → q ≡ after m k p → top_node_faults (slice_get m.nodes p.node) rows ≡ [] → seen_faults m d k p rows ≡ [] → counts_faults m q ≡ [] → column_faults m d k p rows rows ≡ []
unfolding column_faults count_faults
column_fits m d k p q rows next top seen counts =
    let own = counts_faults m (after m k p) ++ view_count_faults m k p in
    both_none (own ++ top_node_faults (slice_get m.nodes p.node) rows) _
    (both_none own _ (both_none (counts_faults m (after m k p)) _ (ap (counts_faults m) (sym next) ∙ counts) (none_second (array_faults m d k p rows) _ seen)) top)
    (none_first (array_faults m d k p rows) _ seen)

-- the cells of its rows
pub cells_seen : (m : RecordBatch) (d : Dictionaries) (k : Kind) (p : Place) (rows : ℕ) (v : View) → IsViewOf m d k p rows v → from_on (cell m d k p) 0 rows ≡ cells_in v
cells_seen m d k p rows v s =
    sym (from_on-same (cell_of v) (cell m d k p) 0 rows (λ j h. s.cells j (omega (arith, h)))) ∙ ap (from_on (cell_of v) 0) (sym s.all_rows)

-- ── all columns ──

-- the first i columns have their views, and all mean what these show with what the others mean
pub record ColumnsDone (m : RecordBatch) (d : Dictionaries) (fs : Fields) (i rows : ℕ) (vs : List View) (q : Place) : Type 0 where
  pub at : q ≡ place_in m fs i first_place
  pub cells : columns_at m d None fs 0 first_place rows rows ≡ (columns_at m d None (dropped i fs) i q rows rows >>= λ left. Ok (map cells_in vs ++ left))

bind_ok : {A E : Type 0} → (r : Result (List A) E) → (r >>= λ left. Ok ([] ++ left)) ≡ r
unfolding bind
bind_ok (Ok x) = refl
bind_ok (Err e) = refl

bind_both : {A E : Type 0} → (r : Result (List A) E) (xs : List A) (x : A) → ((r >>= λ rest. Ok (x ∷ rest)) >>= λ left. Ok (xs ++ left)) ≡ (r >>= λ left. Ok ((xs ++ x ∷ []) ++ left))
unfolding bind
bind_both (Ok left) xs x = ap Ok (sym (append_assoc xs (x ∷ []) left))
bind_both (Err e) xs x = refl

pub none_seen : (m : RecordBatch) (d : Dictionaries) (fs : Fields) (rows : ℕ) → ColumnsDone m d fs 0 rows [] first_place
none_seen m d fs rows = record { at = sym (first_place_in m fs first_place); cells = sym (bind_ok (columns_at m d None fs 0 first_place rows rows)) }

-- what refuses the next column refuses all
pub next_column : (m : RecordBatch) (d : Dictionaries) (fs : Fields) (i rows : ℕ) (vs : List View) (q : Place) (x : Child) (e : IpcError) → StandsIn fs i x → ColumnsDone m d fs i rows vs q
    → Refuses e (column_faults m d x.kind q rows rows) → Refuses e (refusals (columns_at m d None fs 0 first_place rows rows))
unfolding columns_at
next_column m d fs i rows vs q x e g done r =
    let left : Refuses e (refusals (columns_at m d None (before x (dropped (suc i) fs)) i q rows rows)) = refused_first (free_of (column_faults m d x.kind q rows rows)) _ e (refused_place _ e r) in
    let here : Refuses e (refusals (columns_at m d None (dropped i fs) i q rows rows)) = subst (λ gs. Refuses e (refusals (columns_at m d None gs i q rows rows))) (sym g) left in
    subst (λ r. Refuses e (refusals r)) (sym done.cells) (refused_first (columns_at m d None (dropped i fs) i q rows rows) _ e here)

-- one more column is seen
pub one_seen : (m : RecordBatch) (d : Dictionaries) (fs : Fields) (i rows : ℕ) (vs : List View) (q r : Place) (x : Child) (v : View) → StandsIn fs i x → ColumnsDone m d fs i rows vs q
    → column_faults m d x.kind q rows rows ≡ [] → IsSeen m d x.kind q rows v r → ColumnsDone m d fs (i + 1) rows (vs ++ v ∷ []) r
unfolding columns_at
one_seen m d fs i rows vs q r x v g done fine seen =
    let k = x.kind in
    let rest = dropped (suc i) fs in
    let behind = columns_at m d None rest (suc i) (after m k q) rows rows in
    let z = cells_in v in
    let step : columns_at m d None (before x rest) i q rows rows ≡ (behind >>= λ rest. Ok (z ∷ rest)) =
    place_none (column_faults m d k q rows rows) _ fine ∙ ap (λ z. behind >>= λ rest. Ok (z ∷ rest)) (cells_seen m d k q rows v seen.view) in
    let j : suc i ≡ i + 1 = omega arith in
    subst (λ n. ColumnsDone m d fs n rows (vs ++ v ∷ []) r) j (record {
      at = seen.next ∙ ap (after m k) done.at ∙ sym (next_in m fs i x first_place g);
      cells = done.cells ∙ ap (λ gs. columns_at m d None gs i q rows rows >>= λ left. Ok (map cells_in vs ++ left)) g ∙ ap (λ r. r >>= λ left. Ok (map cells_in vs ++ left)) step
          ∙ bind_both behind (map cells_in vs) z
          ∙ ap (λ q. columns_at m d None rest (suc i) q rows rows >>= λ left. Ok ((map cells_in vs ++ z ∷ []) ++ left)) (sym seen.next)
          ∙ ap (λ ys. columns_at m d None rest (suc i) r rows rows >>= λ left. Ok (ys ++ left)) (sym (map-append cells_in vs (v ∷ [])));
    })

pub all_seen : (m : RecordBatch) (d : Dictionaries) (fs : Fields) (i rows : ℕ) (vs : List View) (q : Place) → width fs ≤ i → ColumnsDone m d fs i rows vs q → columns_at m d None fs 0 first_place rows rows ≡ Ok (map cells_in vs)
unfolding columns_at bind
all_seen m d fs i rows vs q h done =
    done.cells ∙ ap (λ gs. columns_at m d None gs i q rows rows >>= λ left. Ok (map cells_in vs ++ left)) (dropped_end fs i h) ∙ ap Ok (append-nil (map cells_in vs))

-- ── the kinds of a schema ──

shown_there : (s : List Keyed) (i : ℕ) (x : Keyed) → slice_get s i ≡ Some x → are_shown (fields_in s) ≡ true → is_shown x.1.kind ≡ true
shown_there [] zero x h f = cc
shown_there [] (suc i) x h f = cc
shown_there (y ∷ s) zero x h f = let e : y ≡ x = cc in subst (λ (z : Keyed). is_shown z.1.kind ≡ true) e (and_parts (is_shown y.1.kind) (are_shown (fields_in s)) f).0
shown_there (y ∷ s) (suc i) x h f = shown_there s i x h (and_parts (is_shown y.1.kind) (are_shown (fields_in s)) f).1

pub shown_field : (s : List Keyed) (i : ℕ) (f : Field) → IsFieldAt s i f → are_shown (fields_in s) ≡ true → is_shown (kind_of f.dtype) ≡ true
shown_field s i f h shown = ap is_shown (sym h.kind) ∙ shown_there s i (h.key, child_of f) h.at shown
