-- What is wrong with unions is told by their parts and their children.
use Rattle.std.proofs.Common.{◌≡◌, ℕ, zero, suc, ◌<◌, List, [], ◌++◌, length, get_or, Option, Some, None, Bool, true, false, ◌&&◌, ◌||◌, ℤ, refl, sym, ap, subst, ◌∙◌, arith, inl}
use Rattle.std.specs.Prelude.{nat_le, nat_lt, slice_index_or}
use Rattle.std.specs.Int.{w8, w32}
use Rattle.arrow_spec.specs.declared.error.IpcError.{IpcError}
use Rattle.arrow_spec.specs.declared.error.IpcError.TheVariants.{OutOfSpec, Unsupported}
use Rattle.arrow_spec.specs.declared.error.OutOfSpecKind.TheVariants.{InvalidOffsets, InvalidUnion}
use Rattle.arrow_spec.specs.declared.error.Feature.TheVariants.{UnionNulls}
use Rattle.arrow_spec.specs.declared.types.UnionMode.{UnionMode}
use Rattle.arrow_spec.specs.declared.types.UnionMode.TheVariants.{Dense, Sparse}
use Rattle.arrow_spec.specs.Readings.{IsAmong, Refuses}
use Rattle.arrow_spec.specs.Kinds as kind
use Rattle.arrow_spec.specs.Kinds.{Kind, Fields, width}
use Rattle.arrow_spec.specs.Counts.{RecordBatch, Place, after, inside, is_negative, magnitude, union_buffers}
use Rattle.arrow_spec.specs.Arrays.{Dictionaries, has_nulls, id_place, node_of, signed_in, types_buffer}
use Rattle.arrow_spec.specs.Faults.{array_faults, cause, child_faults, dense_buffer_faults, dense_faults, if_sound, is_bad_row, is_no_id, node_faults, numbers_faults, place_in, some_row, union_faults}
use Rattle.arrow_spec.proofs.Fewer.{child_ends, none_first, none_second}
use Rattle.arrow_arrays.proofs.UnionPlaces.{id_below}
use Rattle.arrow_buffers.proofs.Rows.{some_at}
use Rattle.ipc_read.proofs.Refusals.{both_none, no_cause, refuses_by, refuses_left, refuses_more, refuses_none, refuses_right, refuses_sound}
use Rattle.ipc_read_laws.proofs.Buffers.{some_row-same}
use Rattle.view_types.specs.Views.{Top, View, Views, none, also, rows_at, rows_each, rows_of, type_in, views}
use Rattle.view_types.proofs.Children.{rows_in_vector}
use Rattle.ipc_view.specs.Nested.{AreViewsOf, rows_by, seen_faults}
use Rattle.ipc_view.specs.Unions.{AreTyped, IsTyped, IsUnionTop, child_rows, is_bad_offset, is_bad_place, is_misplaced, is_placed_wrong, is_untyped, place_number, row_causes, union_causes, union_top_faults}
use Rattle.ipc_view.proofs.NestedFaults.{node_refused}

-- ── the children's rows ──

pub rows_listed : (cs : Views) (i : ℕ) → slice_index_or (rows_each cs) i 0 ≡ rows_at cs i
rows_listed none i = refl
rows_listed (also v vs) zero = refl
rows_listed (also v vs) (suc i) = rows_listed vs i

pub rows_needed : (m : RecordBatch) (d : Dictionaries) (fs : Fields) (p : Place) (need : Place → ℕ) (cs : Views) → AreViewsOf m d fs p need cs → (i : ℕ) → i < width fs → rows_at cs i ≡ need (place_in m fs i p)
rows_needed m d kind.none p need cs h i below = absurd (omega (arith, below))
rows_needed m d (kind.field name nullable metadata k others) p need none h i below = absurd h
rows_needed m d (kind.field name nullable metadata k others) p need (also v vs) h zero below = h.0.all_rows
rows_needed m d (kind.field name nullable metadata k others) p need (also v vs) h (suc i) below = rows_needed m d others (after m k p) need vs h.1 i (omega (arith, below))

-- ── rows ──

among_more : (b c : Bool) (x y : IpcError) → (b ≡ true → c ≡ true) → IsAmong (cause b x) y → IsAmong (cause c x) y
among_more true c x y h a = rw (h refl) a
among_more false c x y h a = absurd a

row_among : (bad : ℕ → Bool) (n k : ℕ) (x e : IpcError) → k < n → Refuses e (cause (bad k) x) → Refuses e (cause (some_row bad n) x)
row_among bad n k x e h r = refuses_more (cause (bad k) x) (cause (some_row bad n) x) e (λ y a. among_more (bad k) (some_row bad n) x y (λ b. some_at bad n k h b) a) r

-- what is wrong with a row is wrong with all
pub row_refused : (t : Top) (mode : UnionMode) (ns : List ℕ) (row : ℕ) (e : IpcError) → row < t.rows → Refuses e (row_causes t mode ns row) → Refuses e (union_causes t mode ns)
row_refused t mode ns row e h r =
    let typed = cause (some_row (is_untyped t) t.rows) (OutOfSpec InvalidUnion) in
    let placed = cause (some_row (is_misplaced t mode ns) t.rows) (OutOfSpec InvalidOffsets) in
    refuses_by (cause (is_untyped t row) (OutOfSpec InvalidUnion)) (cause (is_misplaced t mode ns row) (OutOfSpec InvalidOffsets)) (typed ++ placed) e
    (λ a. refuses_left typed placed e (row_among (is_untyped t) t.rows row (OutOfSpec InvalidUnion) e h a))
    (λ a. refuses_right typed placed e (row_among (is_misplaced t mode ns) t.rows row (OutOfSpec InvalidOffsets) e h a)) r

pub untyped_refused : (t : Top) (mode : UnionMode) (ns : List ℕ) (row : ℕ) → id_place t.ids (type_in t row) ≡ None → Refuses (OutOfSpec InvalidUnion) (row_causes t mode ns row)
untyped_refused t mode ns row h = refuses_left (cause (is_untyped t row) (OutOfSpec InvalidUnion)) _ (OutOfSpec InvalidUnion) (rw (ap is_no_id h) (inl refl))

pub misplaced_refused : (t : Top) (mode : UnionMode) (ns : List ℕ) (row : ℕ) → is_misplaced t mode ns row ≡ true → Refuses (OutOfSpec InvalidOffsets) (row_causes t mode ns row)
misplaced_refused t mode ns row h = refuses_right (cause (is_untyped t row) (OutOfSpec InvalidUnion)) _ (OutOfSpec InvalidOffsets) (rw h (inl refl))

-- where a type is an id its child is there, and its offset is as the child's rows say
pub rows_of_child : (vs : List View) (i : ℕ) (v : View) → i < length vs → v ≡ get_or vs i v → slice_index_or (rows_each (views vs)) i 0 ≡ rows_of v
rows_of_child vs i v l e = rows_listed (views vs) i ∙ rows_in_vector vs i v l e

pub placed_as : (t : Top) (mode : UnionMode) (ns : List ℕ) (row i n : ℕ) → id_place t.ids (type_in t row) ≡ Some i → n ≡ slice_index_or ns i 0 → is_misplaced t mode ns row ≡ is_placed_wrong t mode n row
placed_as t Sparse ns row i n e h = refl
placed_as t Dense ns row i n e h = ap (λ r. is_bad_place ns r (place_number t row)) e ∙ ap (λ k. is_bad_offset k (place_number t row)) (sym h)

pub row_typed : (t : Top) (mode : UnionMode) (ns : List ℕ) (row i : ℕ) → id_place t.ids (type_in t row) ≡ Some i → is_misplaced t mode ns row ≡ false → IsTyped t mode ns row
row_typed t mode ns row i e h = record { typed = ap is_no_id e; placed = h }

pub row_fine : (t : Top) (mode : UnionMode) (ns : List ℕ) (row : ℕ) → IsTyped t mode ns row → row_causes t mode ns row ≡ []
row_fine t mode ns row h = both_none _ _ (no_cause (is_untyped t row) (OutOfSpec InvalidUnion) h.typed) (no_cause (is_misplaced t mode ns row) (OutOfSpec InvalidOffsets) h.placed)

pub rows_fine : (t : Top) (mode : UnionMode) (ns : List ℕ) → AreTyped t mode ns → union_causes t mode ns ≡ []
rows_fine t mode ns h = both_none _ _ (no_cause _ (OutOfSpec InvalidUnion) h.typed) (no_cause _ (OutOfSpec InvalidOffsets) h.placed)

-- ── what is wrong with the whole ──

abbrev pub below : RecordBatch → Dictionaries → UnionMode → Fields → Place → ℕ → List IpcError
below m d mode fs p rows = child_faults m d fs (inside (union_buffers m.version mode) p) (rows_by (child_rows mode rows) m)

array_is : (m : RecordBatch) (d : Dictionaries) (mode : UnionMode) (stated : Bool) (ids : List ℤ) (fs : Fields) (p : Place) (n : ℕ) → array_faults m d (kind.union mode stated ids fs) p (suc n) ≡ node_faults m p (suc n) ++ union_faults m mode ids fs p (suc n) ++ below m d mode fs p (suc n)
array_is m d Sparse stated ids fs p n = refl
array_is m d Dense stated ids fs p n = refl

array_none : (m : RecordBatch) (d : Dictionaries) (mode : UnionMode) (stated : Bool) (ids : List ℤ) (fs : Fields) (p : Place) → array_faults m d (kind.union mode stated ids fs) p 0 ≡ node_faults m p 0 ++ below m d mode fs p 0
array_none m d Sparse stated ids fs p = refl
array_none m d Dense stated ids fs p = refl

abbrev buffers_bad : RecordBatch → UnionMode → Place → ℕ → List IpcError
buffers_bad m mode p rows = numbers_faults m (types_buffer m p) 1 rows ++ dense_buffer_faults m mode p rows

abbrev nulls_bad : RecordBatch → Place → List IpcError
nulls_bad m p = cause (nat_lt p.buffer (types_buffer m p) && has_nulls m p) (Unsupported UnionNulls)

abbrev rows_bad : RecordBatch → UnionMode → List ℤ → Fields → Place → ℕ → List IpcError
rows_bad m mode ids fs p rows = cause (some_row (λ row. is_no_id (id_place ids (signed_in m w8 (types_buffer m p) row))) rows) (OutOfSpec InvalidUnion) ++ dense_faults m mode ids fs p rows

own_are : (m : RecordBatch) (mode : UnionMode) (ids : List ℤ) (fs : Fields) (p : Place) (rows : ℕ) → union_faults m mode ids fs p rows ≡ nulls_bad m p ++ if_sound (buffers_bad m mode p rows) (rows_bad m mode ids fs p rows)
unfolding union_faults
own_are m mode ids fs p rows = refl

abbrev union_kind : UnionMode → Bool → List ℤ → Fields → Kind
union_kind mode stated ids fs = kind.union mode stated ids fs

pub union_node : (m : RecordBatch) (d : Dictionaries) (k : Kind) (p : Place) (rows : ℕ) (e : IpcError) → Refuses e (node_faults m p rows) → Refuses e (seen_faults m d k p rows)
union_node m d k p rows e h = refuses_left (array_faults m d k p rows) _ e (node_refused m d k p rows e h)

own_refused : (m : RecordBatch) (d : Dictionaries) (mode : UnionMode) (stated : Bool) (ids : List ℤ) (fs : Fields) (p : Place) (n : ℕ) (e : IpcError) → Refuses e (union_faults m mode ids fs p (suc n)) → Refuses e (seen_faults m d (kind.union mode stated ids fs) p (suc n))
own_refused m d mode stated ids fs p n e h =
    let k = kind.union mode stated ids fs in
    refuses_left (array_faults m d k p (suc n)) _ e (subst (λ es. Refuses e es) (sym (array_is m d mode stated ids fs p n))
    (refuses_left (node_faults m p (suc n) ++ union_faults m mode ids fs p (suc n)) _ e (refuses_right (node_faults m p (suc n)) _ e h)))

pub union_top_refused : (m : RecordBatch) (d : Dictionaries) (mode : UnionMode) (stated : Bool) (ids : List ℤ) (fs : Fields) (p : Place) (rows : ℕ) (e : IpcError) → Refuses e (union_top_faults m mode p rows) → Refuses e (seen_faults m d (kind.union mode stated ids fs) p rows)
union_top_refused m d mode stated ids fs p zero e h = refuses_none _ e h
union_top_refused m d mode stated ids fs p (suc n) e h =
    own_refused m d mode stated ids fs p n e (subst (λ es. Refuses e es) (sym (own_are m mode ids fs p (suc n)))
    (refuses_by (nulls_bad m p) (buffers_bad m mode p (suc n)) (nulls_bad m p ++ if_sound (buffers_bad m mode p (suc n)) (rows_bad m mode ids fs p (suc n))) e
    (λ r. refuses_left (nulls_bad m p) _ e r)
    (λ r. refuses_right (nulls_bad m p) _ e (refuses_sound (buffers_bad m mode p (suc n)) _ e r)) h))

pub union_child_refused : (m : RecordBatch) (d : Dictionaries) (mode : UnionMode) (stated : Bool) (ids : List ℤ) (fs : Fields) (p : Place) (rows : ℕ) (e : IpcError) → Refuses e (below m d mode fs p rows) → Refuses e (seen_faults m d (kind.union mode stated ids fs) p rows)
union_child_refused m d mode stated ids fs p zero e h =
    refuses_left (array_faults m d (kind.union mode stated ids fs) p 0) _ e (subst (λ es. Refuses e es) (sym (array_none m d mode stated ids fs p)) (refuses_right (node_faults m p 0) _ e h))
union_child_refused m d mode stated ids fs p (suc n) e h =
    refuses_left (array_faults m d (kind.union mode stated ids fs) p (suc n)) _ e (subst (λ es. Refuses e es) (sym (array_is m d mode stated ids fs p n))
    (refuses_right (node_faults m p (suc n) ++ union_faults m mode ids fs p (suc n)) _ e h))

-- ── told by the ranges ──

-- what the parts and the children of a union are, where nothing is wrong with either
pub record UnionWell (m : RecordBatch) (d : Dictionaries) (mode : UnionMode) (ids : List ℤ) (fs : Fields) (p : Place) (rows : ℕ) (t : Top) (cs : Views) : Type 0 where
  pub shows : IsUnionTop m mode ids p rows t
  pub top : union_top_faults m mode p rows ≡ []
  pub many : length ids ≡ width fs
  pub children : AreViewsOf m d fs (inside (union_buffers m.version mode) p) (rows_by (child_rows mode rows) m) cs
  pub fine : below m d mode fs p rows ≡ []

place_told : (m : RecordBatch) (d : Dictionaries) (ids : List ℤ) (fs : Fields) (q : Place) (ty at : ℤ) (r : Option ℕ) (cs : Views) → id_place ids ty ≡ r → length ids ≡ width fs → AreViewsOf m d fs q (λ z. magnitude (node_of m z.node).length) cs
    → child_faults m d fs q (λ z. magnitude (node_of m z.node).length) ≡ [] → is_bad_row m fs q r at ≡ is_bad_place (rows_each cs) r at
place_told m d ids fs q ty at None cs e many h fine = refl
place_told m d ids fs q ty at (Some i) cs e many h fine =
    let inside : i < width fs = omega (arith, id_below ids ty i e, many) in
    ap (λ n. is_negative at || nat_le n (magnitude at)) (child_ends m d fs q _ fine i inside ∙ sym (rows_needed m d fs q _ cs h i inside) ∙ sym (rows_listed cs i))

cause_same : (f g : ℕ → Bool) (n k : ℕ) (x : IpcError) → n ≡ k → ((row : ℕ) → row < n → f row ≡ g row) → cause (some_row f n) x ≡ cause (some_row g k) x
cause_same f g n k x e h = ap (λ b. cause b x) (some_row-same f g n h ∙ ap (some_row g) e)

dense_told : (m : RecordBatch) (d : Dictionaries) (mode : UnionMode) (ids : List ℤ) (fs : Fields) (p : Place) (n : ℕ) (t : Top) (cs : Views) → UnionWell m d mode ids fs p (suc n) t cs
    → dense_faults m mode ids fs p (suc n) ≡ cause (some_row (is_misplaced t mode (rows_each cs)) t.rows) (OutOfSpec InvalidOffsets)
dense_told m d Sparse ids fs p n t cs w = sym (no_cause _ (OutOfSpec InvalidOffsets) (none_bad t.rows))
  where
    none_bad : (k : ℕ) → some_row (is_misplaced t Sparse (rows_each cs)) k ≡ false
    none_bad zero = refl
    none_bad (suc k) = rw (none_bad k) refl
dense_told m d Dense ids fs p n t cs w =
    let q = inside (union_buffers m.version Dense) p in
    let ty = λ (row : ℕ). signed_in m w8 (types_buffer m p) row in
    let at = λ (row : ℕ). signed_in m w32 (suc (types_buffer m p)) row in
    cause_same (λ row. is_bad_row m fs q (id_place ids (ty row)) (at row)) (is_misplaced t Dense (rows_each cs)) (suc n) t.rows (OutOfSpec InvalidOffsets) (sym w.shows.all_rows)
    (λ row l. place_told m d ids fs q (ty row) (at row) (id_place ids (ty row)) cs refl w.many w.children w.fine
    ∙ ap (λ xs. is_bad_place (rows_each cs) (id_place xs (ty row)) (at row)) (sym w.shows.ids_are)
    ∙ ap (λ x. is_bad_place (rows_each cs) (id_place t.ids x) (at row)) (sym (w.shows.types row l))
    ∙ ap (λ x. is_bad_place (rows_each cs) (id_place t.ids (type_in t row)) x) (sym (w.shows.places refl row l)))

sound_is : (xs ys : List IpcError) → xs ≡ [] → if_sound xs ys ≡ ys
sound_is xs ys h = rw h refl

pub union_told : (m : RecordBatch) (d : Dictionaries) (mode : UnionMode) (ids : List ℤ) (fs : Fields) (p : Place) (n : ℕ) (t : Top) (cs : Views) → UnionWell m d mode ids fs p (suc n) t cs → union_faults m mode ids fs p (suc n) ≡ union_causes t mode (rows_each cs)
union_told m d mode ids fs p n t cs w =
    own_are m mode ids fs p (suc n)
    ∙ ap (λ es. es ++ if_sound (buffers_bad m mode p (suc n)) (rows_bad m mode ids fs p (suc n))) (none_first (nulls_bad m p) (buffers_bad m mode p (suc n)) w.top)
    ∙ sound_is (buffers_bad m mode p (suc n)) _ (none_second (nulls_bad m p) (buffers_bad m mode p (suc n)) w.top)
    ∙ ap (λ es. es ++ dense_faults m mode ids fs p (suc n)) (cause_same _ (is_untyped t) (suc n) t.rows (OutOfSpec InvalidUnion) (sym w.shows.all_rows)
    (λ row l. ap (λ xs. is_no_id (id_place xs (signed_in m w8 (types_buffer m p) row))) (sym w.shows.ids_are) ∙ ap (λ x. is_no_id (id_place t.ids x)) (sym (w.shows.types row l))))
    ∙ ap (λ es. cause (some_row (is_untyped t) t.rows) (OutOfSpec InvalidUnion) ++ es) (dense_told m d mode ids fs p n t cs w)

-- where there are no rows nothing is wrong with them
no_causes : (t : Top) (mode : UnionMode) (ns : List ℕ) → t.rows ≡ 0 → union_causes t mode ns ≡ []
no_causes t mode ns h = ap (λ n. cause (some_row (is_untyped t) n) (OutOfSpec InvalidUnion) ++ cause (some_row (is_misplaced t mode ns) n) (OutOfSpec InvalidOffsets)) h

pub union_rows_refused : (m : RecordBatch) (d : Dictionaries) (mode : UnionMode) (stated : Bool) (ids : List ℤ) (fs : Fields) (p : Place) (rows : ℕ) (t : Top) (cs : Views) (e : IpcError) → UnionWell m d mode ids fs p rows t cs → Refuses e (union_causes t mode (rows_each cs)) → Refuses e (seen_faults m d (kind.union mode stated ids fs) p rows)
union_rows_refused m d mode stated ids fs p zero t cs e w h = refuses_none _ e (subst (λ es. Refuses e es) (no_causes t mode (rows_each cs) w.shows.all_rows) h)
union_rows_refused m d mode stated ids fs p (suc n) t cs e w h = own_refused m d mode stated ids fs p n e (subst (λ es. Refuses e es) (sym (union_told m d mode ids fs p n t cs w)) h)

pub union_fits : (m : RecordBatch) (d : Dictionaries) (mode : UnionMode) (stated : Bool) (ids : List ℤ) (fs : Fields) (p : Place) (rows : ℕ) (t : Top) (cs : Views) → UnionWell m d mode ids fs p rows t cs → node_faults m p rows ≡ [] → union_causes t mode (rows_each cs) ≡ [] → array_faults m d (kind.union mode stated ids fs) p rows ≡ []
union_fits m d mode stated ids fs p zero t cs w node h = array_none m d mode stated ids fs p ∙ both_none (node_faults m p 0) _ node w.fine
union_fits m d mode stated ids fs p (suc n) t cs w node h =
    array_is m d mode stated ids fs p n ∙ both_none (node_faults m p (suc n) ++ union_faults m mode ids fs p (suc n)) _ (both_none (node_faults m p (suc n)) _ node (union_told m d mode ids fs p n t cs w ∙ h)) w.fine
