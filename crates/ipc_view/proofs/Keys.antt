-- Arrays of keys of rows of parts that are held.
use Rattle.std.proofs.Common.{◌≡◌, ℕ, zero, suc, ◌+◌, ◌≤◌, ◌<◌, List, [], ◌++◌, length, map, Bool, true, false, Option, Some, None, IfSome, ℤ, pos, negsuc, slice_get, sum_by, inl, refl, sym, ap, subst, ◌∙◌, arith}
use Rattle.std.specs.Prelude.{◌&&◌}
use Rattle.std.specs.Int.{byte_len}
use Rattle.std.specs.Option.{option_map}
use Rattle.std.proofs.lemmas.Bool.{le-leb, leb-false}
use Rattle.arrow_spec.specs.declared.error.IpcError.{IpcError}
use Rattle.arrow_spec.specs.declared.error.IpcError.TheVariants.{OutOfSpec}
use Rattle.arrow_spec.specs.declared.error.OutOfSpecKind.TheVariants.{InvalidId, InvalidKey}
use Rattle.arrow_spec.specs.declared.types.IntegerType.{IntegerType}
use Rattle.arrow_spec.specs.Readings.{Refuses, is_absent}
use Rattle.arrow_spec.specs.Kinds as kind
use Rattle.arrow_spec.specs.Kinds.{Kind}
use Rattle.arrow_spec.specs.Counts.{RecordBatch, Place, after, inside, magnitude}
use Rattle.arrow_spec.specs.Arrays.{Dictionaries, cell_or_null, found, integer_in, integer_width, keyed, valid}
use Rattle.arrow_spec.specs.Faults.{array_faults, cause, fixed_faults, if_sound, key_faults, node_faults, some_row, some_valid_row, view_count_faults}
use Rattle.arrow_arrays.specs.Heads.{joined}
use Rattle.arrow_buffers.proofs.Rows.{none_below}
use Rattle.ipc_fields.specs.IpcFields.{Ids, kind_with}
use Rattle.ipc_fields.specs.Uses.{id_under}
use Rattle.ipc_read.proofs.Passing.{no_view_faults}
use Rattle.ipc_read.proofs.Places.{same_place}
use Rattle.ipc_read.proofs.Refusals.{both_none, refuses_left, refuses_right, refuses_sound}
use Rattle.ipc_read_laws.specs.Laws.{key_refusal}
use Rattle.ipc_read_laws.proofs.Buffers.{some_row-same}
use Rattle.std.specs.Prelude.{Result}
use Rattle.view_types.specs.declared.layout.Layout.TheVariants.{Dictionary, Number}
use Rattle.view_types.specs.declared.layout.Range.{Range}
use Rattle.view_types.specs.Sound.{HasBits, IsSet, IsSound, Stands, Values}
use Rattle.view_types.specs.Views.{Top, View, array, none, bits_in, cell_among, cells_each, cells_in, held_in, if_set, is_set, is_valid_in, number_in, rows_each, rows_of, views}
use Rattle.ipc_view.specs.declared.batch.ArrayPlace.{ArrayPlace}
use Rattle.ipc_view.specs.declared.batch.BatchTables.{BatchTables}
use Rattle.ipc_view.specs.Built.{HasBitsIn, IsViewOf}
use Rattle.ipc_view.specs.Dictionaries.{IsKeysTop, Shown, ShowsCells, is_bad_key, is_no_key, key_causes, key_top_faults, key_type, keys_top, parts_or_none, rows_key_faults}
use Rattle.ipc_view.specs.Layouts.{IsLeafOf, empty_top}
use Rattle.ipc_view.specs.Nested.{CountsAre, IsSeen, Seen, seen_faults}
use Rattle.ipc_view.proofs.HeldViews.{cells_among, length-joined, part_fits}
use Rattle.ipc_view.proofs.LeafCells.{numbers, viewed_row}
use Rattle.ipc_view.proofs.Places.{counts_of}
use Rattle.ipc_view.proofs.NestedFaults.{node_refused}
use Rattle.ipc_view.proofs.SameArrays.{extended, itself, seen_as}
use Rattle.ipc_view.proofs.Strings.{whole_parts}

-- ── what is wrong with keys ──

-- each key is none of no rows
no_key : (key : ℤ) → true ≡ is_no_key 0 key
no_key (pos n) = sym (le-leb 0 n (omega arith))
no_key (negsuc n) = refl

keys_of : (m : RecordBatch) (o : Option (List View)) (i : IntegerType) (id : ℤ) (p : Place) (rows : ℕ)
    → key_faults m (option_map (λ vs. joined (map cells_in vs)) o) i id p rows ≡ rows_key_faults m i (sum_by rows_of (parts_or_none o)) (is_absent o) id p rows
unfolding key_faults
keys_of m None i id p rows =
    ap (λ b. cause b (OutOfSpec (InvalidId id))) (some_row-same (λ row. valid m p row && true) (λ row. valid m p row && is_no_key 0 (integer_in m i (p.buffer + 1) row)) rows (λ row l. ap (λ b. valid m p row && b) (no_key (integer_in m i (p.buffer + 1) row))))
keys_of m (Some vs) i id p rows = ap (λ n. cause (some_valid_row m p (λ row. is_no_key n (integer_in m i (p.buffer + 1) row)) rows) (OutOfSpec InvalidKey)) (length-joined vs)

keys_told : (m : RecordBatch) (d : Dictionaries) (h : Shown) (i : IntegerType) (id : ℤ) (p : Place) (rows : ℕ) → ShowsCells d h
    → key_faults m (found d id) i id p rows ≡ rows_key_faults m i (sum_by rows_of (parts_or_none (h id))) (is_absent (h id)) id p rows
keys_told m d h i id p rows s = ap (λ o. key_faults m o i id p rows) (s id) ∙ keys_of m (h id) i id p rows

-- with all of a dictionary, its node first
dictionary_told : (m : RecordBatch) (d : Dictionaries) (h : Shown) (i : IntegerType) (ordered : Bool) (id : ℤ) (k : Kind) (p : Place) (rows : ℕ) → ShowsCells d h
    → array_faults m d (kind.dictionary i ordered id k) p rows ≡ node_faults m p rows ++ key_top_faults m i (sum_by rows_of (parts_or_none (h id))) (is_absent (h id)) id p rows
dictionary_told m d h i ordered id k p zero s = refl
dictionary_told m d h i ordered id k p (suc n) s = ap (λ es. node_faults m p (suc n) ++ if_sound (fixed_faults m p (byte_len (integer_width i)) (suc n)) es) (keys_told m d h i id p (suc n) s)

pub keyed_node : (m : RecordBatch) (d : Dictionaries) (i : IntegerType) (ordered : Bool) (id : ℤ) (k : Kind) (p : Place) (rows : ℕ) (e : IpcError) → Refuses e (node_faults m p rows) → Refuses e (seen_faults m d (kind.dictionary i ordered id k) p rows)
keyed_node m d i ordered id k p rows e r = refuses_left (array_faults m d (kind.dictionary i ordered id k) p rows) _ e (node_refused m d (kind.dictionary i ordered id k) p rows e r)

pub keyed_top : (m : RecordBatch) (d : Dictionaries) (h : Shown) (i : IntegerType) (ordered : Bool) (id : ℤ) (k : Kind) (p : Place) (rows held : ℕ) (e : IpcError) → ShowsCells d h → held ≡ sum_by rows_of (parts_or_none (h id))
    → Refuses e (key_top_faults m i held (is_absent (h id)) id p rows) → Refuses e (seen_faults m d (kind.dictionary i ordered id k) p rows)
keyed_top m d h i ordered id k p rows held e s q r =
    refuses_left (array_faults m d (kind.dictionary i ordered id k) p rows) _ e (subst (λ es. Refuses e es) (sym (dictionary_told m d h i ordered id k p rows s))
    (refuses_right (node_faults m p rows) _ e (subst (λ n. Refuses e (key_top_faults m i n (is_absent (h id)) id p rows)) q r)))

-- ── the test of keys ──

pub keys_same : (m : RecordBatch) (i : IntegerType) (held : ℕ) (p : Place) (rows : ℕ) (t : Top) → IsLeafOf m (Number i) p rows t
    → some_valid_row m p (λ row. is_no_key held (integer_in m i (p.buffer + 1) row)) rows ≡ some_row (is_bad_key t i held) t.rows
keys_same m i held p rows t s =
    sym (some_row-same (is_bad_key t i held) _ rows (λ row l. same_and _ _ _ _ (s.bits refl row l) (ap (is_no_key held) (numbers m t i (p.buffer + 1) row s.order s.buffers))))
    ∙ ap (some_row (is_bad_key t i held)) (sym s.all_rows)
  where
    same_and : (a b c d : Bool) → a ≡ b → c ≡ d → (a && c) ≡ (b && d)
    same_and a b c d h k = rw (h, k) refl

sound_is : (xs ys : List IpcError) → xs ≡ [] → if_sound xs ys ≡ ys
sound_is xs ys h = rw h refl

-- what is wrong with keys whose buffers are right is told by the ranges that show them
pub key_top_told : (m : RecordBatch) (i : IntegerType) (held : ℕ) (absent : Bool) (id : ℤ) (p : Place) (rows : ℕ) (t : Top) → (rows ≡ 0 → ⊥) → IsLeafOf m (Number i) p rows t → fixed_faults m p (byte_len (integer_width i)) rows ≡ []
    → key_top_faults m i held absent id p rows ≡ key_causes t i held absent id
key_top_told m i held absent id p zero t some s fine = absurd (some refl)
key_top_told m i held absent id p (suc n) t some s fine =
    sound_is (fixed_faults m p (byte_len (integer_width i)) (suc n)) _ fine ∙ ap (λ b. cause b (key_refusal absent id)) (keys_same m i held p (suc n) t s)

pub key_buffers : (m : RecordBatch) (i : IntegerType) (held : ℕ) (absent : Bool) (id : ℤ) (p : Place) (rows : ℕ) (e : IpcError) → (rows ≡ 0 → ⊥) → Refuses e (fixed_faults m p (byte_len (integer_width i)) rows) → Refuses e (key_top_faults m i held absent id p rows)
key_buffers m i held absent id p zero e some r = absurd (some refl)
key_buffers m i held absent id p (suc n) e some r = refuses_sound (fixed_faults m p (byte_len (integer_width i)) (suc n)) _ e r

key_below : (set : Bool) (held : ℕ) (key : ℤ) → (set && is_no_key held key) ≡ false → set ≡ true → magnitude key < held
key_below false held key h e = cc
key_below true held (pos n) h e = leb-false held n h
key_below true held (negsuc n) h e = cc

keys_fit : (t : Top) (i : IntegerType) (held : ℕ) → some_row (is_bad_key t i held) t.rows ≡ false → (row : ℕ) → row < t.rows → IsSet t row → magnitude (number_in t i row) < held
keys_fit t i held fine row l v = key_below (is_set (bits_in t.input t.validity) row) held (number_in t i row) (none_below (is_bad_key t i held) t.rows fine row l) v

hold_bits : (t : Top) (v : Option Range) → IfSome v (HasBits t) → IfSome v (HasBitsIn t.input t.rows)
hold_bits t None h = tt
hold_bits t (Some r) h = (h.lies, h.room)

pub number_bits : (m : RecordBatch) (i : IntegerType) (p : Place) (rows : ℕ) (t : Top) → IsLeafOf m (Number i) p rows t → IfSome t.validity (HasBitsIn t.input t.rows)
number_bits m i p rows t s = hold_bits t t.validity s.sound.validity

pub number_values : (m : RecordBatch) (i : IntegerType) (p : Place) (rows : ℕ) (t : Top) → IsLeafOf m (Number i) p rows t → Values t (byte_len (integer_width i))
number_values m i p rows t s = subst (λ l. Stands l t none) s.layout_is s.sound.stands

pub is_keys_top : (m : RecordBatch) (i : IntegerType) (held : ℕ) (p : Place) (rows : ℕ) (t : Top) → IsLeafOf m (Number i) p rows t → some_row (is_bad_key t i held) t.rows ≡ false → IsKeysTop m i held p rows (keys_top t i)
is_keys_top m i held p rows t s fine = record {
  all_rows = s.all_rows;
  layout_is = refl;
  bits = s.bits refl;
  has_bits = number_bits m i p rows t s;
  keys = λ row l. numbers m t i (p.buffer + 1) row s.order s.buffers;
  stand = let v = number_values m i p rows t s in record { lies = v.lies; room = v.room };
  fit = keys_fit t i held fine;
}

-- keys of no rows
pub no_keys : (m : RecordBatch) (i : IntegerType) (held : ℕ) (p : Place) (rows : ℕ) (t : Top) (input : List ℕ) (is_big : Bool) → rows ≡ 0 → t ≡ empty_top input is_big (Dictionary i) 0 → IsKeysTop m i held p rows t
no_keys m i held p rows t input is_big few e =
    subst (λ x. IsKeysTop m i held p rows x) (sym e) (record {
      all_rows = sym few;
      layout_is = refl;
      bits = λ row h. absurd (omega (arith, h, few));
      has_bits = tt;
      keys = λ row h. absurd (omega (arith, h, few));
      stand = record { lies = omega arith; room = omega arith };
      fit = λ row h v. absurd (omega (arith, h));
    })

-- ── the view ──

held_cell : (o : Option (List View)) (vs : List View) (key : ℤ) → vs ≡ parts_or_none o → magnitude key < sum_by rows_of vs → cell_among (cells_each (views vs)) (rows_each (views vs)) (magnitude key) ≡ keyed (option_map (λ ws. joined (map cells_in ws)) o) key
held_cell None vs key e h = let none : sum_by rows_of vs ≡ 0 = ap (sum_by rows_of) e in absurd (omega (arith, h, none))
held_cell (Some ws) vs key e h = sym (cells_among vs (magnitude key)) ∙ ap (λ xs. cell_or_null (slice_get (joined (map cells_in xs)) (magnitude key))) e

-- has the cells of the parts at its keys
pub keyed_shown : (m : RecordBatch) (d : Dictionaries) (h : Shown) (i : IntegerType) (ordered : Bool) (id : ℤ) (k : Kind) (p : Place) (rows : ℕ) (t : Top) (vs : List View) → ShowsCells d h → vs ≡ parts_or_none (h id) → IsKeysTop m i (sum_by rows_of vs) p rows t
    → IsViewOf m d (kind.dictionary i ordered id k) p rows (array t (views vs))
keyed_shown m d h i ordered id k p rows t vs s e a = record {
  all_rows = a.all_rows;
  cells = λ row l.
      ap (λ x. if_set (is_valid_in x t row) (held_in x t (cells_each (views vs)) (rows_each (views vs)) row)) a.layout_is
      ∙ viewed_row _ _ _ _ (a.bits row l) (λ v.
      held_cell (h id) vs (number_in t i row) e (a.fit row (omega (arith, l, a.all_rows)) v) ∙ ap (λ o. keyed o (number_in t i row)) (sym (s id)) ∙ ap (keyed (found d id)) (a.keys row l));
}

pub keyed_sound : (m : RecordBatch) (i : IntegerType) (p : Place) (rows : ℕ) (t : Top) (vs : List View) → IsKeysTop m i (sum_by rows_of vs) p rows t → IsSound t (views vs)
keyed_sound m i p rows t vs a = whole_parts t (Dictionary i) (views vs) a.layout_is a.has_bits (record { keys = a.stand; rows = λ row l v. part_fits vs (magnitude (number_in t i row)) (a.fit row l v) })

keyed_behind : (m : RecordBatch) (i : IntegerType) (ordered : Bool) (id : ℤ) (k : Kind) (p : Place) → inside 2 p ≡ after m (kind.dictionary i ordered id k) p
keyed_behind m i ordered id k p = same_place (omega arith) (omega arith) (omega arith)

pub keyed_done : (m : RecordBatch) (d : Dictionaries) (h : Shown) (i : IntegerType) (ordered : Bool) (id : ℤ) (k : Kind) (p q : Place) (rows held : ℕ) (t : Top) (vs : List View) → ShowsCells d h → vs ≡ parts_or_none (h id) → held ≡ sum_by rows_of vs → p.view ≤ length m.variadic → q ≡ inside 2 p
    → node_faults m p rows ≡ [] → key_top_faults m i held (is_absent (h id)) id p rows ≡ [] → IsKeysTop m i held p rows t
    → (seen_faults m d (kind.dictionary i ordered id k) p rows ≡ []) × IsSeen m d (kind.dictionary i ordered id k) p rows (array t (views vs)) q
keyed_done m d h i ordered id k p q rows held t vs s e n few at node fine a =
    let dict = kind.dictionary i ordered id k in
    let counted = no_view_faults m dict p refl few in
    let same : held ≡ sum_by rows_of (parts_or_none (h id)) = n ∙ ap (sum_by rows_of) e in
    let next = at ∙ keyed_behind m i ordered id k p in (
      both_none (array_faults m d dict p rows) (view_count_faults m dict p)
          (dictionary_told m d h i ordered id k p rows s ∙ both_none (node_faults m p rows) _ node (ap (λ x. key_top_faults m i x (is_absent (h id)) id p rows) (sym same) ∙ fine)) counted,
      record { view = keyed_shown m d h i ordered id k p rows t vs s e (subst (λ x. IsKeysTop m i x p rows t) n a); next = next; counts = subst (CountsAre m p) (sym next) (counts_of m dict p counted) },
    )

-- ── kinds whose keys are of a type ──

pub keyed_seen : (t : BatchTables) (r : Result (View × ArrayPlace) IpcError) (k : Kind) (i : IntegerType) (id : Option ℤ) (z : ℤ) (below : Ids) (p : ArrayPlace) (rows : ℕ) → key_type k ≡ Some i → z ≡ id_under id
    → ((ordered : Bool) (v : Kind) → Seen t r (kind.dictionary i ordered z v) p rows) → Seen t r (kind_with k id below) p rows
keyed_seen t r (kind.dictionary j ordered old k) i id z below p rows e q h =
    let same : i ≡ j = cc in
    subst (λ x. Seen t r (kind.dictionary x ordered (id_under id) (kind_with k None below)) p rows) same (subst (λ x. Seen t r (kind.dictionary i ordered x (kind_with k None below)) p rows) q (h ordered (kind_with k None below)))
keyed_seen t r (kind.extension name metadata k) i id z below p rows e q h = let l = kind_with k id below in seen_as t r (kind.extension name metadata l) l p rows (extended name metadata l l (itself l)) (keyed_seen t r k i id z below p rows e q h)
keyed_seen t r k i id z below p rows e q h = cc

-- ── what tests say ──

pub bad_row : (set bad : Bool) → set ≡ true → bad ≡ true → (set && bad) ≡ true
bad_row set bad h k = rw (h, k) refl

key_refused : (b absent : Bool) (id : ℤ) → b ≡ true → Refuses (key_refusal absent id) (cause b (key_refusal absent id))
key_refused b true id h = rw h (inl refl)
key_refused b false id h = rw h (inl refl)

pub refused_here : (b absent : Bool) (id : ℤ) (e : IpcError) → b ≡ true → e ≡ key_refusal absent id → Refuses e (cause b (key_refusal absent id))
refused_here b absent id e h is = subst (λ x. Refuses x (cause b (key_refusal absent id))) (sym is) (key_refused b absent id h)
