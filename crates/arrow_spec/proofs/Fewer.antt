-- What holds of an array that is read for some rows holds of it where it is read for fewer.
use Rattle.std.proofs.Common.{◌≡◌, ℕ, zero, suc, ◌+◌, ◌-◌, ◌*◌, ◌<◌, ◌≤◌, List, [], ◌∷◌, ◌++◌, length, Option, Some, None, Bool, true, false, refl, sym, arith, not, ◌&&◌, ◌||◌, cond}
use Rattle.std.specs.Prelude.{nat_lt, slice_get, ℤ}
use Rattle.std.specs.Int.{byte_len}
use Rattle.std.specs.Str.{is_utf8}
use Rattle.std.proofs.lemmas.Bool.{ltb-false, le-ltb, or_parts, or_from, leb-false}
use Rattle.arrow_spec.specs.declared.error.IpcError.{IpcError}
use Rattle.arrow_spec.specs.declared.error.IpcError.TheVariants.{OutOfSpec}
use Rattle.arrow_spec.specs.declared.error.OutOfSpecKind.TheVariants as kinds
use Rattle.arrow_spec.specs.declared.message.FieldNode.{FieldNode}
use Rattle.arrow_spec.specs.declared.types.UnionMode.{UnionMode}
use Rattle.arrow_spec.specs.declared.types.UnionMode.TheVariants.{Dense, Sparse}
use Rattle.arrow_spec.specs.declared.types.IntervalUnit.TheVariants.{YearMonth, DayTime, MonthDayNano}
use Rattle.arrow_spec.specs.declared.types.IntegerType.{IntegerType}
use Rattle.arrow_spec.specs.Kinds.{Kind, Fields, none, field, width, boolean, integer, date32, date64, time32, time64, timestamp, duration, interval, decimal, binary, utf8, binary_view, utf8_view, fixed_size_binary, «list», fixed_size_list, struct, map, union, dictionary, extension, Offsets, small}
use Rattle.arrow_spec.specs.Counts.{RecordBatch, Place, magnitude, is_negative, inside, after, union_buffers}
use Rattle.arrow_spec.specs.Cells.{Cell}
use Rattle.arrow_spec.specs.Arrays.{Dictionaries, valid, has_nulls, range_of, offset_width, offset, signed_in, row_bytes, integer_width, found, types_buffer, node_of, node_or_none, or_0}
use Rattle.arrow_spec.specs.Faults.{cause, if_sound, some_row, some_valid_row, node_causes, node_faults, bitmap_faults, validity_faults, numbers_faults, fixed_faults, offsets_buffer_faults, offsets_faults, bytes_faults, utf8_faults, view_parts_faults, views_faults, view_text_faults, key_faults, dense_buffer_faults, dense_faults, union_faults, flat_faults, array_faults, child_faults, view_count_faults, child_end, end_of, is_bad_row, is_no_id, place_in}

-- ── nothing is wrong with the whole where nothing is with its parts ──

pub cause-none : (b : Bool) (e : IpcError) → cause b e ≡ [] → b ≡ false
cause-none true e h = cc
cause-none false e h = refl

pub cause-false : (b : Bool) (e : IpcError) → b ≡ false → cause b e ≡ []
cause-false true e h = cc
cause-false false e h = refl

pub none_first : (xs ys : List IpcError) → xs ++ ys ≡ [] → xs ≡ []
none_first [] ys h = refl
none_first (x ∷ xs) ys h = cc

pub none_second : (xs ys : List IpcError) → xs ++ ys ≡ [] → ys ≡ []
none_second [] ys h = h
none_second (x ∷ xs) ys h = cc

pub none_both : (xs ys : List IpcError) → xs ≡ [] → ys ≡ [] → xs ++ ys ≡ []
none_both [] ys h k = k
none_both (x ∷ xs) ys h k = cc

pub sound_first : (xs ys : List IpcError) → if_sound xs ys ≡ [] → xs ≡ []
sound_first [] ys h = refl
sound_first (x ∷ xs) ys h = cc

pub sound_second : (xs ys : List IpcError) → if_sound xs ys ≡ [] → ys ≡ []
sound_second [] ys h = h
sound_second (x ∷ xs) ys h = cc

pub sound_both : (xs ys : List IpcError) → xs ≡ [] → ys ≡ [] → if_sound xs ys ≡ []
sound_both [] ys h k = k
sound_both (x ∷ xs) ys h k = cc

-- from parts to parts
pub along : (xs ys xs' ys' : List IpcError) → (xs ≡ [] → xs' ≡ []) → (ys ≡ [] → ys' ≡ []) → xs ++ ys ≡ [] → xs' ++ ys' ≡ []
along xs ys xs' ys' f g h = none_both xs' ys' (f (none_first xs ys h)) (g (none_second xs ys h))

pub along_sound : (xs ys xs' ys' : List IpcError) → (xs ≡ [] → xs' ≡ []) → (ys ≡ [] → ys' ≡ []) → if_sound xs ys ≡ [] → if_sound xs' ys' ≡ []
along_sound xs ys xs' ys' f g h = sound_both xs' ys' (f (sound_first xs ys h)) (g (sound_second xs ys h))

pub along_cause : (b b' : Bool) (e e' : IpcError) → (b ≡ false → b' ≡ false) → cause b e ≡ [] → cause b' e' ≡ []
along_cause b b' e e' f h = cause-false b' e' (f (cause-none b e h))

-- ── rows ──

pub some_row-none : (bad : ℕ → Bool) (n k : ℕ) → some_row bad n ≡ false → k < n → bad k ≡ false
some_row-none bad zero k h below = absurd (omega (arith, below))
some_row-none bad (suc n) k h below =
    let both = or_parts (some_row bad n) (bad n) h in
    elim (Rattle.std.proofs.lemmas.Bool.cases_eq k n) [
      | Rattle.std.proofs.Common.inl e ↦ rw e both.1
      | Rattle.std.proofs.Common.inr other ↦ some_row-none bad n k both.0 (omega (arith, below, other))
    ]

pub some_row-all : (bad : ℕ → Bool) (n : ℕ) → ((k : ℕ) → k < n → bad k ≡ false) → some_row bad n ≡ false
some_row-all bad zero f = refl
some_row-all bad (suc n) f = or_from (some_row bad n) (bad n) (some_row-all bad n (λ k below. f k (omega (arith, below)))) (f n (omega arith))

pub some_row-fewer : (bad : ℕ → Bool) (n few : ℕ) → few ≤ n → some_row bad n ≡ false → some_row bad few ≡ false
some_row-fewer bad n few less h = some_row-all bad few (λ k below. some_row-none bad n k h (omega (arith, less, below)))

-- a number that is not below a bound is not below a lesser one
pub not_below_less : (x n few : ℕ) → few ≤ n → nat_lt x n ≡ false → nat_lt x few ≡ false
not_below_less x n few less h = le-ltb x few (omega (arith, less, ltb-false x n h))

-- ── flat arrays ──

node_causes-fewer : (x : Option FieldNode) (n few : ℕ) → few ≤ n → node_causes x n ≡ [] → node_causes x few ≡ []
node_causes-fewer None n few less h = cc
node_causes-fewer (Some node) n few less h = by_sign (is_negative node.length) h
  where
    by_sign : (negative : Bool) → cond negative (OutOfSpec kinds.UnexpectedNegativeInteger ∷ []) (cause (nat_lt (magnitude node.length) n) (OutOfSpec kinds.NodeLength)) ≡ [] → cond negative (OutOfSpec kinds.UnexpectedNegativeInteger ∷ []) (cause (nat_lt (magnitude node.length) few) (OutOfSpec kinds.NodeLength)) ≡ []
    by_sign true g = cc
    by_sign false g = along_cause _ _ _ _ (not_below_less (magnitude node.length) n few less) g

pub node_faults-fewer : (m : RecordBatch) (p : Place) (n few : ℕ) → few ≤ n → node_faults m p n ≡ [] → node_faults m p few ≡ []
unfolding node_faults
node_faults-fewer m p n few less h = node_causes-fewer (slice_get m.nodes p.node) n few less h

pub bitmap_faults-fewer : (m : RecordBatch) (i n few : ℕ) → few ≤ n → bitmap_faults m i n ≡ [] → bitmap_faults m i few ≡ []
unfolding bitmap_faults
bitmap_faults-fewer m i n few less h = along_sound _ _ _ _ (λ k. k) (along_cause _ _ _ _ (not_below_less (8 * magnitude (range_of m i).length) n few less)) h

if_nulls : (b : Bool) (xs ys : List IpcError) → (xs ≡ [] → ys ≡ []) → cond b xs [] ≡ [] → cond b ys [] ≡ []
if_nulls true xs ys f h = f h
if_nulls false xs ys f h = refl

pub validity_faults-fewer : (m : RecordBatch) (p : Place) (n few : ℕ) → few ≤ n → validity_faults m p n ≡ [] → validity_faults m p few ≡ []
unfolding validity_faults
validity_faults-fewer m p n zero less h = refl
validity_faults-fewer m p zero (suc k) less h = absurd (omega (arith, less))
validity_faults-fewer m p (suc n) (suc k) less h = if_nulls (has_nulls m p) _ _ (bitmap_faults-fewer m p.buffer (suc n) (suc k) less) h

times_less : (w n few : ℕ) → few ≤ n → w * few ≤ w * n
times_less w n few less = grind (arith, less)

pub numbers_faults-fewer : (m : RecordBatch) (i width n few : ℕ) → few ≤ n → numbers_faults m i width n ≡ [] → numbers_faults m i width few ≡ []
unfolding numbers_faults
numbers_faults-fewer m i width n few less h = along_sound _ _ _ _ (λ k. k) (along_cause _ _ _ _ (not_below_less (magnitude (range_of m i).length) (width * n) (width * few) (times_less width n few less))) h

pub fixed_faults-fewer : (m : RecordBatch) (p : Place) (width n few : ℕ) → few ≤ n → fixed_faults m p width n ≡ [] → fixed_faults m p width few ≡ []
fixed_faults-fewer m p width n few less h = along _ _ _ _ (validity_faults-fewer m p n few less) (numbers_faults-fewer m (p.buffer + 1) width n few less) h

-- offsets that do not fall: those of earlier rows are no greater
rising : (f : ℕ → ℕ) (n few : ℕ) → few ≤ n → some_row (λ j. nat_lt (f (suc j)) (f j)) n ≡ false → f few ≤ f n
rising f zero few less h = let e : few ≡ 0 = omega (arith, less) in rw e (omega arith)
rising f (suc n) few less h =
    let both = or_parts (some_row (λ j. nat_lt (f (suc j)) (f j)) n) (nat_lt (f (suc n)) (f n)) h in
    let step : f n ≤ f (suc n) = ltb-false (f (suc n)) (f n) both.1 in
    elim (Rattle.std.proofs.lemmas.Bool.cases_eq few (suc n)) [
      | Rattle.std.proofs.Common.inl e ↦ rw e (omega arith)
      | Rattle.std.proofs.Common.inr other ↦ let before : f few ≤ f n = rising f n few (omega (arith, less, other)) both.0 in omega (arith, step, before)
    ]

offsets_test : RecordBatch → Offsets → ℕ → ℕ → ℕ → Bool
offsets_test m o i rows most = some_row (λ j. is_negative (signed_in m (offset_width o) i j)) (suc rows) || some_row (λ j. nat_lt (offset m o i (suc j)) (offset m o i j)) rows || nat_lt most (offset m o i rows)

offsets_test-fewer : (m : RecordBatch) (o : Offsets) (i n few most : ℕ) → few ≤ n → offsets_test m o i n most ≡ false → offsets_test m o i few most ≡ false
unfolding offsets_test
offsets_test-fewer m o i n few most less h =
    let outer = or_parts _ (nat_lt most (offset m o i n)) h in
    let inner = or_parts _ _ outer.0 in
    let rise : offset m o i few ≤ offset m o i n = rising (λ j. offset m o i j) n few less inner.1 in
    or_from _ _ (or_from _ _ (some_row-fewer _ (suc n) (suc few) (omega (arith, less)) inner.0) (some_row-fewer _ n few less inner.1)) (le-ltb most (offset m o i few) (omega (arith, rise, ltb-false most (offset m o i n) outer.1)))

pub offsets_faults-fewer : (m : RecordBatch) (o : Offsets) (i n few most : ℕ) → few ≤ n → offsets_faults m o i n most ≡ [] → offsets_faults m o i few most ≡ []
unfolding offsets_faults offsets_test
offsets_faults-fewer m o i n few most less h = along_cause _ _ _ _ (offsets_test-fewer m o i n few most less) h

-- the last offset of fewer rows
pub offset-fewer : (m : RecordBatch) (o : Offsets) (i n few most : ℕ) → few ≤ n → offsets_faults m o i n most ≡ [] → offset m o i few ≤ offset m o i n
unfolding offsets_faults
offset-fewer m o i n few most less h =
    let outer = or_parts _ (nat_lt most (offset m o i n)) (cause-none _ _ h) in
    let inner = or_parts _ _ outer.0 in
    rising (λ j. offset m o i j) n few less inner.1

pub offsets_buffer_faults-fewer : (m : RecordBatch) (o : Offsets) (i n few : ℕ) → few ≤ n → offsets_buffer_faults m o i n ≡ [] → offsets_buffer_faults m o i few ≡ []
offsets_buffer_faults-fewer m o i n few less h = numbers_faults-fewer m i (byte_len (offset_width o)) (suc n) (suc few) (omega (arith, less)) h

pub bytes_faults-fewer : (m : RecordBatch) (o : Offsets) (p : Place) (n few : ℕ) → few ≤ n → bytes_faults m o p n ≡ [] → bytes_faults m o p few ≡ []
unfolding bytes_faults
bytes_faults-fewer m o p n few less h = along_sound _ _ _ _ (along _ _ _ _ (along _ _ _ _ (validity_faults-fewer m p n few less) (offsets_buffer_faults-fewer m o (p.buffer + 1) n few less)) (λ k. k)) (offsets_faults-fewer m o (p.buffer + 1) n few (magnitude (range_of m (p.buffer + 2)).length) less) h

pub some_valid_row-fewer : (m : RecordBatch) (p : Place) (bad : ℕ → Bool) (n few : ℕ) (e : IpcError) → few ≤ n → cause (some_valid_row m p bad n) e ≡ [] → cause (some_valid_row m p bad few) e ≡ []
some_valid_row-fewer m p bad n few e less h = along_cause _ _ _ _ (some_row-fewer (λ row. valid m p row && bad row) n few less) h

pub utf8_faults-fewer : (m : RecordBatch) (o : Offsets) (p : Place) (n few : ℕ) → few ≤ n → utf8_faults m o p n ≡ [] → utf8_faults m o p few ≡ []
unfolding utf8_faults
utf8_faults-fewer m o p n few less h = some_valid_row-fewer m p (λ row. not (is_utf8 (row_bytes m o p row))) n few _ less h

pub view_parts_faults-fewer : (m : RecordBatch) (p : Place) (n few : ℕ) → few ≤ n → view_parts_faults m p n ≡ [] → view_parts_faults m p few ≡ []
unfolding view_parts_faults
view_parts_faults-fewer m p n few less h = along _ _ _ _ (along _ _ _ _ (λ k. k) (fixed_faults-fewer m p 16 n few less)) (λ k. k) h

pub views_faults-fewer : (m : RecordBatch) (p : Place) (n few : ℕ) → few ≤ n → views_faults m p n ≡ [] → views_faults m p few ≡ []
unfolding views_faults
views_faults-fewer m p n few less h = along_sound _ _ _ _ (view_parts_faults-fewer m p n few less) (some_valid_row-fewer m p _ n few _ less) h

pub view_text_faults-fewer : (m : RecordBatch) (p : Place) (n few : ℕ) → few ≤ n → view_text_faults m p n ≡ [] → view_text_faults m p few ≡ []
unfolding view_text_faults
view_text_faults-fewer m p n few less h = along_sound _ _ _ _ (view_parts_faults-fewer m p n few less) (along _ _ _ _ (some_valid_row-fewer m p _ n few _ less) (some_valid_row-fewer m p _ n few _ less)) h

pub key_faults-fewer : (m : RecordBatch) (xs : Option (List Cell)) (t : IntegerType) (id : ℤ) (p : Place) (n few : ℕ) → few ≤ n → key_faults m xs t id p n ≡ [] → key_faults m xs t id p few ≡ []
unfolding key_faults
key_faults-fewer m None t id p n few less h = some_valid_row-fewer m p _ n few _ less h
key_faults-fewer m (Some xs) t id p n few less h = some_valid_row-fewer m p _ n few _ less h

dense_buffer_faults-fewer : (m : RecordBatch) (mode : UnionMode) (p : Place) (n few : ℕ) → few ≤ n → dense_buffer_faults m mode p n ≡ [] → dense_buffer_faults m mode p few ≡ []
dense_buffer_faults-fewer m Sparse p n few less h = refl
dense_buffer_faults-fewer m Dense p n few less h = numbers_faults-fewer m (suc (types_buffer m p)) 4 n few less h

dense_faults-fewer : (m : RecordBatch) (mode : UnionMode) (ids : List ℤ) (fs : Fields) (p : Place) (n few : ℕ) → few ≤ n → dense_faults m mode ids fs p n ≡ [] → dense_faults m mode ids fs p few ≡ []
dense_faults-fewer m Sparse ids fs p n few less h = refl
dense_faults-fewer m Dense ids fs p n few less h = along_cause _ _ _ _ (some_row-fewer _ n few less) h

pub union_faults-fewer : (m : RecordBatch) (mode : UnionMode) (ids : List ℤ) (fs : Fields) (p : Place) (n few : ℕ) → few ≤ n → union_faults m mode ids fs p n ≡ [] → union_faults m mode ids fs p few ≡ []
unfolding union_faults
union_faults-fewer m mode ids fs p n few less h = along _ _ _ _ (λ k. k) (along_sound _ _ _ _ (along _ _ _ _ (numbers_faults-fewer m (types_buffer m p) 1 n few less) (dense_buffer_faults-fewer m mode p n few less)) (along _ _ _ _ (along_cause _ _ _ _ (some_row-fewer _ n few less)) (dense_faults-fewer m mode ids fs p n few less))) h

pub flat_faults-fewer : (m : RecordBatch) (d : Dictionaries) (k : Kind) (p : Place) (n few : ℕ) → few ≤ n → flat_faults m d k p n ≡ [] → flat_faults m d k p few ≡ []
flat_faults-fewer m d k p n zero less h = refl
flat_faults-fewer m d k p zero (suc j) less h = absurd (omega (arith, less))
flat_faults-fewer m d boolean p (suc n) (suc j) less h = along _ _ _ _ (validity_faults-fewer m p (suc n) (suc j) less) (bitmap_faults-fewer m (p.buffer + 1) (suc n) (suc j) less) h
flat_faults-fewer m d (integer t) p (suc n) (suc j) less h = fixed_faults-fewer m p (byte_len (integer_width t)) (suc n) (suc j) less h
flat_faults-fewer m d date32 p (suc n) (suc j) less h = fixed_faults-fewer m p 4 (suc n) (suc j) less h
flat_faults-fewer m d date64 p (suc n) (suc j) less h = fixed_faults-fewer m p 8 (suc n) (suc j) less h
flat_faults-fewer m d (time32 u) p (suc n) (suc j) less h = fixed_faults-fewer m p 4 (suc n) (suc j) less h
flat_faults-fewer m d (time64 u) p (suc n) (suc j) less h = fixed_faults-fewer m p 8 (suc n) (suc j) less h
flat_faults-fewer m d (timestamp u tz) p (suc n) (suc j) less h = fixed_faults-fewer m p 8 (suc n) (suc j) less h
flat_faults-fewer m d (duration u) p (suc n) (suc j) less h = fixed_faults-fewer m p 8 (suc n) (suc j) less h
flat_faults-fewer m d (interval YearMonth) p (suc n) (suc j) less h = fixed_faults-fewer m p 4 (suc n) (suc j) less h
flat_faults-fewer m d (interval DayTime) p (suc n) (suc j) less h = fixed_faults-fewer m p 8 (suc n) (suc j) less h
flat_faults-fewer m d (interval MonthDayNano) p (suc n) (suc j) less h = fixed_faults-fewer m p 16 (suc n) (suc j) less h
flat_faults-fewer m d (decimal precision scale) p (suc n) (suc j) less h = fixed_faults-fewer m p 16 (suc n) (suc j) less h
flat_faults-fewer m d (binary o) p (suc n) (suc j) less h = bytes_faults-fewer m o p (suc n) (suc j) less h
flat_faults-fewer m d (utf8 o) p (suc n) (suc j) less h = along_sound _ _ _ _ (bytes_faults-fewer m o p (suc n) (suc j) less) (utf8_faults-fewer m o p (suc n) (suc j) less) h
flat_faults-fewer m d binary_view p (suc n) (suc j) less h = views_faults-fewer m p (suc n) (suc j) less h
flat_faults-fewer m d utf8_view p (suc n) (suc j) less h = view_text_faults-fewer m p (suc n) (suc j) less h
flat_faults-fewer m d (fixed_size_binary size) p (suc n) (suc j) less h = fixed_faults-fewer m p size (suc n) (suc j) less h
flat_faults-fewer m d (dictionary t ordered id k) p (suc n) (suc j) less h = along_sound _ _ _ _ (fixed_faults-fewer m p (byte_len (integer_width t)) (suc n) (suc j) less) (key_faults-fewer m (found d id) t id p (suc n) (suc j) less) h
flat_faults-fewer m d k p (suc n) (suc j) less h = refl

-- ── arrays with children ──

times_few : (size n few : ℕ) → few ≤ n → size * few ≤ size * n
times_few size n few less = grind (arith, less)

mutual
  pub array_faults-fewer : (m : RecordBatch) (d : Dictionaries) (k : Kind) (p : Place) (n few : ℕ) → few ≤ n → array_faults m d k p n ≡ [] → array_faults m d k p few ≡ []
  array_faults-fewer m d (extension name metadata k) p n few less h = array_faults-fewer m d k p n few less h
  array_faults-fewer m d (fixed_size_list size fs) p n few less h = along _ _ _ _ (along _ _ _ _ (node_faults-fewer m p n few less) (validity_faults-fewer m p n few less)) (child_faults-fewer m d fs (inside 1 p) (λ q. size * n) (λ q. size * few) (λ q. times_few size n few less)) h
  array_faults-fewer m d (struct fs) p n few less h = along _ _ _ _ (along _ _ _ _ (node_faults-fewer m p n few less) (validity_faults-fewer m p n few less)) (child_faults-fewer m d fs (inside 1 p) (λ q. n) (λ q. few) (λ q. less)) h
  array_faults-fewer m d («list» o fs) p zero zero less h = h
  array_faults-fewer m d («list» o fs) p zero (suc j) less h = absurd (omega (arith, less))
  array_faults-fewer m d («list» o fs) p (suc n) zero less h =
      let outer = none_first _ _ h in
      let rest = sound_second _ _ (none_second _ _ h) in
      none_both _ _ (node_faults-fewer m p (suc n) 0 less (none_first _ _ outer)) (child_faults-fewer m d fs (inside 2 p) (λ q. offset m o (p.buffer + 1) (suc n)) (λ q. 0) (λ q. omega arith) (none_second _ _ rest))
  array_faults-fewer m d («list» o fs) p (suc n) (suc j) less h =
      let rest = sound_second _ _ (none_second _ _ h) in
      let rise : offset m o (p.buffer + 1) (suc j) ≤ offset m o (p.buffer + 1) (suc n) = offset-fewer m o (p.buffer + 1) (suc n) (suc j) (end_of m (suc p.node)) less (none_first _ _ rest) in
      along _ _ _ _ (along _ _ _ _ (node_faults-fewer m p (suc n) (suc j) less) (validity_faults-fewer m p (suc n) (suc j) less))
      (along_sound _ _ _ _ (offsets_buffer_faults-fewer m o (p.buffer + 1) (suc n) (suc j) less) (along _ _ _ _ (offsets_faults-fewer m o (p.buffer + 1) (suc n) (suc j) (end_of m (suc p.node)) less) (child_faults-fewer m d fs (inside 2 p) (λ q. offset m o (p.buffer + 1) (suc n)) (λ q. offset m o (p.buffer + 1) (suc j)) (λ q. rise))))
      h
  array_faults-fewer m d (map sorted fs) p zero zero less h = h
  array_faults-fewer m d (map sorted fs) p zero (suc j) less h = absurd (omega (arith, less))
  array_faults-fewer m d (map sorted fs) p (suc n) zero less h =
      let outer = none_first _ _ h in
      let rest = sound_second _ _ (none_second _ _ h) in
      none_both _ _ (node_faults-fewer m p (suc n) 0 less (none_first _ _ outer)) (child_faults-fewer m d fs (inside 2 p) (λ q. offset m small (p.buffer + 1) (suc n)) (λ q. 0) (λ q. omega arith) (none_second _ _ rest))
  array_faults-fewer m d (map sorted fs) p (suc n) (suc j) less h =
      let rest = sound_second _ _ (none_second _ _ h) in
      let rise : offset m small (p.buffer + 1) (suc j) ≤ offset m small (p.buffer + 1) (suc n) = offset-fewer m small (p.buffer + 1) (suc n) (suc j) (end_of m (suc p.node)) less (none_first _ _ rest) in
      along _ _ _ _ (along _ _ _ _ (node_faults-fewer m p (suc n) (suc j) less) (validity_faults-fewer m p (suc n) (suc j) less))
      (along_sound _ _ _ _ (offsets_buffer_faults-fewer m small (p.buffer + 1) (suc n) (suc j) less) (along _ _ _ _ (offsets_faults-fewer m small (p.buffer + 1) (suc n) (suc j) (end_of m (suc p.node)) less) (child_faults-fewer m d fs (inside 2 p) (λ q. offset m small (p.buffer + 1) (suc n)) (λ q. offset m small (p.buffer + 1) (suc j)) (λ q. rise))))
      h
  array_faults-fewer m d (union Sparse stated ids fs) p zero zero less h = h
  array_faults-fewer m d (union Sparse stated ids fs) p zero (suc j) less h = absurd (omega (arith, less))
  array_faults-fewer m d (union Sparse stated ids fs) p (suc n) zero less h = none_both _ _ (node_faults-fewer m p (suc n) 0 less (none_first _ _ (none_first _ _ h))) (child_faults-fewer m d fs (inside (union_buffers m.version Sparse) p) (λ q. suc n) (λ q. 0) (λ q. omega arith) (none_second _ _ h))
  array_faults-fewer m d (union Sparse stated ids fs) p (suc n) (suc j) less h = along _ _ _ _ (along _ _ _ _ (node_faults-fewer m p (suc n) (suc j) less) (union_faults-fewer m Sparse ids fs p (suc n) (suc j) less)) (child_faults-fewer m d fs (inside (union_buffers m.version Sparse) p) (λ q. suc n) (λ q. suc j) (λ q. less)) h
  array_faults-fewer m d (union Dense stated ids fs) p zero zero less h = h
  array_faults-fewer m d (union Dense stated ids fs) p zero (suc j) less h = absurd (omega (arith, less))
  array_faults-fewer m d (union Dense stated ids fs) p (suc n) zero less h = none_both _ _ (node_faults-fewer m p (suc n) 0 less (none_first _ _ (none_first _ _ h))) (child_faults-fewer m d fs (inside (union_buffers m.version Dense) p) (λ q. magnitude (node_of m q.node).length) (λ q. 0) (λ q. omega arith) (none_second _ _ h))
  array_faults-fewer m d (union Dense stated ids fs) p (suc n) (suc j) less h = along _ _ _ _ (along _ _ _ _ (node_faults-fewer m p (suc n) (suc j) less) (union_faults-fewer m Dense ids fs p (suc n) (suc j) less)) (child_faults-fewer m d fs (inside (union_buffers m.version Dense) p) (λ q. magnitude (node_of m q.node).length) (λ q. magnitude (node_of m q.node).length) (λ q. omega arith)) h
  array_faults-fewer m d k p n few less h = along _ _ _ _ (node_faults-fewer m p n few less) (flat_faults-fewer m d k p n few less) h

  pub child_faults-fewer : (m : RecordBatch) (d : Dictionaries) (fs : Fields) (p : Place) (rows fewer : Place → ℕ) → ((q : Place) → fewer q ≤ rows q) → child_faults m d fs p rows ≡ [] → child_faults m d fs p fewer ≡ []
  child_faults-fewer m d none p rows fewer less h = refl
  child_faults-fewer m d (field name nullable metadata k others) p rows fewer less h = along _ _ _ _ (array_faults-fewer m d k p (rows p) (fewer p) (less p)) (along_sound (view_count_faults m k p) (child_faults m d others (after m k p) rows) (view_count_faults m k p) (child_faults m d others (after m k p) fewer) (λ x. x) (child_faults-fewer m d others (after m k p) rows fewer less)) h

-- ── rows ──

-- rows between two offsets lie below the last one
pub row_offset : (m : RecordBatch) (o : Offsets) (i n row most : ℕ) → row < n → offsets_faults m o i n most ≡ [] → (j : ℕ) → j < offset m o i row + (offset m o i (suc row) - offset m o i row) → j < offset m o i n
row_offset m o i n row most below h j j_below =
    let step : offset m o i row ≤ offset m o i (suc row) = offset-fewer m o i (suc row) row most (omega arith) (offsets_faults-fewer m o i n (suc row) most (omega (arith, below)) h) in
    let last : offset m o i (suc row) ≤ offset m o i n = offset-fewer m o i n (suc row) most (omega (arith, below)) h in
    omega (arith, step, last, j_below)

-- a row of a fixed-size list lies below the last one
pub fixed_row : (size n row j : ℕ) → row < n → j < size * row + size → j < size * n
fixed_row size n row j below j_below = let whole : size * suc row ≤ size * n = grind (arith, below) in let one : size * suc row ≡ size * row + size = grind arith in omega (arith, whole, one, j_below)

-- a node with which nothing is wrong has the rows that it says
pub node_end : (x : Option FieldNode) (n : ℕ) → node_causes x n ≡ [] → child_end x ≡ magnitude (node_or_none x).length
node_end None n h = cc
node_end (Some node) n h = by_sign (is_negative node.length) h
  where
    by_sign : (negative : Bool) → cond negative (OutOfSpec kinds.UnexpectedNegativeInteger ∷ []) (cause (nat_lt (magnitude node.length) n) (OutOfSpec kinds.NodeLength)) ≡ [] → cond negative 9223372036854775807 (magnitude node.length) ≡ magnitude node.length
    by_sign true g = cc
    by_sign false g = refl

-- an array's node is looked at, whatever its kind
pub array_node : (m : RecordBatch) (d : Dictionaries) (k : Kind) (p : Place) (n : ℕ) → array_faults m d k p n ≡ [] → node_faults m p n ≡ []
array_node m d (extension name metadata k) p n h = array_node m d k p n h
array_node m d («list» o fs) p zero h = none_first _ _ h
array_node m d («list» o fs) p (suc n) h = none_first _ _ (none_first _ _ h)
array_node m d (map sorted fs) p zero h = none_first _ _ h
array_node m d (map sorted fs) p (suc n) h = none_first _ _ (none_first _ _ h)
array_node m d (fixed_size_list size fs) p n h = none_first _ _ (none_first _ _ h)
array_node m d (struct fs) p n h = none_first _ _ (none_first _ _ h)
array_node m d (union Sparse stated ids fs) p zero h = none_first _ _ h
array_node m d (union Sparse stated ids fs) p (suc n) h = none_first _ _ (none_first _ _ h)
array_node m d (union Dense stated ids fs) p zero h = none_first _ _ h
array_node m d (union Dense stated ids fs) p (suc n) h = none_first _ _ (none_first _ _ h)
array_node m d k p n h = none_first _ _ h

array_end : (m : RecordBatch) (d : Dictionaries) (k : Kind) (p : Place) (n : ℕ) → array_faults m d k p n ≡ [] → end_of m p.node ≡ magnitude (node_of m p.node).length
unfolding node_faults
array_end m d k p n h = node_end (slice_get m.nodes p.node) n (array_node m d k p n h)

-- so each child with which nothing is wrong has the rows that its node says
pub child_ends : (m : RecordBatch) (d : Dictionaries) (fs : Fields) (p : Place) (rows : Place → ℕ) → child_faults m d fs p rows ≡ [] → (i : ℕ) → i < width fs → end_of m (place_in m fs i p).node ≡ magnitude (node_of m (place_in m fs i p).node).length
child_ends m d none p rows h i below = absurd (omega (arith, below))
child_ends m d (field name nullable metadata k others) p rows h zero below = array_end m d k p (rows p) (none_first _ _ h)
child_ends m d (field name nullable metadata k others) p rows h (suc i) below = child_ends m d others (after m k p) rows (sound_second _ _ (none_second _ _ h)) i (omega (arith, below))

-- where a type is an id, the child's row is one of its rows
pub dense_row : (m : RecordBatch) (d : Dictionaries) (fs : Fields) (p : Place) (rows : Place → ℕ) (i : Option ℕ) (at : ℤ) → is_no_id i ≡ false → is_bad_row m fs p i at ≡ false → child_faults m d fs p rows ≡ [] → or_0 i < width fs → magnitude at < magnitude (node_of m (place_in m fs (or_0 i) p).node).length
dense_row m d fs p rows None at h k g below = cc
dense_row m d fs p rows (Some i) at h k g below =
    let row : magnitude at < end_of m (place_in m fs i p).node = leb-false (end_of m (place_in m fs i p).node) (magnitude at) (or_parts _ _ k).1 in
    rw (sym (child_ends m d fs p rows g i below)) row
