-- Columns of dictionaries mean the values that their keys count into.
use Rattle.std.proofs.Common.{◌≡◌, ◌++◌, ◌≤◌, length-append, zero, suc, ℕ, ◌+◌, ◌*◌, ◌^◌, ◌<◌, List, [], ◌∷◌, length, get_or, Option, Some, Bool, true, false, ℤ, pos, negsuc, refl, sym, ap, subst, ◌∙◌, arith}
use Rattle.std.specs.Prelude.{◌&&◌}
use Rattle.std.specs.Int.{Width, w8, w16, w32, w64, w128, byte_len}
use Rattle.std.specs.List.{flat_map, slice_get, AllByRecursion}
use Rattle.std.proofs.lemmas.Bool.{eqb-true, leb-false, lt-leb}
use Rattle.std.proofs.lemmas.List.Elements.{All-from_recursion}
use Rattle.arrow_spec.specs.declared.error.IpcError.{IpcError}
use Rattle.arrow_spec.specs.declared.types.IntegerType.{IntegerType}
use Rattle.arrow_spec.specs.declared.types.IntegerType.TheVariants.{Int8, Int16, Int32, Int64, Int128, UInt8, UInt16, UInt32, UInt64}
use Rattle.arrow_spec.specs.Flat.{Order}
use Rattle.arrow_spec.specs.Held.{Stands}
use Rattle.arrow_spec.specs.Kinds as kind
use Rattle.arrow_spec.specs.Kinds.{Kind, is_same_integer, integer_number}
use Rattle.arrow_spec.specs.Cells.{Cell}
use Rattle.arrow_spec.specs.Counts.{RecordBatch, Place, magnitude}
use Rattle.arrow_spec.specs.Arrays.{Dictionaries, cell_or_null, found, unsigned_in, integer_in, integer_width, if_valid, valid, from_on, keyed}
use Rattle.arrow_spec.specs.Faults.{fixed_faults, key_faults, if_sound, some_row}
use Rattle.arrow_spec.specs.Framing.{validity_bytes}
use Rattle.arrow_spec.specs.Bodies.{BufferHeld}
use Rattle.arrow_spec.proofs.Bodies.{held_bytes}
use Rattle.arrow_types.specs.Numbers.{unsigned_to_bytes}
use Rattle.arrow_types.specs.NumberLaws.{unsigned_back, unsigned_width}
use Rattle.arrow_types.specs.KindCode.{integer_type_from, integer_type_from-integer_number}
use Rattle.arrow_buffers.specs.Rows.{has_rows, is_valid, null_rows, masked}
use Rattle.arrow_buffers.proofs.Rows.{none_below, none_from}
use Rattle.arrow_arrays.specs.Heads.{is_dictionary, is_bad_key, have_keys, number_at, indexed_cell, joined}
use Rattle.arrow_arrays.proofs.HeadSliced.{not_true}
use Rattle.ipc_write_laws.specs.Columns.{StandsAt, Means}
use Rattle.ipc_write_arrays.specs.Dictionaries.{IsBelow, KeyFits, dictionary_id}
use Rattle.ipc_write_arrays.specs.Pieces.{key_written}
use Rattle.ipc_write_arrays.proofs.Keys.{length-keys}
use Rattle.ipc_write_arrays.proofs.RoundTripHeads.{Headed, Shape, extended, one_column, means_by, headed, second, cells_told, valid_by}
use Rattle.ipc_write_arrays.proofs.RoundTripNumbers.{item_stands}
use Rattle.ipc_write_arrays.proofs.RoundTripPlain.{two_of, fixed_right}
use Rattle.ipc_write_arrays.proofs.RoundTripPlaces.{unsigned_by}
use Rattle.ipc_write_arrays.proofs.RoundTripTurned.{itself}
use Rattle.ipc_write_arrays.proofs.RoundTripUnions.{number_read}
use mir.Val.{bits}

-- ── how a kind of dictionaries is read, extensions looked through ──

same_integer : (s t : IntegerType) → is_same_integer s t ≡ true → s ≡ t
same_integer s t e = sym (integer_type_from-integer_number s) ∙ ap integer_type_from (eqb-true (integer_number s) (integer_number t) e) ∙ integer_type_from-integer_number t

abbrev keys_faults : Dictionaries → IntegerType → ℤ → RecordBatch → Place → ℕ → List IpcError
keys_faults d t id m p n = if_sound (fixed_faults m p (byte_len (integer_width t)) n) (key_faults m (found d id) t id p n)

abbrev key_value : Dictionaries → IntegerType → ℤ → RecordBatch → Place → ℕ → Cell
key_value d t id m p row = keyed (found d id) (integer_in m t (p.buffer + 1) row)

abbrev key_row : Dictionaries → IntegerType → ℤ → RecordBatch → Place → ℕ → Cell
key_row d t id m p row = if_valid m p row (key_value d t id m p row)

keys_shape : (d : Dictionaries) (t : IntegerType) (k : Kind) → is_dictionary t k ≡ true → Shape d k 0 two_of (keys_faults d t (dictionary_id k)) (key_row d t (dictionary_id k))
keys_shape d t (kind.dictionary keys ordered id k) e =
    subst (λ s. Shape d (kind.dictionary keys ordered id k) 0 two_of (keys_faults d s id) (key_row d s id)) (same_integer keys t e)
    (record { node = refl; view = refl; buffer = λ m p. refl; empty = λ m p. refl; some = λ m p n. refl; row = λ m p row. refl })
keys_shape d t (kind.extension name metadata k) e = extended d name metadata k 0 two_of (keys_faults d t (dictionary_id k)) (key_row d t (dictionary_id k)) (keys_shape d t k e)
keys_shape d t k e = cc

-- ── keys ──

natural_size : (n : ℕ) (z : ℤ) → IsBelow n z → magnitude z < n
natural_size n (pos k) h = h
natural_size n (negsuc k) h = absurd h

natural_is : (n : ℕ) (z : ℤ) → IsBelow n z → pos (magnitude z) ≡ z
natural_is n (pos k) h = refl
natural_is n (negsuc k) h = absurd h

-- keys in a buffer
module _ (order : Order) (keys : List ℤ) (m : RecordBatch) (i : ℕ) (one : m.order ≡ order) where
  natural_read : (w : Width) → BufferHeld m i (flat_map (λ x. unsigned_to_bytes w order (magnitude x)) keys) → AllByRecursion (λ x. IsBelow (2 ^ bits w) x) keys → (row : ℕ) → row < length keys → pos (unsigned_in m w i row) ≡ number_at keys row
  natural_read w held fit row lt =
      let write : ℤ → List ℕ = λ x. unsigned_to_bytes w order (magnitude x) in
      let all = flat_map write keys in
      let key = get_or keys row (pos 0) in
      let at : 0 + byte_len w * row ≡ byte_len w * row = omega arith in
      let there : Stands all (byte_len w * row) (write key) = subst (λ k. Stands all k (write key)) at (item_stands write (byte_len w) keys (pos 0) all 0 row (λ j below. unsigned_width w order (magnitude (get_or keys j (pos 0)))) lt (itself all)) in
      let fits : IsBelow (2 ^ bits w) key = All-from_recursion (λ x. IsBelow (2 ^ bits w) x) keys fit row (pos 0) lt in
      ap pos (unsigned_by w order m i row all (write key) one (held_bytes m i all held) (unsigned_width w order (magnitude key)) there ∙ unsigned_back w order (magnitude key) (natural_size (2 ^ bits w) key fits)) ∙ natural_is (2 ^ bits w) key fits

  pub key_read : (t : IntegerType) → BufferHeld m i (flat_map (key_written order t) keys) → AllByRecursion (λ x. KeyFits t x) keys → (row : ℕ) → row < length keys → integer_in m t i row ≡ number_at keys row
  key_read Int8 held fit row lt = number_read w8 order keys m i one held fit row lt
  key_read Int16 held fit row lt = number_read w16 order keys m i one held fit row lt
  key_read Int32 held fit row lt = number_read w32 order keys m i one held fit row lt
  key_read Int64 held fit row lt = number_read w64 order keys m i one held fit row lt
  key_read Int128 held fit row lt = number_read w128 order keys m i one held fit row lt
  key_read UInt8 held fit row lt = natural_read w8 held fit row lt
  key_read UInt16 held fit row lt = natural_read w16 held fit row lt
  key_read UInt32 held fit row lt = natural_read w32 held fit row lt
  key_read UInt64 held fit row lt = natural_read w64 held fit row lt

-- ── values that go on ──

-- a key of some values is one of more
fewer_bad : (b : Bool) (n m : ℕ) (key : ℤ) → n ≤ m → (b && is_bad_key n key) ≡ false → (b && is_bad_key m key) ≡ false
fewer_bad false n m key le h = refl
fewer_bad true n m (negsuc k) le h = h
fewer_bad true n m (pos k) le h = lt-leb m k (omega (arith, le, leb-false n k h))

front_row : (xs ys : List Cell) (i : ℕ) → i < length xs → slice_get (xs ++ ys) i ≡ slice_get xs i
front_row [] ys i lt = absurd (omega (arith, lt))
front_row (x ∷ xs) ys zero lt = refl
front_row (x ∷ xs) ys (suc i) lt = front_row xs ys i (omega (arith, lt))

-- and counts into the same
front_key : (xs ys : List Cell) (key : ℤ) → is_bad_key (length xs) key ≡ false → keyed (Some (xs ++ ys)) key ≡ keyed (Some xs) key
front_key xs ys (negsuc k) h = cc
front_key xs ys (pos k) h = ap cell_or_null (front_row xs ys k (leb-false (length xs) k h))

-- ── columns ──

module _ (order : Order) (d : Dictionaries) (k : Kind) (t : IntegerType) (keys : List ℤ) (v : Option (List Bool)) (css : List (List Cell)) (suits : is_dictionary t k ≡ true) (bits_there : has_rows v (length keys) ≡ true) (fit : AllByRecursion (λ x. KeyFits t x) keys) (known : have_keys (length (joined css)) keys v ≡ true)
    (more : List Cell) (values : found d (dictionary_id k) ≡ Some (joined css ++ more)) where
  own_key : (row : ℕ) → row < length keys → (is_valid v row && is_bad_key (length (joined css)) (number_at keys row)) ≡ false
  own_key row lt =
      let size = length (joined css) in
      none_below (λ j. is_valid v j && is_bad_key size (number_at keys j)) (length keys) (not_true (some_row (λ j. is_valid v j && is_bad_key size (number_at keys j)) (length keys)) known) row lt

  module _ (m : RecordBatch) (p : Place) (one : m.order ≡ order) (h : Headed m p (length keys) v) (held : BufferHeld m (p.buffer + 1) (flat_map (key_written order t) keys)) where
    none_bad : (row : ℕ) → row < length keys → (valid m p row && is_bad_key (length (joined css ++ more)) (integer_in m t (p.buffer + 1) row)) ≡ false
    none_bad row lt =
        let size = length (joined css ++ more) in
        ap (λ b. b && is_bad_key size (integer_in m t (p.buffer + 1) row)) (valid_by m p (length keys) v row h lt)
        ∙ ap (λ key. is_valid v row && is_bad_key size key) (key_read order keys m (p.buffer + 1) one t held fit row lt)
        ∙ fewer_bad (is_valid v row) (length (joined css)) size (number_at keys row) (omega (arith, length-append (joined css) more)) (own_key row lt)

    keys_good : key_faults m (Some (joined css ++ more)) t (dictionary_id k) p (length keys) ≡ []
    unfolding key_faults
    keys_good = rw (none_from (λ row. valid m p row && is_bad_key (length (joined css ++ more)) (integer_in m t (p.buffer + 1) row)) (length keys) none_bad) refl

    keys_right : keys_faults d t (dictionary_id k) m p (length keys) ≡ []
    keys_right = rw (fixed_right m p (byte_len (integer_width t)) (length keys) v (flat_map (key_written order t) keys) h held (omega (arith, length-keys order t keys)), values, keys_good) refl

    keys_told : from_on (key_row d t (dictionary_id k) m p) 0 (length keys) ≡ masked v (from_on (indexed_cell keys css) 0 (length keys))
    keys_told =
        cells_told m p (length keys) v (key_row d t (dictionary_id k) m p) (key_value d t (dictionary_id k) m p) (indexed_cell keys css) h (λ row. refl)
        (λ row lt e. ap (λ xs. keyed xs (integer_in m t (p.buffer + 1) row)) values ∙ ap (keyed (Some (joined css ++ more))) (key_read order keys m (p.buffer + 1) one t held fit row lt)
        ∙ front_key (joined css) more (number_at keys row) (subst (λ b. (b && is_bad_key (length (joined css)) (number_at keys row)) ≡ false) e (own_key row lt)))

  -- a column of keys means the values that they count into
  pub keys_mean : Means order d (length keys) (one_column k (length keys) (null_rows v) (validity_bytes v ∷ flat_map (key_written order t) keys ∷ []) [] (masked v (from_on (indexed_cell keys css) 0 (length keys))))
  keys_mean =
      let rows = length keys in
      let bytes = flat_map (key_written order t) keys in
      let xs = masked v (from_on (indexed_cell keys css) 0 rows) in
      let column = one_column k rows (null_rows v) (validity_bytes v ∷ bytes ∷ []) [] xs in
      let head = λ (m : RecordBatch) (p : Place) (here : StandsAt m p column). headed m p k rows v (bytes ∷ []) [] xs bits_there here in
      let held = λ (m : RecordBatch) (p : Place) (here : StandsAt m p column). second m p k rows (null_rows v) (validity_bytes v) bytes [] [] xs here in
      means_by d k 0 two_of (keys_faults d t (dictionary_id k)) (key_row d t (dictionary_id k)) order rows (null_rows v) (validity_bytes v ∷ bytes ∷ []) [] xs (keys_shape d t k suits) refl (λ m p here. refl)
      (λ m p o here few. keys_right m p o (head m p here) (held m p here))
      (λ m p o here. keys_told m p o (head m p here) (held m p here))
