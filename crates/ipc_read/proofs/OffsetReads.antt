-- Offsets of a type are the numbers of their bytes.
use Rattle.std.proofs.Common.{◌≡◌, ℕ, zero, suc, ◌+◌, ◌*◌, ◌≤◌, ◌<◌, List, [], ◌++◌, length, map, Bool, Option, Some, None, ℤ, refl, sym, ap, ◌∙◌, arith, subst}
use Rattle.std.specs.Int.{byte_len, cast_signed, Width}
use Rattle.std.specs.Option.{option_map}
use Rattle.arrow_spec.specs.Flat.{Order, num}
use Rattle.arrow_spec.specs.Counts.{RecordBatch}
use Rattle.arrow_spec.specs.Arrays.{from_on, buf, or_0, signed_in, unsigned_in, offset_width}
use Rattle.arrow_spec.specs.Faults.{numbers_faults, offsets_buffer_faults}
use Rattle.arrow_spec.proofs.CellLists.{from_on-same}
use Rattle.arrow_types.specs.Numbers.{signed_from_bytes, ReadsOffsets, offsets_by}
use Rattle.arrow_types.specs.NumberLaws.{signed_agrees}
use Rattle.ipc_read_laws.specs.PartsRead.{items_read, item_bytes}
use Rattle.ipc_read_laws.proofs.Buffers.{map-from_on}
use Rattle.arrow_spec.specs.declared.error.IpcError.{IpcError}
use Rattle.arrow_spec.specs.Readings.{Refuses}
use Rattle.ipc_read_laws.proofs.Buffers.{numbers_held}
use Rattle.ipc_read.specs.Queues.{short_of}
use Rattle.ipc_read.specs.Sources.{offsets_of_rows, faults_where}
use Rattle.ipc_read.proofs.Refusals.{refuses_right, both_none, lacks_none}
use Rattle.ipc_read.proofs.Parts.{item_fits}

of_some : (w : Width) (x : Option ℕ) (y : ℤ) → option_map (cast_signed w) x ≡ Some y → cast_signed w (or_0 x) ≡ y
of_some w None y h = cc
of_some w (Some n) y h = cc

pub signed_is : (m : RecordBatch) (w : Width) (i j : ℕ) → byte_len w * j + byte_len w ≤ length (buf m i) → signed_from_bytes w m.order (item_bytes m i (byte_len w) j) ≡ signed_in m w i j
unfolding unsigned_in
signed_is m w i j h = sym (of_some w (num (buf m i) (byte_len w * j) w m.order) _ (signed_agrees w (buf m i) (byte_len w * j) m.order h))

pub offsets_read : {A : Type 0} → (large : Bool) (width limit : ℕ) (number : A → ℤ) (read : Order → List ℕ → A) (m : RecordBatch) (i n : ℕ) → ReadsOffsets large width limit number read → width * n ≤ length (buf m i)
    → map number (items_read read width m i n) ≡ from_on (λ j. signed_in m (offset_width (offsets_by large)) i j) 0 n
offsets_read large width limit number read m i n h k =
    let w = offset_width (offsets_by large) in
    let fits : byte_len w * n ≤ length (buf m i) = subst (λ x. x * n ≤ length (buf m i)) h.sized k in
    map-from_on number (λ j. read m.order (item_bytes m i width j)) 0 n
    ∙ ap (λ x. from_on (λ j. number (read m.order (item_bytes m i x j))) 0 n) h.sized
    ∙ from_on-same (λ j. number (read m.order (item_bytes m i (byte_len w) j))) (λ j. signed_in m w i j) 0 n
    (λ j below. h.reads m.order (item_bytes m i (byte_len w) j) ∙ signed_is m w i j (item_fits (byte_len w) j n (length (buf m i)) (omega (arith, below)) fits))

-- ── a buffer of offsets ──

some_offsets : (large : Bool) (width limit rows : ℕ) {A : Type 0} (number : A → ℤ) (read : Order → List ℕ → A) (m : RecordBatch) (i : ℕ) → ReadsOffsets large width limit number read → 0 < rows → faults_where rows (offsets_buffer_faults m (offsets_by large) i rows) ≡ numbers_faults m i width (rows + 1)
some_offsets large width limit zero number read m i h s = absurd (omega (arith, s))
some_offsets large width limit (suc n) number read m i h s = let e : suc (suc n) ≡ suc n + 1 = omega arith in rw (h.sized, e) refl

pub offsets_err : (large : Bool) (width limit rows : ℕ) {A : Type 0} (number : A → ℤ) (read : Order → List ℕ → A) (m : RecordBatch) (i : ℕ) (e : IpcError) → ReadsOffsets large width limit number read → 0 < rows → Refuses e (numbers_faults m i width (rows + 1)) → Refuses e (short_of m.buffers i ++ faults_where rows (offsets_buffer_faults m (offsets_by large) i rows))
offsets_err large width limit rows number read m i e h s r = refuses_right (short_of m.buffers i) _ e (subst (λ es. Refuses e es) (sym (some_offsets large width limit rows number read m i h s)) r)

pub offsets_fine : (large : Bool) (width limit rows : ℕ) {A : Type 0} (number : A → ℤ) (read : Order → List ℕ → A) (m : RecordBatch) (i : ℕ) → ReadsOffsets large width limit number read → 0 < rows → suc i ≤ length m.buffers → numbers_faults m i width (rows + 1) ≡ [] → short_of m.buffers i ++ faults_where rows (offsets_buffer_faults m (offsets_by large) i rows) ≡ []
offsets_fine large width limit rows number read m i h s w r = both_none (short_of m.buffers i) _ (lacks_none m.buffers i w) (some_offsets large width limit rows number read m i h s ∙ r)

told_from : (m : RecordBatch) (large : Bool) (i rows : ℕ) → 0 < rows → from_on (λ j. signed_in m (offset_width (offsets_by large)) i j) 0 (rows + 1) ≡ offsets_of_rows m (offsets_by large) i rows
told_from m large i zero s = absurd (omega (arith, s))
told_from m large i (suc n) s = let e : suc n + 1 ≡ suc (suc n) = omega arith in ap (from_on (λ j. signed_in m (offset_width (offsets_by large)) i j) 0) e

pub offsets_value : (large : Bool) (width limit rows : ℕ) {A : Type 0} (number : A → ℤ) (read : Order → List ℕ → A) (m : RecordBatch) (i : ℕ) (xs : List A) → ReadsOffsets large width limit number read → 0 < rows → numbers_faults m i width (rows + 1) ≡ [] → xs ≡ items_read read width m i (rows + 1) → map number xs ≡ offsets_of_rows m (offsets_by large) i rows
offsets_value large width limit rows number read m i xs h s r e = ap (map number) e ∙ offsets_read large width limit number read m i (rows + 1) h (numbers_held m i width (rows + 1) r) ∙ told_from m large i rows s
