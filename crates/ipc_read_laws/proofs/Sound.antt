-- Parts that are read make an array where nothing is wrong with them: what is found in them, layout by layout.
use Rattle.std.proofs.Common.{◌≡◌, ℕ, suc, ◌+◌, ◌*◌, ◌%◌, ◌<◌, ◌≤◌, List, [], ◌++◌, Bool, true, Some, None, length, nat_lt, nat_eq, not, ◌&&◌, refl, sym, ap, arith}
use Rattle.std.specs.Prelude.{if◌then◌else◌}
use Rattle.std.proofs.lemmas.Bool.{eq-eqb, ltb-true}
use Rattle.std.proofs.Math.Nat.{mul-mod_right}
use Rattle.arrow_spec.specs.declared.error.IpcError.TheVariants.{OutOfSpec}
use Rattle.arrow_spec.specs.declared.error.OutOfSpecKind.TheVariants as kinds
use Rattle.arrow_spec.specs.Kinds.{Kind, Offsets, binary_view}
use Rattle.arrow_spec.specs.Counts.{RecordBatch, Place, count_at}
use Rattle.arrow_spec.specs.Arrays.{buf, view_of}
use Rattle.arrow_spec.specs.Faults.{cause, is_big, validity_faults, fixed_faults, offsets_buffer_faults, range_faults, bytes_faults, utf8_faults, view_parts_faults, view_count_faults, data_faults, bad_view_faults, some_valid_row}
use Rattle.arrow_spec.specs.Faults as refused
use Rattle.arrow_spec.proofs.Fewer.{none_first, none_second, sound_second}
use Rattle.arrow_types.specs.Physical.{primitive_size, physical_of}
use Rattle.arrow_types.specs.declared.physical.PhysicalType.TheVariants as physical
use Rattle.arrow_types.specs.declared.physical.PrimitiveType.{PrimitiveType}
use Rattle.arrow_buffers.specs.declared.error.ArrayError.TheVariants.{Offsets as BadOffsets, Utf8, View}
use Rattle.arrow_buffers.specs.Layouts.{binary_size}
use Rattle.arrow_buffers.specs.Leaf.{leaf_fault, fixed_fault}
use Rattle.arrow_buffers.specs.Variable.{are_offsets, has_bad_text, variable_fault}
use Rattle.arrow_buffers.specs.Views.{has_bad_view, has_bad_view_text, view_fault}
use Rattle.arrow_buffers.proofs.Parts.{length-from_on}
use Rattle.arrow_arrays.specs.LeafParts.{numbers, leaf_fault_in, number_size}
use Rattle.arrow_arrays.proofs.NoRows.{variable_sound, view_sound}
use Rattle.ipc_read_laws.specs.PartsRead.{validity_read, primitive_read, fixed_read, variable_read, views_read, bytes_of_rows, number_read, item_bytes}
use Rattle.ipc_read_laws.proofs.Buffers.{numbers_held, all-from_on}
use Rattle.ipc_read_laws.proofs.Validities.{has_rows-read}
use Rattle.ipc_read_laws.proofs.NumbersBack.{number_size-read}
use Rattle.ipc_read_laws.proofs.OffsetsRead.{offsets_told, offsets-read, texts-read, rows-told}
use Rattle.ipc_read_laws.proofs.ViewsRead.{length-rows, count-rows, views_told, buffers_told, bad_views-read, view_texts-read}

-- ── values of one width ──

-- nothing is wrong with values of the layout, as many as the rows
pub leaf_fault-read : (suits : Bool) (m : RecordBatch) (p : Place) (rows n : ℕ) → suits ≡ true → n ≡ rows → leaf_fault suits n (validity_read m p rows) ≡ None
leaf_fault-read suits m p rows n s e = rw (s, e, has_rows-read m p rows) refl

-- nor with numbers
pub numbers_fault-read : (t : PrimitiveType) (m : RecordBatch) (l : Kind) (p : Place) (rows : ℕ) → physical_of l ≡ physical.Primitive t → nat_lt 0 (primitive_size t) ≡ true → leaf_fault_in (numbers (primitive_read (number_read t) (primitive_size t) m l p rows)) ≡ None
numbers_fault-read t m l p rows e s =
    let size : number_size (physical_of l) ≡ primitive_size t = ap number_size e in
    let read : ℕ → List ℕ = λ j. number_read t m.order (item_bytes m (p.buffer + 1) (primitive_size t) j) in
    rw (size) (leaf_fault-read _ m p rows _
    (rw (s, all-from_on (λ bytes. nat_eq (length bytes) (primitive_size t)) read 0 rows (λ j le lt. eq-eqb _ _ (number_size-read t m.order (item_bytes m (p.buffer + 1) (primitive_size t) j)))) refl)
    (length-from_on read 0 rows))

-- nor with byte strings of one size
pub fixed_fault-read : (m : RecordBatch) (l : Kind) (p : Place) (rows : ℕ) → nat_lt 0 (binary_size l) ≡ true → binary_size l * rows ≤ length (buf m (p.buffer + 1)) → fixed_fault (fixed_read m l p rows) ≡ None
fixed_fault-read m l p rows s h =
    let size = binary_size l in
    let above : 0 < size = ltb-true 0 size s in
    let whole : length (bytes_of_rows m size (p.buffer + 1) rows) % size ≡ 0 = rw (length-rows m size (p.buffer + 1) rows h) (mul-mod_right size rows) in
    let count = count-rows m size (p.buffer + 1) rows above h in
    rw (s, eq-eqb _ _ whole, count, has_rows-read m p rows) refl

-- ── bytes between offsets ──

-- with the buffers themselves well, bytes are refused where what was read are no good offsets
pub bytes_faults-read : (m : RecordBatch) (o : Offsets) (p : Place) (rows : ℕ) → validity_faults m p rows ++ offsets_buffer_faults m o (p.buffer + 1) rows ++ range_faults m (p.buffer + 2) ≡ []
    → bytes_faults m o p rows ≡ cause (not (are_offsets (offsets_told m o (p.buffer + 1) rows) (length (buf m (p.buffer + 2))))) (OutOfSpec kinds.InvalidOffsets)
unfolding bytes_faults
bytes_faults-read m o p rows h = rw h (offsets-read m o p rows (none_second (validity_faults m p rows ++ offsets_buffer_faults m o (p.buffer + 1) rows) _ h))

-- and texts where in what was read a text is bad
pub utf8_faults-read : (m : RecordBatch) (o : Offsets) (p : Place) (rows : ℕ) → utf8_faults m o p rows ≡ cause (has_bad_text (offsets_told m o (p.buffer + 1) rows) (buf m (p.buffer + 2)) (validity_read m p rows)) (OutOfSpec kinds.InvalidUtf8)
unfolding utf8_faults
utf8_faults-read m o p rows = ap (λ b. cause b (OutOfSpec kinds.InvalidUtf8)) (sym (texts-read m o p rows))

-- what is found in the parts
pub variable_fault-read : (is_text suits : Bool) (m : RecordBatch) (l : Kind) (o : Offsets) (p : Place) (n : ℕ) → suits ≡ true
    → variable_fault is_text suits (variable_read m l o p (suc n)) ≡ (if not (are_offsets (offsets_told m o (p.buffer + 1) (suc n)) (length (buf m (p.buffer + 2)))) then Some BadOffsets else (if is_text && has_bad_text (offsets_told m o (p.buffer + 1) (suc n)) (buf m (p.buffer + 2)) (validity_read m p (suc n)) then Some Utf8 else None))
variable_fault-read is_text suits m l o p n s = rw (s, rows-told m o (p.buffer + 1) (suc n), has_rows-read m p (suc n)) refl

-- where there are no rows
pub variable_fault-none : (is_text suits : Bool) (m : RecordBatch) (l : Kind) (o : Offsets) (p : Place) → suits ≡ true → variable_fault is_text suits (variable_read m l o p 0) ≡ None
variable_fault-none is_text suits m l o p s = variable_sound is_text suits l s

-- ── views ──

-- the views of sound parts are all there
pub views_held : (m : RecordBatch) (p : Place) (rows : ℕ) → view_parts_faults m p rows ≡ [] → 16 * rows ≤ length (buf m (p.buffer + 1))
unfolding view_parts_faults
views_held m p rows h =
    let fixed : fixed_faults m p 16 rows ≡ [] = none_second (cause (is_big m.order) _) _ (none_first _ _ h) in
    numbers_held m (p.buffer + 1) 16 rows (none_second (validity_faults m p rows) _ fixed)

-- and their buffers
pub buffers_held : (m : RecordBatch) (p : Place) (rows : ℕ) → view_parts_faults m p rows ≡ [] → data_faults m p (count_at m p.view) ≡ []
unfolding view_parts_faults
buffers_held m p rows h = sound_second (view_count_faults m binary_view p) _ (none_second _ _ h)

pub bad_view_faults-read : (m : RecordBatch) (p : Place) (rows : ℕ) → 16 * rows ≤ length (buf m (p.buffer + 1)) → bad_view_faults m p rows ≡ cause (has_bad_view (views_told m p rows) (buffers_told m p) (validity_read m p rows)) (OutOfSpec kinds.InvalidView)
bad_view_faults-read m p rows h = ap (λ b. cause b (OutOfSpec kinds.InvalidView)) (sym (bad_views-read m p rows h))

pub bad_text_faults-read : (m : RecordBatch) (p : Place) (rows : ℕ) → 16 * rows ≤ length (buf m (p.buffer + 1)) → cause (some_valid_row m p (λ row. refused.is_no_text_view m p (view_of m p row)) rows) (OutOfSpec kinds.InvalidUtf8) ≡ cause (has_bad_view_text (views_told m p rows) (buffers_told m p) (validity_read m p rows)) (OutOfSpec kinds.InvalidUtf8)
bad_text_faults-read m p rows h = ap (λ b. cause b (OutOfSpec kinds.InvalidUtf8)) (sym (view_texts-read m p rows h))

-- what is found in the parts
pub view_fault-read : (is_text suits : Bool) (m : RecordBatch) (l : Kind) (p : Place) (n : ℕ) → suits ≡ true → 16 * suc n ≤ length (buf m (p.buffer + 1))
    → view_fault is_text suits (views_read m l p (suc n)) ≡ (if is_text && has_bad_view_text (views_told m p (suc n)) (buffers_told m p) (validity_read m p (suc n)) then Some Utf8 else (if has_bad_view (views_told m p (suc n)) (buffers_told m p) (validity_read m p (suc n)) then Some View else None))
view_fault-read is_text suits m l p n s h =
    let whole : length (views_told m p (suc n)) % 16 ≡ 0 = rw (length-rows m 16 (p.buffer + 1) (suc n) h) (mul-mod_right 16 (suc n)) in
    let count = count-rows m 16 (p.buffer + 1) (suc n) (omega arith) h in
    rw (s, eq-eqb _ _ whole, count, has_rows-read m p (suc n)) refl

pub view_fault-none : (is_text suits : Bool) (m : RecordBatch) (l : Kind) (p : Place) → suits ≡ true → view_fault is_text suits (views_read m l p 0) ≡ None
view_fault-none is_text suits m l p s = view_sound is_text suits l s
