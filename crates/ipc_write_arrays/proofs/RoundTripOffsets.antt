-- Columns of byte strings and of texts between offsets mean their cells.
use Rattle.std.proofs.Common.{◌≡◌, ℕ, suc, ◌+◌, ◌-◌, ◌*◌, ◌<◌, ◌≤◌, ◌&&◌, List, [], ◌∷◌, length, take, drop, Option, None, Bool, true, false, ℤ, refl, sym, ap, subst, ◌∙◌, arith}
use Rattle.std.specs.Prelude.{not}
use Rattle.std.specs.List.{AllByRecursion}
use Rattle.std.specs.Int.{byte_len}
use Rattle.std.specs.Str.{is_utf8}
use Rattle.arrow_spec.specs.declared.error.IpcError.{IpcError}
use Rattle.arrow_spec.specs.Flat.{Order}
use Rattle.arrow_spec.specs.Kinds.{Kind, Offsets, small, large, binary, utf8, «list», extension}
use Rattle.arrow_spec.specs.Cells.{Cell}
use Rattle.arrow_spec.specs.Counts.{RecordBatch, Place, magnitude}
use Rattle.arrow_spec.specs.Arrays.{Dictionaries, buf, valid, if_valid, offset, offset_width, slice, row_bytes, from_on}
use Rattle.arrow_spec.specs.Faults.{some_row, offsets_faults, bytes_faults, utf8_faults, if_sound}
use Rattle.arrow_spec.specs.Framing.{validity_bytes}
use Rattle.arrow_spec.proofs.Bodies.{held_bytes, held_faults}
use Rattle.arrow_spec.specs.Bodies.{BufferHeld}
use Rattle.arrow_types.specs.Physical.{physical_of}
use Rattle.arrow_buffers.specs.Rows.{is_valid, null_rows, bytes_cell}
use Rattle.arrow_buffers.specs.Layouts.{is_variable_any}
use Rattle.arrow_buffers.specs.Variable.{Variable, place_at, are_offsets, variable_rows, has_bad_text, variable_cells, variable_fault}
use Rattle.arrow_buffers.specs.Variable as held
use Rattle.arrow_buffers.proofs.Parts.{length-part, part-part}
use Rattle.arrow_buffers.proofs.Rows.{none_below, none_from}
use Rattle.arrow_buffers.proofs.Rising.{some_offset, offset_risen, offset_climbs, offset_between}
use Rattle.arrow_buffers.proofs.VariableParts.{Spanned, variable_sound}
use Rattle.ipc_write_laws.specs.Columns.{WrittenColumn, StandsAt, Means}
use Rattle.ipc_bodies.specs.Fitting.{offset_limit}
use Rattle.ipc_bodies.specs.Pieces.{offset_bytes}
use Rattle.ipc_write_arrays.specs.Pieces.{width_of_kind, bytes_between, variable_pieces, OffsetsFit}
use Rattle.ipc_write_arrays.proofs.RoundTripHeads.{Headed, Shape, extended, one_column, means_by, headed, second, valid_by, validity_right, cells_told}
use Rattle.ipc_write_arrays.proofs.RoundTripPlain.{numbers_right}
use Rattle.ipc_write_arrays.proofs.RoundTripPlaces as places
use Rattle.ipc_write_arrays.proofs.RoundTripPlaces.{OffsetsHeld, length-offset_bytes}

-- ── offsets ──

-- offsets and the bytes between them in a record batch
record Between (order : Order) (o : Offsets) (offsets : List ℤ) (values : List ℕ) (m : RecordBatch) (p : Place) : Type 0 where
  in_it : m.order ≡ order
  rise : are_offsets offsets (length values) ≡ true
  fit : AllByRecursion (λ x. magnitude x < offset_limit o) offsets
  held : BufferHeld m (p.buffer + 1) (offset_bytes order o offsets)
  bytes : BufferHeld m (p.buffer + 2) (bytes_between offsets values)

sliced : (b c : List ℕ) (f g t u : ℕ) → b ≡ c → f ≡ g → t ≡ u → slice b f t ≡ slice c g u
sliced b c f g t u e h i = rw (e, h, i) refl

no_text : (v w : Bool) (a b : List ℕ) → v ≡ w → a ≡ b → (v && not (is_utf8 a)) ≡ (w && not (is_utf8 b))
no_text v w a b e h = rw (e, h) refl

module _ (order : Order) (o : Offsets) (offsets : List ℤ) (values : List ℕ) (m : RecordBatch) (p : Place) (b : Between order o offsets values m p) where
  in_places : OffsetsHeld order o offsets m (p.buffer + 1)
  in_places = record { in_it = b.in_it; fit = b.fit; held = b.held }

  offset_read : (j : ℕ) → j < length offsets → offset m o (p.buffer + 1) j ≡ place_at offsets j - place_at offsets 0
  offset_read = places.offset_read order o offsets m (p.buffer + 1) in_places

  some_row_there : 0 < length offsets
  some_row_there = some_offset offsets (length values) b.rise

  length-between : length (bytes_between offsets values) ≡ place_at offsets (variable_rows offsets) - place_at offsets 0
  length-between =
      let one : 0 < length offsets = some_row_there in
      let least : place_at offsets 0 ≤ place_at offsets (variable_rows offsets) = offset_between offsets (length values) 0 b.rise (variable_rows offsets) (omega arith) (omega arith) in
      let most : place_at offsets (variable_rows offsets) ≤ length values = (offset_risen offsets (length values) (variable_rows offsets) b.rise (omega arith)).within in
      length-part values (place_at offsets 0) (place_at offsets (variable_rows offsets) - place_at offsets 0) (omega arith)

  offsets_right : offsets_faults m o (p.buffer + 1) (variable_rows offsets) (length (bytes_between offsets values)) ≡ []
  offsets_right =
      let one : 0 < length offsets = some_row_there in
      let l : length (bytes_between offsets values) ≡ place_at offsets (variable_rows offsets) - place_at offsets 0 = length-between in
      places.offsets_right order o offsets m (p.buffer + 1) in_places (variable_rows offsets) (length (bytes_between offsets values)) (omega arith) (λ k lt. offset_climbs offsets (length values) k b.rise (omega arith)) (omega arith)

  -- a row's bytes are those between its offsets
  row_read : (row : ℕ) → row < variable_rows offsets → row_bytes m o p row ≡ held.row_bytes offsets values row
  row_read row lt =
      let one : 0 < length offsets = some_row_there in
      let first = place_at offsets 0 in
      let last = place_at offsets (variable_rows offsets) in
      let from = place_at offsets row in
      let to = place_at offsets (suc row) in
      let low : first ≤ from = offset_between offsets (length values) 0 b.rise row (omega arith) (omega arith) in
      let mid : from ≤ to = offset_climbs offsets (length values) row b.rise (omega arith) in
      let high : to ≤ last = offset_between offsets (length values) (suc row) b.rise (variable_rows offsets) (omega arith) (omega arith) in
      let whole : slice (bytes_between offsets values) (from - first) (to - first) ≡ slice values from to =
      sym (part-part values first (last - first) (from - first) ((to - first) - (from - first)) (omega arith))
      ∙ (let n : (to - first) - (from - first) ≡ to - from = omega arith in
      let s : first + (from - first) ≡ from = omega arith in
      ap (λ k. take k (drop (first + (from - first)) values)) n ∙ ap (λ k. take (to - from) (drop k values)) s) in
      sliced (buf m (p.buffer + 2)) (bytes_between offsets values) _ _ _ _ (held_bytes m (p.buffer + 2) (bytes_between offsets values) b.bytes) (offset_read row (omega arith)) (offset_read (suc row) (omega arith)) ∙ whole

  bytes_right : (v : Option (List Bool)) → Headed m p (variable_rows offsets) v → bytes_faults m o p (variable_rows offsets) ≡ []
  unfolding bytes_faults
  bytes_right v h =
      let one : 0 < length offsets = some_row_there in
      let w = offset_width o in
      let l : length (offset_bytes order o offsets) ≡ byte_len w * length offsets = length-offset_bytes order o offsets in
      let same : length offsets ≡ suc (variable_rows offsets) = omega arith in
      let m' : byte_len w * length offsets ≡ byte_len w * suc (variable_rows offsets) = ap (λ n. byte_len w * n) same in
      rw (validity_right m p (variable_rows offsets) v h, numbers_right m (p.buffer + 1) (byte_len w) (suc (variable_rows offsets)) (offset_bytes order o offsets) b.held (omega arith), held_faults m (p.buffer + 2) (bytes_between offsets values) b.bytes, b.bytes.range) offsets_right

  text_right : (v : Option (List Bool)) → Headed m p (variable_rows offsets) v → has_bad_text offsets values v ≡ false → utf8_faults m o p (variable_rows offsets) ≡ []
  unfolding utf8_faults has_bad_text
  text_right v h e =
      let bad : ℕ → Bool = λ row. is_valid v row && not (is_utf8 (held.row_bytes offsets values row)) in
      let none : some_row (λ row. valid m p row && not (is_utf8 (row_bytes m o p row))) (variable_rows offsets) ≡ false =
      none_from (λ row. valid m p row && not (is_utf8 (row_bytes m o p row))) (variable_rows offsets) (λ row lt.
      no_text (valid m p row) (is_valid v row) (row_bytes m o p row) (held.row_bytes offsets values row) (valid_by m p (variable_rows offsets) v row h lt) (row_read row lt) ∙ none_below bad (variable_rows offsets) e row lt) in
      rw none refl

-- ── columns ──

abbrev three_of : RecordBatch → Place → ℕ
three_of m p = 3

-- what is wrong with such a column's buffers, and with its texts where it is to have some
abbrev variable_faults : Bool → Offsets → RecordBatch → Place → ℕ → List IpcError
variable_faults true o m p n = if_sound (bytes_faults m o p n) (utf8_faults m o p n)
variable_faults false o m p n = bytes_faults m o p n

-- the cell of a row's bytes
abbrev told_row : Bool → Offsets → RecordBatch → Place → ℕ → Cell
told_row is_text o m p row = if_valid m p row (bytes_cell is_text (row_bytes m o p row))

variable_shape : (d : Dictionaries) (is_text : Bool) (k : Kind) → is_variable_any is_text (physical_of k) ≡ true → Shape d k 0 three_of (variable_faults is_text (width_of_kind k)) (told_row is_text (width_of_kind k))
variable_shape d false (binary o) e = record { node = refl; view = refl; buffer = λ m p. refl; empty = λ m p. refl; some = λ m p n. refl; row = λ m p row. refl }
variable_shape d true (utf8 o) e = record { node = refl; view = refl; buffer = λ m p. refl; empty = λ m p. refl; some = λ m p n. refl; row = λ m p row. refl }
variable_shape d is_text (extension name metadata k) e = extended d name metadata k 0 three_of (variable_faults is_text (width_of_kind k)) (told_row is_text (width_of_kind k)) (variable_shape d is_text k e)
variable_shape d true (binary small) e = cc
variable_shape d true (binary large) e = cc
variable_shape d false (utf8 small) e = cc
variable_shape d false (utf8 large) e = cc
variable_shape d is_text («list» small fs) e = cc
variable_shape d is_text («list» large fs) e = cc
variable_shape d is_text k e = cc

-- what a column between offsets is written as
abbrev variable_column : Order → Bool → Variable → WrittenColumn
variable_column order is_text x = one_column x.kind (variable_rows x.offsets) (null_rows x.validity) (variable_pieces order x) [] (variable_cells is_text x)

module _ (order : Order) (is_text : Bool) (x : Variable) (sound : Spanned x) (m : RecordBatch) (p : Place) (s : StandsAt m p (variable_column order is_text x)) where
  variable_head : Headed m p (variable_rows x.offsets) x.validity
  variable_head = headed m p x.kind (variable_rows x.offsets) x.validity (offset_bytes order (width_of_kind x.kind) x.offsets ∷ bytes_between x.offsets x.values ∷ []) [] (variable_cells is_text x) sound.rows s

  between : OffsetsFit x.kind x.offsets → m.order ≡ order → Between order (width_of_kind x.kind) x.offsets x.values m p
  between fit o =
      let bytes = bytes_between x.offsets x.values in
      let next : suc (suc p.buffer) ≡ p.buffer + 2 = omega arith in
      record {
        in_it = o;
        rise = sound.rise;
        fit = fit;
        held = second m p x.kind (variable_rows x.offsets) (null_rows x.validity) (validity_bytes x.validity) (offset_bytes order (width_of_kind x.kind) x.offsets) (bytes ∷ []) [] (variable_cells is_text x) s;
        bytes = subst (λ i. BufferHeld m i bytes) next s.pieces.1.1.0;
      }

  variable_read : Between order (width_of_kind x.kind) x.offsets x.values m p → from_on (told_row is_text (width_of_kind x.kind) m p) 0 (variable_rows x.offsets) ≡ variable_cells is_text x
  variable_read b =
      cells_told m p (variable_rows x.offsets) x.validity (told_row is_text (width_of_kind x.kind) m p) (λ row. bytes_cell is_text (row_bytes m (width_of_kind x.kind) p row)) (λ row. bytes_cell is_text (held.row_bytes x.offsets x.values row)) variable_head (λ row. refl)
      (λ row lt v. ap (bytes_cell is_text) (row_read order (width_of_kind x.kind) x.offsets x.values m p b row lt))

variable_right : (is_text : Bool) (order : Order) (o : Offsets) (x : Variable) (m : RecordBatch) (p : Place) → Between order o x.offsets x.values m p → Headed m p (variable_rows x.offsets) x.validity
    → (is_text && has_bad_text x.offsets x.values x.validity) ≡ false → variable_faults is_text o m p (variable_rows x.offsets) ≡ []
variable_right true order o x m p b h e = rw (bytes_right order o x.offsets x.values m p b x.validity h) (text_right order o x.offsets x.values m p b x.validity h e)
variable_right false order o x m p b h e = bytes_right order o x.offsets x.values m p b x.validity h

pub variable_mean : (is_text : Bool) (order : Order) (d : Dictionaries) (x : Variable) → variable_fault is_text (is_variable_any is_text (physical_of x.kind)) x ≡ None → OffsetsFit x.kind x.offsets → Means order d (variable_rows x.offsets) (variable_column order is_text x)
variable_mean is_text order d x e fit =
    let o = width_of_kind x.kind in
    let sound = variable_sound is_text (is_variable_any is_text (physical_of x.kind)) x e in
    means_by d x.kind 0 three_of (variable_faults is_text o) (told_row is_text o) order (variable_rows x.offsets) (null_rows x.validity) (variable_pieces order x) [] (variable_cells is_text x) (variable_shape d is_text x.kind sound.suits) refl (λ m p s. refl)
    (λ m p in_it s few. variable_right is_text order o x m p (between order is_text x sound.spanned m p s fit in_it) (variable_head order is_text x sound.spanned m p s) sound.texts)
    (λ m p in_it s. variable_read order is_text x sound.spanned m p s (between order is_text x sound.spanned m p s fit in_it))
