-- Lists whose offsets are lent. (Arrow Columnar Format, "Variable-size List Layout".)
use Rattle.std.specs.Prelude.{◌≡◌, ℕ, zero, suc, ◌+◌, ◌*◌, ◌≤◌, ◌<◌, List, [], ◌++◌, Bool, IfSome}
use Rattle.arrow_spec.specs.declared.error.IpcError.{IpcError}
use Rattle.arrow_spec.specs.declared.error.IpcError.TheVariants.{OutOfSpec}
use Rattle.arrow_spec.specs.declared.error.OutOfSpecKind.TheVariants.{InvalidOffsets}
use Rattle.arrow_spec.specs.Kinds.{Offsets}
use Rattle.arrow_spec.specs.Counts.{RecordBatch, Place}
use Rattle.arrow_spec.specs.Arrays.{buf, offset, valid}
use Rattle.arrow_spec.specs.Faults.{cause, end_of, if_sound, numbers_faults, offsets_buffer_faults, offsets_faults, validity_faults}
use Rattle.view_types.specs.declared.layout.Layout.TheVariants.{Lists}
use Rattle.view_types.specs.Ranges.{Lies}
use Rattle.view_types.specs.Views.{Top, bits_in, is_set, offset_bytes, offset_in, offsets_by, order_of, part_in}
use Rattle.ipc_view.specs.Built.{HasBitsIn}
use Rattle.ipc_view.specs.Tests.{has_bad_offsets}

-- what is wrong with the validity and the offsets of lists, and how many rows of their items are read
abbrev pub list_top_faults : RecordBatch → Offsets → Place → ℕ → List IpcError
list_top_faults m o p zero = []
list_top_faults m o p (suc n) = validity_faults m p (suc n) ++ if_sound (offsets_buffer_faults m o (p.buffer + 1) (suc n)) (offsets_faults m o (p.buffer + 1) (suc n) (end_of m (suc p.node)))

abbrev pub list_last : RecordBatch → Offsets → Place → ℕ → ℕ
list_last m o p zero = 0
list_last m o p (suc n) = offset m o (p.buffer + 1) (suc n)

-- what is wrong with the buffers themselves
abbrev pub list_buffers_faults : RecordBatch → Bool → Place → ℕ → List IpcError
list_buffers_faults m is_large p rows = validity_faults m p rows ++ numbers_faults m (p.buffer + 1) (offset_bytes is_large) (suc rows)

-- and with the offsets, by the range that shows them
abbrev pub are_bad : Top → Bool → ℕ → Bool
are_bad t is_large most = has_bad_offsets (part_in t.input t.first) is_large (order_of t.is_big) t.rows most

abbrev pub list_causes : Top → Bool → ℕ → List IpcError
list_causes t is_large most = cause (are_bad t is_large most) (OutOfSpec InvalidOffsets)

-- the ranges of lists show their buffers, which have room for the offsets
pub record ShowsLists (m : RecordBatch) (is_large : Bool) (p : Place) (rows : ℕ) (t : Top) : Type 0 where
  pub all_rows : t.rows ≡ rows
  pub layout_is : t.layout ≡ Lists is_large
  pub order : m.order ≡ order_of t.is_big
  pub bits : (row : ℕ) → row < rows → is_set (bits_in t.input t.validity) row ≡ valid m p row
  pub offsets : part_in t.input t.first ≡ buf m (p.buffer + 1)
  pub has_bits : IfSome t.validity (HasBitsIn t.input t.rows)
  pub offsets_lie : Lies t.input t.first
  pub room : offset_bytes is_large * (t.rows + 1) ≤ t.first.length

-- a row between two offsets, the last of which is where the last row ends
pub record Rises (t : Top) (is_large : Bool) (last row : ℕ) : Type 0 where
  pub room : offset_bytes is_large * (row + 2) ≤ t.first.length
  pub rise : offset_in t is_large row ≤ offset_in t is_large (suc row)
  pub within : offset_in t is_large (suc row) ≤ last

-- the parts of a view of lists, and where the last of them ends
pub record IsListTop (m : RecordBatch) (is_large : Bool) (p : Place) (rows : ℕ) (t : Top) (last : ℕ) : Type 0 where
  pub all_rows : t.rows ≡ rows
  pub layout_is : t.layout ≡ Lists is_large
  pub order : m.order ≡ order_of t.is_big
  pub bits : (row : ℕ) → row < rows → is_set (bits_in t.input t.validity) row ≡ valid m p row
  pub has_bits : IfSome t.validity (HasBitsIn t.input t.rows)
  pub offsets_lie : Lies t.input t.first
  pub places : (j : ℕ) → j < suc rows → 0 < rows → offset_in t is_large j ≡ offset m (offsets_by is_large) (p.buffer + 1) j
  pub rises : (row : ℕ) → row < rows → Rises t is_large last row
  pub last_is : last ≡ list_last m (offsets_by is_large) p rows
