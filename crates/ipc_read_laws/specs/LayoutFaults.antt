-- What is wrong with an array without children, by the layout of its kind.
use Rattle.std.specs.Prelude.{ℕ, zero, suc, ◌+◌, List, [], ◌++◌}
use Rattle.arrow_spec.specs.declared.error.IpcError.{IpcError}
use Rattle.arrow_spec.specs.Kinds.{Kind, Offsets, small, large}
use Rattle.arrow_spec.specs.Counts.{RecordBatch, Place}
use Rattle.arrow_spec.specs.Faults.{if_sound, node_faults, validity_faults, bitmap_faults, fixed_faults, offsets_buffer_faults, range_faults, bytes_faults, utf8_faults, view_parts_faults, views_faults, view_text_faults}
use Rattle.arrow_types.specs.Physical.{primitive_size, physical_of}
use Rattle.arrow_types.specs.declared.physical.PhysicalType.{PhysicalType}
use Rattle.arrow_types.specs.declared.physical.PhysicalType.TheVariants.{Boolean, Primitive, Binary, LargeBinary, FixedSizeBinary, Utf8, LargeUtf8, BinaryView, Utf8View}
use Rattle.arrow_buffers.specs.Layouts.{binary_size}

-- what is wrong with a validity, a buffer of offsets and one of bytes themselves
abbrev pub between_faults : RecordBatch → Offsets → Place → ℕ → List IpcError
between_faults m o p rows = validity_faults m p rows ++ offsets_buffer_faults m o (p.buffer + 1) rows ++ range_faults m (p.buffer + 2)

-- what is wrong with the buffers, but for what the offsets, the texts and the views are; byte strings of one size are of this size
abbrev pub buffers_of : PhysicalType → ℕ → RecordBatch → Place → ℕ → List IpcError
buffers_of layout size m p zero = []
buffers_of Boolean size m p (suc n) = validity_faults m p (suc n) ++ bitmap_faults m (p.buffer + 1) (suc n)
buffers_of (Primitive t) size m p (suc n) = fixed_faults m p (primitive_size t) (suc n)
buffers_of FixedSizeBinary size m p (suc n) = fixed_faults m p size (suc n)
buffers_of Binary size m p (suc n) = between_faults m small p (suc n)
buffers_of LargeBinary size m p (suc n) = between_faults m large p (suc n)
buffers_of Utf8 size m p (suc n) = between_faults m small p (suc n)
buffers_of LargeUtf8 size m p (suc n) = between_faults m large p (suc n)
buffers_of BinaryView size m p (suc n) = view_parts_faults m p (suc n)
buffers_of Utf8View size m p (suc n) = view_parts_faults m p (suc n)
buffers_of layout size m p (suc n) = []

-- what is wrong with the buffers and with what stands in them
abbrev pub contents_of : PhysicalType → ℕ → RecordBatch → Place → ℕ → List IpcError
contents_of layout size m p zero = []
contents_of Binary size m p (suc n) = bytes_faults m small p (suc n)
contents_of LargeBinary size m p (suc n) = bytes_faults m large p (suc n)
contents_of Utf8 size m p (suc n) = if_sound (bytes_faults m small p (suc n)) (utf8_faults m small p (suc n))
contents_of LargeUtf8 size m p (suc n) = if_sound (bytes_faults m large p (suc n)) (utf8_faults m large p (suc n))
contents_of BinaryView size m p (suc n) = views_faults m p (suc n)
contents_of Utf8View size m p (suc n) = view_text_faults m p (suc n)
contents_of layout size m p (suc n) = buffers_of layout size m p (suc n)

-- what is wrong with an array's node and its buffers themselves
abbrev pub buffers_faults : RecordBatch → Kind → Place → ℕ → List IpcError
buffers_faults m k p rows = node_faults m p rows ++ buffers_of (physical_of k) (binary_size k) m p rows

-- what is wrong with its node, its buffers and what stands in them
abbrev pub layout_faults : RecordBatch → Kind → Place → ℕ → List IpcError
layout_faults m k p rows = node_faults m p rows ++ contents_of (physical_of k) (binary_size k) m p rows
