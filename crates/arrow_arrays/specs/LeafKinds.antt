-- Which kinds arrays without children are of.
use Rattle.std.specs.Prelude.{ℕ, Bool, true, false, nat_lt}
use Rattle.arrow_spec.specs.Kinds.{Kind}
use Rattle.arrow_types.specs.Physical.{primitive_size, physical_of}
use Rattle.arrow_types.specs.declared.physical.PhysicalType.{PhysicalType}
use Rattle.arrow_types.specs.declared.physical.PhysicalType.TheVariants.{Null, Boolean, Primitive, Binary, LargeBinary, FixedSizeBinary, Utf8, LargeUtf8, BinaryView, Utf8View}
use Rattle.arrow_buffers.specs.Layouts.{binary_size}

-- arrays without children have the layout; its byte strings of one size are of this size
abbrev pub is_leaf_layout : PhysicalType → ℕ → Bool
is_leaf_layout Null size = true
is_leaf_layout Boolean size = true
is_leaf_layout (Primitive p) size = nat_lt 0 (primitive_size p)
is_leaf_layout Binary size = true
is_leaf_layout LargeBinary size = true
is_leaf_layout FixedSizeBinary size = nat_lt 0 size
is_leaf_layout Utf8 size = true
is_leaf_layout LargeUtf8 size = true
is_leaf_layout BinaryView size = true
is_leaf_layout Utf8View size = true
is_leaf_layout layout size = false

-- a kind without children that is no dictionary, no float, no decimal of 256 bits, and not of byte strings of size 0
abbrev pub is_leaf_kind : Kind → Bool
is_leaf_kind k = is_leaf_layout (physical_of k) (binary_size k)
