-- Layouts whose arrays are read alike.
use Rattle.std.specs.Prelude.{Bool, true, false}
use Rattle.arrow_types.specs.declared.physical.PhysicalType.{PhysicalType}
use Rattle.arrow_types.specs.declared.physical.PhysicalType.TheVariants.{Null, Boolean, FixedSizeBinary, Binary}
use Rattle.arrow_types.specs.declared.physical.PhysicalType.TheVariants.{LargeBinary, Utf8, LargeUtf8, BinaryView, Utf8View, List, LargeList}

-- the layout is that of nulls, of truth values, of byte strings of one size, or of byte strings or texts between offsets
abbrev pub is_of_values : PhysicalType → Bool
is_of_values Null = true
is_of_values Boolean = true
is_of_values FixedSizeBinary = true
is_of_values Binary = true
is_of_values LargeBinary = true
is_of_values Utf8 = true
is_of_values LargeUtf8 = true
is_of_values layout = false

-- the layout is that of views
abbrev pub is_of_views : PhysicalType → Bool
is_of_views BinaryView = true
is_of_views Utf8View = true
is_of_views layout = false

-- the layout is that of lists between offsets
abbrev pub is_of_lists : PhysicalType → Bool
is_of_lists List = true
is_of_lists LargeList = true
is_of_lists layout = false
