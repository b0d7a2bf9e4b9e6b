-- The tree of parts that an array is.
use Rattle.std.specs.Prelude.{List, map}
use Rattle.std.specs.Int.{w8, w16, w32, w64, w128}
use Rattle.arrow_spec.specs.Flat.{little}
use Rattle.arrow_types.specs.Numbers.{signed_to_bytes, unsigned_to_bytes, days_ms_to_bytes, months_days_ns_to_bytes}
use Rattle.arrow_arrays.specs.LeafParts.{nulls, bits, numbers, fixed, binary, text, binary_views, text_views, as_bytes}
use Rattle.arrow_arrays.specs.Heads.{listed, mapped, sized, structured, tagged, indexed}
use Rattle.arrow_arrays.specs.Parts.{Parts, Forest, leaf, nested, none, also, forest}
use Rattle.arrow_arrays.specs.declared.array.Array.{Array}
use Rattle.arrow_arrays.specs.declared.array.Array.TheVariants.{Null, Boolean, Int8, Int16, Int32, Int64, Int128, UInt8, UInt16, UInt32, UInt64, DaysMs, MonthsDaysNs, Binary, LargeBinary, Utf8, LargeUtf8, BinaryView, Utf8View, FixedSizeBinary, List as Lists, FixedSizeList, Map, Struct, Union, Dictionary}

abbrev pub parts_of : Array → Parts
parts_of (Null n) = leaf (nulls n)
parts_of (Boolean f) = leaf (bits f)
parts_of (Int8 f) = leaf (numbers (as_bytes (signed_to_bytes w8 little) f))
parts_of (Int16 f) = leaf (numbers (as_bytes (signed_to_bytes w16 little) f))
parts_of (Int32 f) = leaf (numbers (as_bytes (signed_to_bytes w32 little) f))
parts_of (Int64 f) = leaf (numbers (as_bytes (signed_to_bytes w64 little) f))
parts_of (Int128 f) = leaf (numbers (as_bytes (signed_to_bytes w128 little) f))
parts_of (UInt8 f) = leaf (numbers (as_bytes (unsigned_to_bytes w8 little) f))
parts_of (UInt16 f) = leaf (numbers (as_bytes (unsigned_to_bytes w16 little) f))
parts_of (UInt32 f) = leaf (numbers (as_bytes (unsigned_to_bytes w32 little) f))
parts_of (UInt64 f) = leaf (numbers (as_bytes (unsigned_to_bytes w64 little) f))
parts_of (DaysMs f) = leaf (numbers (as_bytes (days_ms_to_bytes little) f))
parts_of (MonthsDaysNs f) = leaf (numbers (as_bytes (months_days_ns_to_bytes little) f))
parts_of (Binary p) = leaf (binary p)
parts_of (LargeBinary p) = leaf (binary p)
parts_of (Utf8 p) = leaf (text p)
parts_of (LargeUtf8 p) = leaf (text p)
parts_of (BinaryView p) = leaf (binary_views p)
parts_of (Utf8View p) = leaf (text_views p)
parts_of (FixedSizeBinary f) = leaf (fixed f)
parts_of (Lists n) = nested (listed n.head) n.children
parts_of (FixedSizeList n) = nested (sized n.head) n.children
parts_of (Map n) = nested (mapped n.head) n.children
parts_of (Struct n) = nested (structured n.head) n.children
parts_of (Union n) = nested (tagged n.head) n.children
parts_of (Dictionary n) = nested (indexed n.head) n.children

-- those of several arrays, in order
abbrev pub all_parts_of : List Array → List Parts
all_parts_of = map parts_of

-- one child, and several
abbrev pub only : Array → Forest
only a = also (parts_of a) none

abbrev pub forest_of : List Array → Forest
forest_of xs = forest (all_parts_of xs)
