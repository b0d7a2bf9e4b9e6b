-- The keys of a dictionary's rows: their numbers, their type, and which of them are valid. (Arrow Columnar Format, "Dictionary-encoded Layout".)
use Rattle.std.specs.Prelude.{List, Bool, Option, ℤ, pos, map}
use Rattle.arrow_spec.specs.Kinds.{Kind}
use Rattle.arrow_spec.specs.declared.types.IntegerType.{IntegerType}
use Rattle.arrow_spec.specs.declared.types.IntegerType.TheVariants as integers
use Rattle.arrow_arrays.specs.Heads.{Indexed}
use Rattle.arrow_arrays.specs.declared.keys.DictionaryKeys.{DictionaryKeys}
use Rattle.arrow_arrays.specs.declared.keys.DictionaryKeys.TheVariants.{Int8, Int16, Int32, Int64, Int128, UInt8, UInt16, UInt32, UInt64}

abbrev pub keys_in : DictionaryKeys → List ℤ
keys_in (Int8 f) = f.values
keys_in (Int16 f) = f.values
keys_in (Int32 f) = f.values
keys_in (Int64 f) = f.values
keys_in (Int128 f) = f.values
keys_in (UInt8 f) = map pos f.values
keys_in (UInt16 f) = map pos f.values
keys_in (UInt32 f) = map pos f.values
keys_in (UInt64 f) = map pos f.values

abbrev pub index_in : DictionaryKeys → IntegerType
index_in (Int8 f) = integers.Int8
index_in (Int16 f) = integers.Int16
index_in (Int32 f) = integers.Int32
index_in (Int64 f) = integers.Int64
index_in (Int128 f) = integers.Int128
index_in (UInt8 f) = integers.UInt8
index_in (UInt16 f) = integers.UInt16
index_in (UInt32 f) = integers.UInt32
index_in (UInt64 f) = integers.UInt64

abbrev pub key_validity_in : DictionaryKeys → Option (List Bool)
key_validity_in (Int8 f) = f.validity
key_validity_in (Int16 f) = f.validity
key_validity_in (Int32 f) = f.validity
key_validity_in (Int64 f) = f.validity
key_validity_in (Int128 f) = f.validity
key_validity_in (UInt8 f) = f.validity
key_validity_in (UInt16 f) = f.validity
key_validity_in (UInt32 f) = f.validity
key_validity_in (UInt64 f) = f.validity

-- the top of a dictionary of a kind with these keys
abbrev pub indexed_by : Kind → DictionaryKeys → Indexed
indexed_by k keys = record { kind = k; index = index_in keys; keys = keys_in keys; validity = key_validity_in keys }
