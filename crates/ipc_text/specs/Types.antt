-- The text of a type with the id of the dictionary that it is.
use Rattle.std.specs.Prelude.{List, ◌++◌, Bool, true, false, Option, Some, None, ℤ, pos, ℕ, codes}
use Rattle.std.specs.Fmt.{signed_decimal}
use Rattle.arrow_spec.specs.declared.types.IntegerType.{IntegerType}
use Rattle.arrow_spec.specs.Flat.{or_default}
use Rattle.arrow_spec.specs.Kinds as kind
use Rattle.arrow_spec.specs.Kinds.{Kind}
use Rattle.arrow_spec.specs.SchemaText.{type_text, integer_name, quoted}

-- what stands between a dictionary's id and the type of its values
abbrev pub order_name : Bool → List ℕ
order_name false = codes ") "
order_name true = codes ",ordered) "

-- a dictionary before the type of its values
abbrev pub dictionary_front : IntegerType → Bool → ℤ → List ℕ
dictionary_front index ordered id = codes "dictionary(" ++ integer_name index ++ codes "," ++ signed_decimal id ++ order_name ordered

-- an extension before the type below it
abbrev pub extension_front : List ℕ → Option (List ℕ) → List ℕ
extension_front name None = codes "extension(" ++ quoted name ++ codes ") "
extension_front name (Some metadata) = codes "extension(" ++ quoted name ++ codes "," ++ quoted metadata ++ codes ") "

-- a type whose outermost dictionary has an id, 0 where none is given; a dictionary in its values has none of its own
abbrev pub type_text_with : Kind → Option ℤ → List ℕ
type_text_with (kind.dictionary index ordered old k) id = dictionary_front index ordered (or_default (pos 0) id) ++ type_text_with k None
type_text_with (kind.extension name metadata k) id = extension_front name metadata ++ type_text_with k id
type_text_with k id = type_text k

-- a kind whose text is a name alone
abbrev pub is_named : Kind → Bool
is_named (kind.time32 u) = false
is_named (kind.time64 u) = false
is_named (kind.timestamp unit timezone) = false
is_named (kind.duration u) = false
is_named (kind.interval u) = false
is_named (kind.decimal precision scale) = false
is_named (kind.decimal256 precision scale) = false
is_named (kind.fixed_size_binary n) = false
is_named (kind.fixed_size_list n fs) = false
is_named (kind.union mode stated ids fs) = false
is_named (kind.dictionary index ordered id k) = false
is_named (kind.extension name metadata k) = false
is_named k = true
