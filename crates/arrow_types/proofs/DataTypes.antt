-- The kinds of types with children, and what a field is as a child.
use Rattle.std.proofs.Common.{◌≡◌, ℕ, Bool, Box, Global, ℤ, pos, string_bytes, rules}
use Rattle.std.specs.Option.{option_map}
use Rattle.arrow_spec.specs.declared.types.IntegerType.{IntegerType}
use Rattle.arrow_spec.specs.Kinds as kind
use Rattle.arrow_types.specs.Child.{Child, one_field}
use Rattle.arrow_types.specs.KindOf.{kind_of, child_of, texts_of, union_kind_of, extension_kind_of}
use Rattle.arrow_types.specs.declared.data_type.ArrowDataType.{ArrowDataType, the_lemmas}
use Rattle.arrow_types.specs.declared.data_type.ArrowDataType as data_type
use Rattle.arrow_types.specs.declared.data_type.Field.{Field, the_lemmas as field_lemmas}
use Rattle.arrow_types.specs.declared.data_type.UnionType.{UnionType}
use Rattle.arrow_types.specs.declared.data_type.ExtensionType.{ExtensionType, out-ExtensionType}

pub kind_of_List : (f : Box Field Global) → kind_of (data_type.List f) ≡ kind.«list» kind.small (one_field (child_of f.value))
kind_of_List f = search (rules, the_lemmas)

pub kind_of_LargeList : (f : Box Field Global) → kind_of (data_type.LargeList f) ≡ kind.«list» kind.large (one_field (child_of f.value))
kind_of_LargeList f = search (rules, the_lemmas)

pub kind_of_Map : (f : Box Field Global) (sorted : Bool) → kind_of (data_type.Map f sorted) ≡ kind.map sorted (one_field (child_of f.value))
kind_of_Map f sorted = search (rules, the_lemmas)

pub kind_of_FixedSizeList : (f : Box Field Global) (n : ℕ) → kind_of (data_type.FixedSizeList f n) ≡ kind.fixed_size_list n (one_field (child_of f.value))
kind_of_FixedSizeList f n = search (rules, the_lemmas)

pub kind_of_Union : (b : Box UnionType Global) → kind_of (data_type.Union b) ≡ union_kind_of b.value
kind_of_Union b = search (rules, the_lemmas)

pub kind_of_Dictionary : (i : IntegerType) (t : Box ArrowDataType Global) (ordered : Bool) → kind_of (data_type.Dictionary i t ordered) ≡ kind.dictionary i ordered (pos 0) (kind_of t.value)
kind_of_Dictionary i t ordered = search (rules, the_lemmas)

pub kind_of_Extension : (b : Box ExtensionType Global) → kind_of (data_type.Extension b) ≡ extension_kind_of b.value
kind_of_Extension b = search (rules, the_lemmas)

pub extension_kind : (e : ExtensionType) → extension_kind_of e ≡ kind.extension (string_bytes (out-ExtensionType e).name) (option_map string_bytes (out-ExtensionType e).metadata) (kind_of (out-ExtensionType e).inner)
extension_kind e = search (rules, the_lemmas)

pub kind_of_child : (f : Field) → (child_of f).kind ≡ kind_of f.dtype
kind_of_child f = search (rules, the_lemmas)

pub child_is : (f : Field) → child_of f ≡ record { name = string_bytes f.name; kind = kind_of f.dtype; nullable = f.is_nullable; metadata = texts_of f.metadata.entries }
child_is f = search (rules, field_lemmas)
