-- A kind with extensions above it has the layout, the size and the fields of the kind below them.
use Rattle.std.proofs.Common.{◌≡◌, Bool, refl, sym, ap, ◌∙◌}
use Rattle.arrow_spec.specs.declared.types.IntegerType.{IntegerType}
use Rattle.arrow_spec.specs.Kinds.{Kind, Offsets, small, large, extension}
use Rattle.arrow_types.specs.Physical.{physical_of, under_extensions}
use Rattle.arrow_buffers.specs.Layouts.{binary_size}
use Rattle.arrow_arrays.specs.Heads.{is_list, is_map, is_sized, is_struct, is_union, is_dictionary, ids_in, list_size, child_fields, values_kind}

pub layout_under : (k : Kind) → physical_of k ≡ physical_of (under_extensions k)
layout_under (extension name metadata k) = layout_under k
layout_under k = refl

pub size_under : (k : Kind) → binary_size k ≡ binary_size (under_extensions k)
size_under (extension name metadata k) = size_under k
size_under k = refl

pub fields_under : (k : Kind) → child_fields k ≡ child_fields (under_extensions k)
fields_under (extension name metadata k) = fields_under k
fields_under k = refl

pub list_size_under : (k : Kind) → list_size k ≡ list_size (under_extensions k)
list_size_under (extension name metadata k) = list_size_under k
list_size_under k = refl

pub is_list_under : (o : Offsets) (k : Kind) → is_list o k ≡ is_list o (under_extensions k)
is_list_under small (extension name metadata k) = is_list_under small k
is_list_under large (extension name metadata k) = is_list_under large k
is_list_under o k = refl

pub is_map_under : (o : Offsets) (k : Kind) → is_map o k ≡ is_map o (under_extensions k)
is_map_under small (extension name metadata k) = is_map_under small k
is_map_under large (extension name metadata k) = is_map_under large k
is_map_under o k = refl

pub is_sized_under : (k : Kind) → is_sized k ≡ is_sized (under_extensions k)
is_sized_under (extension name metadata k) = is_sized_under k
is_sized_under k = refl

pub is_struct_under : (k : Kind) → is_struct k ≡ is_struct (under_extensions k)
is_struct_under (extension name metadata k) = is_struct_under k
is_struct_under k = refl

pub is_union_under : (dense : Bool) (k : Kind) → is_union dense k ≡ is_union dense (under_extensions k)
is_union_under dense (extension name metadata k) = is_union_under dense k
is_union_under dense k = refl

pub is_dictionary_under : (index : IntegerType) (k : Kind) → is_dictionary index k ≡ is_dictionary index (under_extensions k)
is_dictionary_under index (extension name metadata k) = is_dictionary_under index k
is_dictionary_under index k = refl

pub ids_under : (k : Kind) → ids_in k ≡ ids_in (under_extensions k)
ids_under (extension name metadata k) = ids_under k
ids_under k = refl

pub values_under : (k : Kind) → values_kind k ≡ values_kind (under_extensions k)
values_under (extension name metadata k) = values_under k
values_under k = refl

-- what extensions do not change is the same of two kinds that are the same below them
pub by_under : {A : Type 0} → (f : Kind → A) → ((k : Kind) → f k ≡ f (under_extensions k)) → (l k : Kind) → under_extensions l ≡ under_extensions k → f l ≡ f k
by_under f h l k e = h l ∙ ap f e ∙ sym (h k)
