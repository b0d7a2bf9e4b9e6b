-- A kind stands for another where it states no ids of dictionaries and they are the same but for these and for extensions above them.
use Rattle.std.proofs.Common.{◌≡◌, Bool, refl, ◌∙◌}
use Rattle.arrow_spec.specs.declared.types.IntegerType.{IntegerType}
use Rattle.arrow_spec.specs.Kinds.{Kind, Offsets}
use Rattle.arrow_types.specs.Physical.{physical_of, under_extensions}
use Rattle.arrow_buffers.specs.Layouts.{binary_size}
use Rattle.arrow_arrays.specs.Heads.{is_list, is_map, is_sized, is_struct, is_union, is_dictionary, ids_in, list_size, child_fields, values_kind}
use Rattle.arrow_arrays.proofs.Labels.{layout_under, size_under, fields_under, list_size_under, is_list_under, is_map_under, is_sized_under, is_struct_under, is_union_under, is_dictionary_under, ids_under, values_under, by_under}
use Rattle.ipc_read_laws.specs.PlainKinds.{plain_kind, plain_fields}
use Rattle.ipc_read_laws.proofs.KindCases.{Like}
use Rattle.ipc_read_laws.proofs.PlainKinds.{layout_plain, size_plain, fields_plain, values_plain, list_size_plain, ids_plain, list_plain, map_plain, sized_plain, struct_plain, union_plain, dictionary_plain}

pub record Label (l k : Kind) : Type 0 where
  pub under : under_extensions l ≡ under_extensions (plain_kind k)

pub label_plain : (k : Kind) → Label (plain_kind k) k
label_plain k = record { under = refl }

pub label_like : (l k : Kind) → Label l k → Like l k
label_like l k e = record {
  layout = by_under physical_of layout_under l (plain_kind k) e.under ∙ layout_plain k;
  size = by_under binary_size size_under l (plain_kind k) e.under ∙ size_plain k;
}

pub label_fields : (l k : Kind) → Label l k → child_fields l ≡ plain_fields (child_fields k)
label_fields l k e = by_under child_fields fields_under l (plain_kind k) e.under ∙ fields_plain k

pub label_values : (l k : Kind) → Label l k → values_kind l ≡ plain_kind (values_kind k)
label_values l k e = by_under values_kind values_under l (plain_kind k) e.under ∙ values_plain k

pub label_size : (l k : Kind) → Label l k → list_size l ≡ list_size k
label_size l k e = by_under list_size list_size_under l (plain_kind k) e.under ∙ list_size_plain k

pub label_list : (o : Offsets) (l k : Kind) → Label l k → is_list o l ≡ is_list o k
label_list o l k e = by_under (is_list o) (is_list_under o) l (plain_kind k) e.under ∙ list_plain o k

pub label_map : (o : Offsets) (l k : Kind) → Label l k → is_map o l ≡ is_map o k
label_map o l k e = by_under (is_map o) (is_map_under o) l (plain_kind k) e.under ∙ map_plain o k

pub label_sized : (l k : Kind) → Label l k → is_sized l ≡ is_sized k
label_sized l k e = by_under is_sized is_sized_under l (plain_kind k) e.under ∙ sized_plain k

pub label_struct : (l k : Kind) → Label l k → is_struct l ≡ is_struct k
label_struct l k e = by_under is_struct is_struct_under l (plain_kind k) e.under ∙ struct_plain k

pub label_union : (dense : Bool) (l k : Kind) → Label l k → is_union dense l ≡ is_union dense k
label_union dense l k e = by_under (is_union dense) (is_union_under dense) l (plain_kind k) e.under ∙ union_plain dense k

pub label_dictionary : (t : IntegerType) (l k : Kind) → Label l k → is_dictionary t l ≡ is_dictionary t k
label_dictionary t l k e = by_under (is_dictionary t) (is_dictionary_under t) l (plain_kind k) e.under ∙ dictionary_plain t k

pub label_ids : (l k : Kind) → Label l k → ids_in l ≡ ids_in k
label_ids l k e = by_under ids_in ids_under l (plain_kind k) e.under ∙ ids_plain k
