use Rattle.std.proofs.Common.{◌≡◌, ◌&&◌, true, sym, ap, ◌∙◌, length, rules}
use Rattle.arrow_spec.specs.Schema.{is_struct_of_two}
use Rattle.arrow_types.specs.KindOf.{kind_of, fields_of}
use Rattle.arrow_types.specs.declared.data_type.ArrowDataType.{ArrowDataType}
use Rattle.arrow_types.specs.declared.data_type.Field.{Field}
use Rattle.arrow_types.specs.declared.data_type.UnionType.{out-UnionType}
use Rattle.arrow_arrays.specs.Carried.{is_carried, are_carried}
use Rattle.arrow_arrays.proofs.CarriedTypes.{map_carried, has_right, right_told, union_carried}
use Rattle.arrow_arrays.proofs.carried.+carried.Goals as goal

pub is_carried-returns-then-is_entry : goal.is_carried-returns-then-is_entry
is_carried-returns-then-is_entry t c =
    let e : is_struct_of_two (kind_of c.in-Map.field.value.dtype) ≡ true = ap (λ (x : Field). is_struct_of_two (kind_of x.dtype)) (sym c.deref-in-Map.ensures) ∙ sym c.is_entry.ensures ∙ c.if-is_entry.true in
    c.is_carried-then-is_entry.ensures ∙ ap (λ (x : Field). is_carried (kind_of x.dtype)) c.deref-then-is_entry.ensures ∙ sym (map_carried c.in-Map.field _ e) ∙ ap (λ (d : ArrowDataType). is_carried (kind_of d)) (sym c.in-Map.is)

pub is_carried-returns-then-has_right_ids : goal.is_carried-returns-then-has_right_ids
is_carried-returns-then-has_right_ids t c =
    let u = c.in-Union.union.value in
    let fs = (out-UnionType u).fields.items in
    let count : c.len.result ≡ length (out-UnionType c.deref-in-Union-2.result.now).fields.items = search rules in
    let right : c.has_right_ids.result ≡ has_right u = right_told _ _ _ _ u c.has_right_ids.ensures count c.deref-in-Union.ensures c.deref-in-Union-2.ensures in
    c.are_carried-then-has_right_ids.ensures
    ∙ ap (λ gs. are_carried (fields_of gs)) (c.as_slice-then-has_right_ids.ensures.value ∙ ap (λ x. (out-UnionType x).fields.items) c.deref-then-has_right_ids.ensures)
    ∙ ap (λ b. b && are_carried (fields_of fs)) (sym c.if-has_right_ids.true ∙ right)
    ∙ sym (union_carried c.in-Union.union) ∙ ap (λ (d : ArrowDataType). is_carried (kind_of d)) (sym c.in-Union.is)

pub is_carried-returns-else-has_right_ids : goal.is_carried-returns-else-has_right_ids
is_carried-returns-else-has_right_ids t c =
    let u = c.in-Union.union.value in
    let fs = (out-UnionType u).fields.items in
    let count : c.len.result ≡ length (out-UnionType c.deref-in-Union-2.result.now).fields.items = search rules in
    let right : c.has_right_ids.result ≡ has_right u = right_told _ _ _ _ u c.has_right_ids.ensures count c.deref-in-Union.ensures c.deref-in-Union-2.ensures in
    c.if-has_right_ids.false
    ∙ ap (λ b. b && are_carried (fields_of fs)) (sym c.if-has_right_ids.false ∙ right)
    ∙ sym (union_carried c.in-Union.union) ∙ ap (λ (d : ArrowDataType). is_carried (kind_of d)) (sym c.in-Union.is)
