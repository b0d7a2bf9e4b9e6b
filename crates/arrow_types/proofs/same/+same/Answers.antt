use Rattle.std.proofs.Common.{◌≡◌, ap, sym, ◌∙◌, arith, true≢false, map, refl}
use Rattle.arrow_spec.specs.Kinds as kind
use Rattle.arrow_types.specs.KindOf.{kind_of, child_of, fields_of}
use Rattle.arrow_types.specs.Child.{fields_from}
use Rattle.arrow_types.proofs.Sameness.{fields_from_same, kind_of_Struct, same_at, union_same, union_parts, union_kind_of_is, items_of}
use Rattle.arrow_types.specs.declared.data_type.UnionType.{out-UnionType}
use Rattle.arrow_types.proofs.same.+same.Goals as goal

pub are_same_fields-returns-then-not-is_same_field : goal.are_same_fields-returns-then-not-is_same_field
are_same_fields-returns-then-not-is_same_field t c = (
  λ h. absurd (true≢false (sym h)),
  λ h. c.if-not-is_same_field.ensures.1 (same_at child_of c.args.a.now c.args.b.now c.loop-i.i _ _ c.loop-i-test.true (omega arith) c.index-a-i.is c.index-b-i.is h),
)

pub is_same_type-returns-in-Struct-b : goal.is_same_type-returns-in-Struct-b
is_same_type-returns-in-Struct-b t c =
    let x : kind_of c.args.a.now ≡ kind.struct (fields_of c.in-Struct.fs.items) = ap kind_of c.in-Struct.is ∙ kind_of_Struct c.in-Struct.fs in
    let y : kind_of c.args.b.now ≡ kind.struct (fields_of c.in-Struct-b.gs.items) = ap kind_of c.in-Struct-b.is ∙ kind_of_Struct c.in-Struct-b.gs in
    let u : map child_of c.as_slice.result.now ≡ map child_of c.in-Struct.fs.items = ap (map child_of) c.as_slice.ensures.value in
    let v : map child_of c.as_slice-in-Struct-b.result.now ≡ map child_of c.in-Struct-b.gs.items = ap (map child_of) c.as_slice-in-Struct-b.ensures.value in (
      λ h. x ∙ ap (λ k. kind.struct (fields_from k)) (sym u ∙ c.are_same_fields.ensures.0 h ∙ v) ∙ sym y,
      λ h. c.are_same_fields.ensures.1 (u ∙ fields_from_same _ _ (let e : kind.struct (fields_of c.in-Struct.fs.items) ≡ kind.struct (fields_of c.in-Struct-b.gs.items) = sym x ∙ h ∙ y in cc) ∙ sym v),
    )

pub is_same_union-returns : goal.is_same_union-returns
is_same_union-returns t c =
    let x = union_kind_of_is c.args.a.now in
    let y = union_kind_of_is c.args.b.now in
    let m : (out-UnionType c.args.a.now).mode ≡ (out-UnionType c.args.b.now).mode = c.if-not-is_same_mode.ensures.0 refl in
    let i : items_of (out-UnionType c.args.a.now).ids ≡ items_of (out-UnionType c.args.b.now).ids = c.if-not-are_same_ids.ensures.0 refl in
    let u : map child_of c.as_slice.result.now ≡ map child_of (out-UnionType c.args.a.now).fields.items = ap (map child_of) c.as_slice.ensures.value in
    let v : map child_of c.as_slice-2.result.now ≡ map child_of (out-UnionType c.args.b.now).fields.items = ap (map child_of) c.as_slice-2.ensures.value in (
      λ h. x ∙ union_same _ _ _ _ _ _ m i (sym u ∙ c.are_same_fields.ensures.0 h ∙ v) ∙ sym y,
      λ h. c.are_same_fields.ensures.1 (u ∙ (union_parts _ _ _ _ _ _ (sym x ∙ h ∙ y)).2 ∙ sym v),
    )
