use Rattle.std.proofs.Common.{◌≡◌, ap, sym, ◌∙◌, arith, true, true≢false, map, refl}
use Rattle.arrow_spec.specs.Kinds as kind
use Rattle.arrow_spec.specs.Kinds.{bare_kind}
use Rattle.arrow_types.specs.KindCode.{kind_eq_is}
use Rattle.arrow_types.specs.KindOf.{kind_of, child_of}
use Rattle.arrow_types.specs.Child.{fields_from}
use Rattle.arrow_types.proofs.Sameness.{fields_from_same, same_at}
use Rattle.arrow_types.specs.declared.data_type.UnionType.{out-UnionType}
use Rattle.arrow_types.specs.Leaves.{is_leaf}
use Rattle.same_fields.specs.Bare.{bare_child}
use Rattle.same_fields.proofs.BareKinds.{bare_field, kind_of_Struct, leaves_same, other_fields, other_mode, unions_same}
use Rattle.same_fields.proofs.bare.+bare.Goals as goal

pub are_same_fields-returns-then-not-is_same_field : goal.are_same_fields-returns-then-not-is_same_field
are_same_fields-returns-then-not-is_same_field t c = (
  λ h. absurd (true≢false (sym h)),
  λ h. c.if-not-is_same_field.ensures.1 (same_at (λ f. bare_child (child_of f)) c.args.a.now c.args.b.now c.loop-i.i _ _ c.loop-i-test.true (omega arith) c.index-a-i.is c.index-b-i.is h),
)

pub is_same_nested-returns-in-Struct-b : goal.is_same_nested-returns-in-Struct-b
is_same_nested-returns-in-Struct-b t c =
    let x : bare_kind (kind_of c.args.a.now) ≡ kind.struct (fields_from (map (λ f. bare_child (child_of f)) c.in-Struct.fs.items)) = ap (λ k. bare_kind (kind_of k)) c.in-Struct.is ∙ kind_of_Struct c.in-Struct.fs in
    let y : bare_kind (kind_of c.args.b.now) ≡ kind.struct (fields_from (map (λ f. bare_child (child_of f)) c.in-Struct-b.gs.items)) = ap (λ k. bare_kind (kind_of k)) c.in-Struct-b.is ∙ kind_of_Struct c.in-Struct-b.gs in
    let u : map (λ f. bare_child (child_of f)) c.as_slice.result.now ≡ map (λ f. bare_child (child_of f)) c.in-Struct.fs.items = ap (map (λ f. bare_child (child_of f))) c.as_slice.ensures.value in
    let v : map (λ f. bare_child (child_of f)) c.as_slice-in-Struct-b.result.now ≡ map (λ f. bare_child (child_of f)) c.in-Struct-b.gs.items = ap (map (λ f. bare_child (child_of f))) c.as_slice-in-Struct-b.ensures.value in (
      λ h. x ∙ ap (λ k. kind.struct (fields_from k)) (sym u ∙ c.are_same_fields.ensures.0 h ∙ v) ∙ sym y,
      λ h. c.are_same_fields.ensures.1 (u ∙ fields_from_same _ _ (let e : kind.struct (fields_from (map (λ f. bare_child (child_of f)) c.in-Struct.fs.items)) ≡ kind.struct (fields_from (map (λ f. bare_child (child_of f)) c.in-Struct-b.gs.items)) = sym x ∙ h ∙ y in cc) ∙ sym v),
    )

pub is_same_type-returns-then-is_leaf : goal.is_same_type-returns-then-is_leaf
is_same_type-returns-then-is_leaf t c =
    let leaf : is_leaf (kind_of c.args.a.now) ≡ true = sym c.is_leaf.ensures ∙ c.if-is_leaf.true in (
      λ h. ap bare_kind ((kind_eq_is (kind_of c.args.a.now) (kind_of c.args.b.now)).0 (sym c.eq.ensures ∙ h)),
      λ h. c.eq.ensures ∙ (kind_eq_is (kind_of c.args.a.now) (kind_of c.args.b.now)).1 (leaves_same (kind_of c.args.a.now) (kind_of c.args.b.now) leaf h),
    )

pub is_same_union-returns-then-not-is_same_mode : goal.is_same_union-returns-then-not-is_same_mode
is_same_union-returns-then-not-is_same_mode t c = (
  λ h. absurd (true≢false (sym h)),
  λ h. absurd (other_mode c.args.a.now c.args.b.now (λ e. true≢false (sym (c.if-not-is_same_mode.ensures.1 e))) h),
)

pub is_same_union-returns-then-not-are_same_fields : goal.is_same_union-returns-then-not-are_same_fields
is_same_union-returns-then-not-are_same_fields t c =
    let u : map bare_field c.as_slice.result.now ≡ map bare_field (out-UnionType c.args.a.now).fields.items = ap (map bare_field) c.as_slice.ensures.value in
    let v : map bare_field c.as_slice-2.result.now ≡ map bare_field (out-UnionType c.args.b.now).fields.items = ap (map bare_field) c.as_slice-2.ensures.value in (
      λ h. absurd (true≢false (sym h)),
      λ h. absurd (other_fields c.args.a.now c.args.b.now (λ e. true≢false (sym (c.if-not-are_same_fields.ensures.1 (u ∙ e ∙ sym v)))) h),
    )

pub is_same_union-returns : goal.is_same_union-returns
is_same_union-returns t c =
    let u : map bare_field c.as_slice.result.now ≡ map bare_field (out-UnionType c.args.a.now).fields.items = ap (map bare_field) c.as_slice.ensures.value in
    let v : map bare_field c.as_slice-2.result.now ≡ map bare_field (out-UnionType c.args.b.now).fields.items = ap (map bare_field) c.as_slice-2.ensures.value in
    unions_same c.args.a.now c.args.b.now _ _ (c.len-children.ensures ∙ (out-UnionType c.args.a.now).fields.ok.0) (c.if-not-is_same_mode.ensures.0 refl) (sym u ∙ c.if-not-are_same_fields.ensures.0 refl ∙ v) c.are_same_ids.ensures
