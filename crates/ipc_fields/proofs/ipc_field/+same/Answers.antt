use Rattle.std.proofs.Common.{◌≡◌, ap, sym, ◌∙◌, arith, true≢false, map, refl}
use Rattle.arrow_types.proofs.Sameness.{same_at}
use Rattle.ipc_fields.specs.IpcFields.{tree_of}
use Rattle.ipc_fields.proofs.Trees.{tree_of_is, tree_parts, tree_by}
use Rattle.ipc_fields.specs.declared.ipc_field.IpcField.{out-IpcField}
use Rattle.ipc_fields.proofs.ipc_field.+same.Goals as goal

pub are_same_fields-returns-then-not-is_same_field : goal.are_same_fields-returns-then-not-is_same_field
are_same_fields-returns-then-not-is_same_field t c = (
  λ h. absurd (true≢false (sym h)),
  λ h. c.if-not-is_same_field.ensures.1 (same_at tree_of c.args.a.now c.args.b.now c.loop-i.i _ _ c.loop-i-test.true (omega arith) c.index-a-i.is c.index-b-i.is h),
)

pub is_same_field-returns-then-is_same_id : goal.is_same_field-returns-then-is_same_id
is_same_field-returns-then-is_same_id t c =
    let x = tree_of_is c.args.a.now in
    let y = tree_of_is c.args.b.now in
    let i : (out-IpcField c.args.a.now).dictionary_id ≡ (out-IpcField c.args.b.now).dictionary_id = c.if-is_same_id.ensures.0 refl in
    let u : map tree_of c.as_slice.result.now ≡ map tree_of (out-IpcField c.args.a.now).fields.items = ap (map tree_of) c.as_slice.ensures.value in
    let v : map tree_of c.as_slice-then-is_same_id.result.now ≡ map tree_of (out-IpcField c.args.b.now).fields.items = ap (map tree_of) c.as_slice-then-is_same_id.ensures.value in (
      λ h. x ∙ ap (λ z. tree_by z (map tree_of (out-IpcField c.args.a.now).fields.items)) i ∙ ap (tree_by (out-IpcField c.args.b.now).dictionary_id) (sym u ∙ c.are_same_fields.ensures.0 h ∙ v) ∙ sym y,
      λ h. c.are_same_fields.ensures.1 (u ∙ (tree_parts _ _ _ _ (sym x ∙ h ∙ y)).1 ∙ sym v),
    )
