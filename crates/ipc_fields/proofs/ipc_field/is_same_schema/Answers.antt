use Rattle.std.proofs.Common.{◌≡◌, map, ap, sym, ◌∙◌, true≢false}
use Rattle.ipc_fields.specs.IpcFields.{tree_of}
use Rattle.ipc_fields.proofs.Trees.{ids_from_same}
use Rattle.ipc_fields.proofs.ipc_field.is_same_schema.Goals as goal

pub returns-else-are_same_fields : goal.returns-else-are_same_fields
returns-else-are_same_fields c =
    let u : map tree_of c.as_slice.result.now ≡ map tree_of c.args.a.now.fields.items = ap (map tree_of) c.as_slice.ensures.value in
    let v : map tree_of c.as_slice-2.result.now ≡ map tree_of c.args.b.now.fields.items = ap (map tree_of) c.as_slice-2.ensures.value in (
      λ h. absurd (true≢false (sym h ∙ c.if-are_same_fields.false)),
      λ h. c.are_same_fields.ensures.1 (u ∙ ids_from_same _ _ h.0 ∙ sym v),
    )
