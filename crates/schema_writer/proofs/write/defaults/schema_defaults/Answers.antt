use Rattle.std.proofs.Common.{◌≡◌, [], ◌∷◌, ◌++◌, map, ap, ◌∙◌}
use Rattle.std.proofs.lemmas.List.{map-append}
use Rattle.arrow_types.specs.KindOf.{child_of}
use Rattle.ipc_fields.specs.IpcFields.{tree_of}
use Rattle.schema_writer.proofs.Counting.{default_step, one_taken}
use Rattle.schema_writer.proofs.write.defaults.schema_defaults.Goals as goal

pub loop-i-preserved : goal.loop-i-preserved
loop-i-preserved c =
    let x = child_of c.field_at.result.now in
    let f = c.in_ok-default_field.field-0 in
    let i = c.loop-i.i in
    let pushed : map tree_of c.push.new.self.items ≡ map tree_of c.loop-i.ipc_fields.items ++ tree_of f ∷ [] = ap (map tree_of) c.in_ok-push.ensures.items ∙ map-append tree_of c.loop-i.ipc_fields.items (f ∷ []) in
    default_step _ _ (map tree_of c.loop-i.ipc_fields.items) (map tree_of c.push.new.self.items) x (tree_of f) c.args.next.now c.loop-i.next c.default_field.new.next (one_taken c.args.schema.now i x c.field_at.ensures) pushed c.loop-i.invariant c.in_ok-default_field.ensures
