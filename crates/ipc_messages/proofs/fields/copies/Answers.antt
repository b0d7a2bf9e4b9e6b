use Rattle.std.proofs.Common.{map, ap, ◌∙◌, arith}
use Rattle.std.proofs.lemmas.List.{take_all}
use Rattle.ipc_fields.specs.IpcFields.{ids_from, tree_of}
use Rattle.ipc_messages.proofs.fields.copies.Goals as goal

pub returns : goal.returns
returns c = ap ids_from (c.loop-field.invariant ∙ ap (map tree_of) (take_all c.loop-field.field-index c.args.fields.now (omega arith)))
