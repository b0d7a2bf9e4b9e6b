use Rattle.std.proofs.Common.{◌≡◌, map, take}
use Rattle.ipc_fields.specs.IpcFields.{tree_of}
use Rattle.ipc_messages.proofs.fields.copies.Given as goal

abbrev pub invariant-loop-field : goal.invariant-loop-field
invariant-loop-field l = map tree_of l.copies.items ≡ map tree_of (take l.field-index l.fields)
