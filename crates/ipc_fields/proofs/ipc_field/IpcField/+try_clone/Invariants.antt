use Rattle.std.proofs.Common.{◌≡◌, take, map}
use Rattle.ipc_fields.specs.IpcFields.{tree_of}
use Rattle.ipc_fields.proofs.ipc_field.IpcField.+try_clone.Given as goal

abbrev pub invariant-loop-field : goal.invariant-loop-field
invariant-loop-field l = map tree_of l.fields.items ≡ map tree_of (take l.field-index l.field-items)
