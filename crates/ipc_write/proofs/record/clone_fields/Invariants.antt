use Rattle.std.proofs.Common.{◌≡◌, take, map}
use Rattle.ipc_fields.specs.IpcFields.{tree_of}
use Rattle.ipc_write.proofs.record.clone_fields.Given as goal

abbrev pub invariant-loop-field : goal.invariant-loop-field
invariant-loop-field l = map tree_of l.clones.items ≡ map tree_of (take l.field-index l.fields)
