use Rattle.std.proofs.Common.{◌≡◌, drop}
use Rattle.ipc_fields.specs.IpcFields.{tree_of}
use Rattle.ipc_fields.specs.Contains.{have_id}
use Rattle.ipc_fields.proofs.Trees.{have_left}
use Rattle.ipc_fields.proofs.ipc_field.IpcField.+contains_dictionary.Given as goal

abbrev pub invariant-loop-field : goal.invariant-loop-field
invariant-loop-field l = have_left tree_of (drop l.field-index l.field-items) ≡ have_id (tree_of l.self).children
