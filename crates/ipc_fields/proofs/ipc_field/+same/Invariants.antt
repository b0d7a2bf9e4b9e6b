use Rattle.std.proofs.Common.{◌≡◌, take, map}
use Rattle.ipc_fields.specs.IpcFields.{tree_of}
use Rattle.ipc_fields.proofs.ipc_field.+same.Given as goal

abbrev pub invariant-are_same_fields-loop-i : goal.invariant-are_same_fields-loop-i
invariant-are_same_fields-loop-i l = map tree_of (take l.i l.a) ≡ map tree_of (take l.i l.b)
