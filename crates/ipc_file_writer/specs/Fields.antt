-- The IPC fields that a file's writer is made with.
use Rattle.std.specs.Prelude.{Option}
use Rattle.std.specs.Option.{option_map}
use Rattle.std.specs.declared.alloc.Global.{Global}
use Rattle.std.specs.declared.vec.Vec.{Vec}
use Rattle.ipc_fields.specs.IpcFields.{Ids, ids_of}
use Rattle.ipc_fields.specs.declared.ipc_field.IpcField.{IpcField}

-- the ids of the IPC fields that are given
abbrev pub own_ids : Option (Vec IpcField Global) → Option Ids
own_ids = option_map (λ v. ids_of v.items)
