-- The IPC fields of a stream's schema. (Schema.fbs, DictionaryEncoding.)
use Rattle.std.specs.Prelude.{◌≡◌, ⊤, List, Option, Some, None}
use Rattle.std.specs.Option.{option_map}
use denote.Ref.{Bor}
use Rattle.arrow_spec.specs.Kinds.{Fields}
use Rattle.ipc_fields.specs.IpcFields.{Ids, ids_of}
use Rattle.ipc_fields.specs.declared.ipc_field.IpcField.{IpcField}
use Rattle.ipc_write.specs.Below.{IsNumbered}

-- the ids of the IPC fields that are given
abbrev pub given_ids : Option (Bor (List IpcField)) → Option Ids
given_ids = option_map (λ fields. ids_of fields.now)

-- the ids of a stream's IPC fields: those that are given, or such as count from 0 in preorder
abbrev pub AreIdsFor : Fields → Option Ids → Ids → Type 0
AreIdsFor fs (Some below) own = own ≡ below
AreIdsFor fs None own = IsNumbered fs own

-- those that are given are a stream's own
abbrev pub IsOwn : Option Ids → Ids → Type 0
IsOwn None own = ⊤
IsOwn (Some below) own = below ≡ own
