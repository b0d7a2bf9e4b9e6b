-- A batch, and what is sent of its dictionaries before it, as messages of a stream. (Arrow Columnar Format, "IPC Streaming Format".)
use Rattle.std.specs.Prelude.{◌≡◌, ◌++◌, ℕ, ℤ, List, [], ◌∷◌, map}
use Rattle.std.specs.List.{flat_map}
use Rattle.std.specs.Option.{unwrap_or}
use Rattle.arrow_spec.specs.Flat.{little}
use Rattle.arrow_spec.specs.Kinds.{Kind, Fields, uses_in, values_under}
use Rattle.ipc_messages.specs.Below.{Batch, kind_in, rows_in, ToSend}
use Rattle.laws_files.specs.Below.{AllMayBeWritten, Known, WrittenMessage, WrittenValues, batch, bytes_of, values, with_messages}
use Rattle.laws_columns.specs.Below.{column_in, with_kind}
use Rattle.laws_columns.specs.Laws.{batch_under}

-- the values of a message, of a kind
abbrev pub values_as : Kind → ToSend → WrittenValues
values_as k s = record { id = s.id; is_delta = s.is_delta; rows = rows_in s.part; column = with_kind k (column_in little s.part) }

-- of the kind that a stream's fields have under its id
abbrev pub values_of : Fields → ToSend → WrittenValues
values_of fs s = values_as (unwrap_or (values_under s.id (uses_in fs)) (kind_in s.part)) s

-- the messages of what is sent before a batch, and of the batch
abbrev pub chunk_of : Fields → List ToSend → Batch → List WrittenMessage
chunk_of fs sent b = map (λ s. values (values_of fs s)) sent ++ batch (batch_under fs b) ∷ []

-- messages that may be written where so much is known, their bytes, and what is known behind them
pub record MayFollow (fs : Fields) (before behind : Known) (ms : List WrittenMessage) (bytes : List ℕ) : Type 0 where
  pub may : AllMayBeWritten fs before ms
  pub bytes_are : flat_map bytes_of ms ≡ bytes
  pub known : (q : ℤ) → with_messages ms before q ≡ behind q
