-- The messages of a batch and of what of its dictionaries is sent before it, planned. (Arrow Columnar Format, "Dictionary Messages".)
use Rattle.std.specs.Prelude.{◌≡◌, ◌⊎◌, ◌+◌, ◌++◌, ◌∷◌, [], List, ℕ, length, map, Result, Ok, Err, true}
use Rattle.std.specs.List.{flat_map}
use Rattle.std.specs.declared.alloc.Global.{Global}
use Rattle.std.specs.declared.vec.Vec.{Vec}
use Rattle.arrow_spec.specs.declared.error.IpcError.{IpcError}
use Rattle.arrow_spec.specs.declared.error.IpcError.TheVariants.{Memory}
use Rattle.arrow_spec.specs.Flat.{little}
use Rattle.arrow_spec.specs.Framing.{body_bytes, message_bytes, padded_size}
use Rattle.arrow_spec.specs.Sent.{SentMessage}
use Rattle.arrow_arrays.specs.Batches.{Batch}
use Rattle.ipc_write.specs.Below.{batch_bytes, pieces_in}
use Rattle.ipc_dictionaries.specs.NewDictionaries.{ToSend}
use Rattle.ipc_write.specs.Batches.{batch_message, is_within, written_batch_of}
use Rattle.ipc_write.specs.Encoding.{MayBeBatch}
use Rattle.ipc_write.specs.Outcomes.{Plans}
use Rattle.ipc_write.specs.Values.{MayBeValues, values_message}
use Rattle.ipc_write.specs.declared.options.WriteOptions.{WriteOptions}
use Rattle.ipc_messages.specs.Chunks.{MayBeSent, RefusesChunk}
use Rattle.ipc_messages.specs.Encoded.{AllMayBeValues, Refuses, RefusesOne, all_fit, fits}
use Rattle.ipc_messages.specs.declared.planned.PlannedMessage.{PlannedMessage}

-- how many bytes of a message stand before its body, and how many are its body
pub record Sizes : Type 0 where
  pub front : ℕ
  pub body : ℕ

-- how many bytes messages have
abbrev pub total : List Sizes → ℕ
total [] = 0
total (x ∷ xs) = x.front + x.body + total xs

-- the mark, the length and the padded metadata; the body
abbrev pub sizes_of : SentMessage → Sizes
sizes_of x = record { front = 8 + padded_size x.node; body = x.body }

-- the message of a dictionary's values
abbrev pub message_of : ToSend → SentMessage
message_of s = values_message s.id s.is_delta s.part

abbrev pub sent_sizes : ToSend → Sizes
sent_sizes s = sizes_of (message_of s)

-- its bytes
abbrev pub values_text : ToSend → List ℕ
values_text s = message_bytes (message_of s).node (body_bytes 0 (pieces_in little s.part))

-- of values, and of the batch behind them
abbrev pub chunk_text : List ToSend → Batch → List ℕ
chunk_text sent b = flat_map values_text sent ++ batch_bytes (written_batch_of b)

-- the bytes of a message that is planned, and how many they are
abbrev pub planned_text : PlannedMessage → List ℕ
planned_text m = m.front.items ++ body_bytes 0 m.buffers.items

abbrev pub planned_sizes : PlannedMessage → Sizes
planned_sizes m = record { front = length m.front.items; body = m.body_length }

-- the message of values is planned
pub record IsPlanned (options : WriteOptions) (s : ToSend) (m : PlannedMessage) : Type 0 where
  pub fits : fits options s ≡ true
  pub text : planned_text m ≡ values_text s
  pub sizes : planned_sizes m ≡ sent_sizes s
  pub may : MayBeValues s.part

-- it was, or is refused, or memory was wanted
abbrev pub PlansOne : Result PlannedMessage IpcError → WriteOptions → ToSend → Type 0
PlansOne (Ok m) options s = IsPlanned options s m
PlansOne (Err e) options s = (e ≡ Memory) ⊎ Refuses e options s

-- the messages of values are planned
pub record ArePlanned (options : WriteOptions) (sent : List ToSend) (ms : List PlannedMessage) : Type 0 where
  pub fit : all_fit options sent ≡ true
  pub text : flat_map planned_text ms ≡ flat_map values_text sent
  pub sizes : map planned_sizes ms ≡ map sent_sizes sent
  pub may : AllMayBeValues sent

abbrev pub PlansEach : Result (Vec PlannedMessage Global) IpcError → WriteOptions → List ToSend → Type 0
PlansEach (Ok v) options sent = ArePlanned options sent v.items
PlansEach (Err e) options sent = (e ≡ Memory) ⊎ RefusesOne e options sent

-- a batch's message is planned
pub record IsBatchPlanned (options : WriteOptions) (b : Batch) (m : PlannedMessage) : Type 0 where
  pub within : is_within options.metadata_limit b ≡ true
  pub text : planned_text m ≡ batch_bytes (written_batch_of b)
  pub sizes : planned_sizes m ≡ sizes_of (batch_message b)
  pub may : MayBeBatch b

abbrev pub PlansBatch : Result PlannedMessage IpcError → WriteOptions → Batch → Type 0
PlansBatch (Ok m) options b = IsBatchPlanned options b m
PlansBatch (Err e) options b = (e ≡ Memory) ⊎ Plans (Err e) options b

-- the messages of values, and of the batch behind them, are planned
pub record IsChunkPlanned (options : WriteOptions) (sent : List ToSend) (b : Batch) (ms : List PlannedMessage) : Type 0 where
  pub may : MayBeSent options sent b
  pub text : flat_map planned_text ms ≡ chunk_text sent b
  pub sizes : map planned_sizes ms ≡ map sent_sizes sent ++ sizes_of (batch_message b) ∷ []

-- they are, or one is refused, or memory was wanted
abbrev pub PlansChunk : Result (Vec PlannedMessage Global) IpcError → WriteOptions → List ToSend → Batch → Type 0
PlansChunk (Ok v) options sent b = IsChunkPlanned options sent b v.items
PlansChunk (Err e) options sent b = (e ≡ Memory) ⊎ RefusesChunk e options sent b
