-- What of dictionaries is sent before a batch, and the batch. (Arrow Columnar Format, "Dictionary Messages".)
use Rattle.std.specs.Prelude.{◌≡◌, ◌⊎◌, ◌++◌, ◌&&◌, ◌||◌, ℤ, List, Bool, true, false, not, None, IsSome, Result, Ok, Err}
use Rattle.std.specs.declared.alloc.Global.{Global}
use Rattle.std.specs.declared.vec.Vec.{Vec}
use Rattle.arrow_spec.specs.declared.error.IpcError.{IpcError}
use Rattle.arrow_spec.specs.declared.error.IpcError.TheVariants.{Memory, NotRepresentable, Unsupported}
use Rattle.arrow_spec.specs.declared.error.Feature.TheVariants.{Compression}
use Rattle.arrow_spec.specs.Kinds.{Kind}
use Rattle.arrow_spec.specs.Layout.{layout}
use Rattle.arrow_arrays.specs.Batches.{Batch}
use Rattle.arrow_arrays.specs.Parts.{Forest}
use Rattle.ipc_fields.specs.IpcFields.{Ids}
use Rattle.ipc_dictionaries.specs.declared.tracker.DictionaryTracker.{DictionaryTracker}
use Rattle.ipc_dictionaries.specs.Batches.{begun}
use Rattle.ipc_dictionaries.specs.Columns.{columns_sent}
use Rattle.ipc_dictionaries.specs.NewDictionaries.{Sending, ToSend, has_several}
use Rattle.ipc_fields.specs.Representable.{is_representable}
use Rattle.ipc_dictionaries.specs.Tracker.{held_by, IsKept}
use Rattle.ipc_dictionaries.specs.Walks.{options_of}
use Rattle.ipc_write.specs.Batches.{batch_message, batch_body, is_within}
use Rattle.ipc_write.specs.Encoding.{MayBeBatch}
use Rattle.ipc_write.specs.Outcomes.{Plans, Same}
use Rattle.ipc_write.specs.declared.encoded.EncodedData.{EncodedData}
use Rattle.ipc_write.specs.declared.options.WriteOptions.{WriteOptions}
use Rattle.ipc_messages.specs.Encoded.{AllMayBeValues, AreMessagesOf, RefusesOne, all_fit, messages_of}

-- what of the dictionaries of columns is to be sent, by what was sent before
abbrev pub found : DictionaryTracker → Forest → Ids → Result Sending IpcError
found t columns below = columns_sent (options_of t) columns below (begun t)

-- all of it is sent by these messages, and held
pub record IsSentBy (options : WriteOptions) (old new : DictionaryTracker) (columns : Forest) (below : Ids) (ms : List EncodedData) : Type 0 where
  pub uncompressed : options.compression ≡ None
  pub used : ℤ → Bool
  pub sent : List ToSend
  pub is_found : found old columns below ≡ Ok (record { held = held_by new; used = used; sent = sent })
  pub messages : AreMessagesOf options sent ms

-- why nothing is sent: for want of memory, or for what is found, or for the messages of what is found
abbrev pub Stops : IpcError → Result Sending IpcError → (List ToSend → Type 0) → Type 0
Stops e step refused = (e ≡ Memory) ⊎ ((step ≡ Err e) ⊎ ((s : Sending) × (step ≡ Ok s) × refused s.sent))

-- compression is refused before anything is looked at, also where nothing is to be sent; without it a call is refused for another cause
abbrev pub IsRefused : IpcError → WriteOptions → Type 0 → Type 0
IsRefused e options why = ((e ≡ Unsupported Compression) × IsSome options.compression) ⊎ ((options.compression ≡ None) × why)

-- what of a column's dictionaries is to be sent was added behind a list, or what is held and the list are left
abbrev pub AddsNew : Result (Unit {0}) IpcError → WriteOptions → DictionaryTracker → DictionaryTracker → Forest → Ids → List EncodedData
    → List EncodedData → Type 0
AddsNew (Ok u) options old new columns below was is = (more : List EncodedData) × (is ≡ was ++ more) × IsSentBy options old new columns below more
AddsNew (Err e) options old new columns below was is =
    IsRefused e options (Stops e (found old columns below) (λ sent. RefusesOne e options sent)) × IsKept (held_by old) (held_by new) × (is ≡ was)

-- several parts take deltas, and none are sent
abbrev pub lacks_deltas : WriteOptions → Forest → Bool
lacks_deltas options parts = not options.deltas && has_several parts

-- the tables of a schema cannot say a dictionary's type, or its parts take deltas, and none are sent
abbrev pub cannot_be_sent : WriteOptions → Kind → Forest → Bool
cannot_be_sent options k parts = not (is_representable k) || lacks_deltas options parts

-- a dictionary of a kind was added behind a list, or it is left
abbrev pub AddsDictionary : Result (Unit {0}) IpcError → WriteOptions → ℤ → Kind → Forest → List EncodedData → List EncodedData → Type 0
AddsDictionary (Ok u) options id k parts was is =
    (cannot_be_sent options k parts ≡ false) × (more : List EncodedData) × (is ≡ was ++ more) × AreMessagesOf options (messages_of id false parts) more
AddsDictionary (Err e) options id k parts was is =
    IsRefused e options (((e ≡ NotRepresentable) × (cannot_be_sent options k parts ≡ true))
    ⊎ ((cannot_be_sent options k parts ≡ false) × ((e ≡ Memory) ⊎ RefusesOne e options (messages_of id false parts)))) × (is ≡ was)

-- a message is that of a batch, which may be sent
pub record IsOfBatch (options : WriteOptions) (b : Batch) (m : EncodedData) : Type 0 where
  pub uncompressed : options.compression ≡ None
  pub within : is_within options.metadata_limit b ≡ true
  pub message : m.ipc_message.items ≡ layout (batch_message b).node
  pub body : m.arrow_data.items ≡ batch_body b
  pub may : MayBeBatch b

-- values may be sent, and the batch behind them
pub record MayBeSent (options : WriteOptions) (sent : List ToSend) (b : Batch) : Type 0 where
  pub fit : all_fit options sent ≡ true
  pub within : is_within options.metadata_limit b ≡ true
  pub values : AllMayBeValues sent
  pub batch : MayBeBatch b

-- why the messages of what is found, or the batch's behind them, are refused
abbrev pub RefusesChunk : IpcError → WriteOptions → List ToSend → Batch → Type 0
RefusesChunk e options sent b = RefusesOne e options sent ⊎ ((all_fit options sent ≡ true) × Plans (Err e) options b)

-- the messages of what is found, and the batch's in place of another, or that one is left
abbrev pub EncodesFound : Result (Vec EncodedData Global) IpcError → WriteOptions → List ToSend → Batch → EncodedData → EncodedData → Type 0
EncodesFound (Ok v) options sent b was is = AreMessagesOf options sent v.items × IsOfBatch options b is
EncodesFound (Err e) options sent b was is = RefusesChunk e options sent b × Same was is

-- a batch's dictionaries and the batch, in place of another message, or what is held and that message are left
abbrev pub EncodesChunkInto : Result (Vec EncodedData Global) IpcError → WriteOptions → DictionaryTracker → DictionaryTracker → Forest → Ids → Batch
    → EncodedData → EncodedData → Type 0
EncodesChunkInto (Ok v) options old new columns below b was is = IsSentBy options old new columns below v.items × IsOfBatch options b is
EncodesChunkInto (Err e) options old new columns below b was is =
    IsRefused e options (Stops e (found old columns below) (λ sent. RefusesChunk e options sent b)) × IsKept (held_by old) (held_by new) × Same was is

-- a batch's dictionaries and the batch, or what is held is left
abbrev pub EncodesChunk : Result (Vec EncodedData Global × EncodedData) IpcError → WriteOptions → DictionaryTracker → DictionaryTracker → Forest
    → Ids → Batch → Type 0
EncodesChunk (Ok p) options old new columns below b = IsSentBy options old new columns below p.0.items × IsOfBatch options b p.1
EncodesChunk (Err e) options old new columns below b =
    IsRefused e options (Stops e (found old columns below) (λ sent. RefusesChunk e options sent b)) × IsKept (held_by old) (held_by new)
