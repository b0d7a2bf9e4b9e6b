-- The messages of record batches, one batch after another. (Arrow Columnar Format, "Dictionary Messages".)
use Rattle.std.specs.Prelude.{◌≡◌, ◌⊎◌, List, [], ◌∷◌, ◌++◌, Result, Ok, Err}
use Rattle.std.specs.declared.alloc.Global.{Global}
use Rattle.std.specs.declared.vec.Vec.{Vec}
use Rattle.arrow_spec.specs.declared.error.IpcError.{IpcError}
use Rattle.arrow_spec.specs.declared.error.IpcError.TheVariants.{Memory}
use Rattle.arrow_arrays.specs.Batches.{Batch}
use Rattle.arrow_arrays.specs.Parts.{forest}
use Rattle.ipc_file_writer.specs.Below.{options_of, DictionaryTracker, IsOfBatch, IsRefused, IsSentBy, RefusesChunk, Stops, found}
use Rattle.ipc_fields.specs.IpcFields.{Ids}
use Rattle.ipc_streams.specs.Below.{WriteOptions}
use Rattle.ipc_append.specs.declared.encode.EncodedChunk.{EncodedChunk}

-- a batch was encoded: what of its dictionaries was not held, which is held then, and the batch
pub record IsEncoded (options : WriteOptions) (below : Ids) (old new : DictionaryTracker) (b : Batch) (c : EncodedChunk) : Type 0 where
  pub sent : IsSentBy options old new (forest b.arrays) below c.dictionaries.items
  pub batch : IsOfBatch options b c.batch
  pub kept : options_of new ≡ options_of old

-- batches were encoded, each by what was held behind those before it
pub data AreEncoded (options : WriteOptions) (below : Ids) : DictionaryTracker → DictionaryTracker → List Batch → List EncodedChunk → Type 0 where
  none_encoded : {t : DictionaryTracker} → AreEncoded options below t t [] []
  one_encoded : {t u v : DictionaryTracker} {b : Batch} {bs : List Batch} {c : EncodedChunk} {cs : List EncodedChunk}
      → IsEncoded options below t u b c → AreEncoded options below u v bs cs → AreEncoded options below t v (b ∷ bs) (c ∷ cs)

-- a batch is refused, behind others that were encoded
pub record OneRefused (options : WriteOptions) (below : Ids) (e : IpcError) (t : DictionaryTracker) (bs : List Batch) : Type 0 where
  pub before : List Batch
  pub batch : Batch
  pub behind : List Batch
  pub are : bs ≡ before ++ batch ∷ behind
  pub chunks : List EncodedChunk
  pub held : DictionaryTracker
  pub encoded : AreEncoded options below t held before chunks
  pub refused : IsRefused e options (Stops e (found held (forest batch.arrays) below) (λ sent. RefusesChunk e options sent batch))

-- why batches are not encoded: memory was wanted, or one is refused
abbrev pub AreRefused : IpcError → WriteOptions → Ids → DictionaryTracker → List Batch → Type 0
AreRefused e options below t bs = (e ≡ Memory) ⊎ OneRefused options below e t bs

abbrev pub EncodesAll : Result (Vec EncodedChunk Global) IpcError → WriteOptions → Ids → DictionaryTracker → DictionaryTracker → List Batch → Type 0
EncodesAll (Ok v) options below old new bs = AreEncoded options below old new bs v.items
EncodesAll (Err e) options below old new bs = AreRefused e options below old bs
