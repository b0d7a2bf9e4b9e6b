-- What is put into a sink before a call stops.
use Rattle.std.specs.Prelude.{◌≡◌, ◌⊎◌, ◌+◌, ◌^◌, ◌<◌, ⊤, List, ℕ, Bool, true, false, length, min, Option, Some, None, Result, Ok, Err}
use Rattle.std.specs.Io.KnownBytes.{Appends, Keeps}
use Rattle.arrow_spec.specs.declared.error.IpcError.{IpcError}
use Rattle.arrow_spec.specs.declared.error.IpcError.TheVariants.{Memory, WriteFault}
use Rattle.arrow_arrays.specs.Batches.{Batch}
use Rattle.ipc_write.specs.Below.{Moved, NoneFalls, PutsPart, Rose}
use Rattle.ipc_dictionaries.specs.NewDictionaries.{ToSend}
use Rattle.ipc_write.specs.declared.options.WriteOptions.{WriteOptions}
use Rattle.ipc_messages.specs.Chunks.{MayBeSent, RefusesChunk}
use Rattle.ipc_messages.specs.Messages.{chunk_text}
use Rattle.ipc_messages.specs.declared.puts.Stop.{Stop}

-- no byte was put, and no count fell
pub record Untouched (m : Moved) : Type 0 where
  pub bytes : Keeps m.old m.new
  pub counts : NoneFalls m

-- the first put wanted memory, or a part of the bytes may have been put
abbrev pub StopsIn : Bool → Moved → IpcError → List ℕ → Type 0
StopsIn true m e bytes = PutsPart m e bytes
StopsIn false m e bytes = (e ≡ Memory) × Untouched m × Rose m.wants m.wants_now

-- all bytes were put, or the call stops
abbrev pub PutsOrStops : Moved → Result (Unit {0}) Stop → List ℕ → Type 0
PutsOrStops m (Ok u) bytes = Appends m.old m.new bytes × NoneFalls m
PutsOrStops m (Err s) bytes = StopsIn s.has_begun m s.error bytes

-- the same behind bytes that were put
abbrev pub PutsBehind : Moved → Result (Unit {0}) Stop → List ℕ → Type 0
PutsBehind m (Ok u) bytes = Appends m.old m.new bytes × NoneFalls m
PutsBehind m (Err s) bytes = (s.has_begun ≡ true) × PutsPart m s.error bytes

-- a stop behind bytes, if any were put
abbrev pub stop_behind : Bool → Stop → Stop
stop_behind true s = record { error = s.error; has_begun = true }
stop_behind false s = s

-- the bytes that are told have become more
abbrev pub Grew : Option (List ℕ) → Option (List ℕ) → Type 0
Grew None new = ⊤
Grew (Some old) None = ⊥
Grew (Some old) (Some new) = length old < length new

-- a call that stops for want of memory, and not in its first put, has put something
abbrev pub PutsBeforeWant : {T : Type 0} → Result T Stop → Option (List ℕ) → Option (List ℕ) → Type 0
PutsBeforeWant (Ok t) old new = ⊤
PutsBeforeWant (Err s) old new = s.error ≡ Memory → s.has_begun ≡ true → Grew old new

-- a call of one put stops behind a byte by a fault alone
abbrev pub StopsByFault : {T : Type 0} → Result T Stop → Type 0
StopsByFault (Ok t) = ⊤
StopsByFault (Err s) = s.has_begun ≡ true → s.error ≡ WriteFault

-- values and the batch behind them were sent as they are encoded, or not before a byte was put
abbrev pub SendStops : (List ℕ → List ℕ) → Bool → Moved → IpcError → WriteOptions → List ToSend → Batch → Type 0
SendStops encode true m e options sent b = MayBeSent options sent b × PutsPart m e (encode (chunk_text sent b))
SendStops encode false m e options sent b = ((e ≡ Memory) ⊎ RefusesChunk e options sent b) × Untouched m

-- a number of bytes in 128 bits: 2^128 - 1 says that there are so many or more
abbrev pub counted : ℕ → ℕ
counted n = min n 340282366920938463463374607431768211455

-- the number is that of the bytes before they are encoded
abbrev pub SendsChunk : (List ℕ → List ℕ) → Moved → Result ℕ Stop → WriteOptions → List ToSend → Batch → Type 0
SendsChunk encode m (Ok n) options sent b =
    MayBeSent options sent b × Appends m.old m.new (encode (chunk_text sent b)) × NoneFalls m × (n ≡ length (chunk_text sent b)) × (n < 2 ^ 127 + 2 ^ 96)
SendsChunk encode m (Err s) options sent b = SendStops encode s.has_begun m s.error options sent b
