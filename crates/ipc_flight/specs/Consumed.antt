-- What a consumer makes of the messages of a flight. (Arrow Columnar Format, "IPC Streaming Format".)
use Rattle.std.specs.Prelude.{◌≡◌, ℕ, ℤ, List, true, None, Option, Result, Ok, Err}
use Rattle.std.specs.Option.{option_map}
use Rattle.arrow_spec.specs.declared.error.IpcError.{IpcError}
use Rattle.arrow_spec.specs.Arrays.{Dictionaries, HeldDictionary}
use Rattle.arrow_spec.specs.Files.{Asked, TableBatch, batch_of_tables, dictionary_of, lengths_sum, to_read}
use Rattle.arrow_spec.specs.Messages.{message_pairs, record_message}
use Rattle.arrow_spec.specs.Readings.{◌>>=◌, Reading, Refuses, refusals}
use Rattle.arrow_spec.specs.Schema.{Schema}
use Rattle.arrow_arrays.specs.Batches.{Batch}
use Rattle.ipc_files.specs.Below.{DictionaryTables, dictionary_message, table_of}
use Rattle.ipc_read_laws.specs.Held.{Held, HoldsCells}
use Rattle.ipc_flight.specs.Flights.{Handed, Taken, flight_step}

-- the same is held
abbrev pub SameHeld : Held → Held → Type 0
SameHeld h h' = (id : ℤ) → h' id ≡ h id

-- all columns under the dictionaries before a message
abbrev pub all_of : Schema → Dictionaries → ℕ → Asked
all_of s d most = record { order = s.order; fields = s.fields; columns = None; dictionaries = d; most = most }

abbrev pub message_in : List ℕ → List ℕ → Handed
message_in metadata body = record { metadata = metadata; body = body }

-- the values of a dictionary's message, and what they are by its tables
abbrev pub values_of : Schema → Dictionaries → DictionaryTables → List ℕ → Reading HeldDictionary
values_of s d x body = dictionary_of s d (lengths_sum x.dictionary.values.buffers) x.dictionary x.version body true

unfoldable pub values_in : Schema → Dictionaries → Handed → Reading HeldDictionary
values_in s d x = dictionary_message x.metadata >>= λ tables. values_of s d tables x.body

-- the batch of a record batch's message
unfoldable pub rows_in : Schema → Dictionaries → Handed → Reading TableBatch
rows_in s d x = do
  m ← record_message x.metadata
  custom ← message_pairs x.metadata
  batch_of_tables to_read (all_of s d (lengths_sum m.tables.buffers)) m.version custom m.tables x.body None

-- what is taken of a message, and that it is held
pub record IsTaken (d : Dictionaries) (s : Schema) (x : Handed) (h : Held) (o : Option Batch) (t : Taken) : Type 0 where
  pub is : flight_step s d x ≡ Ok t
  pub batch : t.batch ≡ option_map table_of o
  pub holds : HoldsCells t.dictionaries h

-- what a message gives, or a refusal of it
abbrev pub TakesHanded : Dictionaries → Schema → Handed → Held → Result (Option Batch) IpcError → Type 0
TakesHanded d s x h (Ok o) = (t : Taken) × IsTaken d s x h o t
TakesHanded d s x h (Err e) = Refuses e (refusals (flight_step s d x))
