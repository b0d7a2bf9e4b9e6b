-- What a consumer makes of the items of an iterator. (Arrow Columnar Format, "IPC Streaming Format".)
use Rattle.std.specs.Prelude.{◌≡◌, None, Some, Option, Result, Ok, Err}
use Rattle.arrow_spec.specs.declared.error.IpcError.{IpcError}
use Rattle.arrow_spec.specs.declared.error.IpcError.TheVariants.{OutOfSpec}
use Rattle.arrow_spec.specs.declared.error.OutOfSpecKind.TheVariants.{MissingSchema}
use Rattle.arrow_spec.specs.Arrays.{Dictionaries}
use Rattle.arrow_spec.specs.Readings.{Refuses, refusals}
use Rattle.arrow_spec.specs.Schema.{Schema}
use Rattle.arrow_arrays.specs.Batches.{Batch}
use Rattle.ipc_fields.specs.Causes.{RefusesBytes}
use Rattle.ipc_files.specs.Below.{table_of}
use Rattle.ipc_read_laws.specs.Held.{Held, HoldsCells}
use Rattle.ipc_streams.specs.Starts.{Start}
use Rattle.ipc_write.specs.declared.encoded.EncodedData.{EncodedData}
use Rattle.ipc_flight.specs.Firsts.{first_in}
use Rattle.ipc_flight.specs.Flights.{flight_step}
use Rattle.ipc_flight.specs.Hands.{handed_of}

-- What the first item says, by the iterator's own relation of one item: a schema's message, or why there is none. Where there is no item there is no schema.
pub data Begins {It : Type 0} (steps : It → Option (Result EncodedData IpcError) → It → Type 0) (i : It) : Result (Start × It) IpcError → Type 0 where
  no_item : {i' : It} → steps i None i' → Begins steps i (Err (OutOfSpec MissingSchema))
  an_error : {i' : It} {e : IpcError} → steps i (Some (Err e)) i' → Begins steps i (Err e)
  refused : {i' : It} {x : EncodedData} {e : IpcError} → steps i (Some (Ok x)) i' → RefusesBytes e (refusals (first_in x.ipc_message.items)) → Begins steps i (Err e)
  begun : {i' : It} {x : EncodedData} {s : Start} → steps i (Some (Ok x)) i' → first_in x.ipc_message.items ≡ Ok s → Begins steps i (Ok (s, i'))

-- A run over the items, from one state of the iterator to another, and what is held behind it: dictionaries, and then a batch, the end, an item that is an error, or a refusal.
pub data FlightRun {It : Type 0} (steps : It → Option (Result EncodedData IpcError) → It → Type 0) (s : Schema) : It → It → Dictionaries → Held → Result (Option Batch) IpcError → Type 0 where
  at_end : {i i' : It} {d : Dictionaries} {h : Held} → steps i None i' → HoldsCells d h → FlightRun steps s i i' d h (Ok None)
  an_error : {i i' : It} {d : Dictionaries} {h : Held} {e : IpcError} → steps i (Some (Err e)) i' → HoldsCells d h → FlightRun steps s i i' d h (Err e)
  refused : {i i' : It} {d : Dictionaries} {h : Held} {x : EncodedData} {e : IpcError} → steps i (Some (Ok x)) i' → Refuses e (refusals (flight_step s d (handed_of x))) → HoldsCells d h → FlightRun steps s i i' d h (Err e)
  a_batch : {i i' : It} {d e : Dictionaries} {h : Held} {x : EncodedData} {b : Batch} → steps i (Some (Ok x)) i' → flight_step s d (handed_of x) ≡ Ok (record { dictionaries = e; batch = Some (table_of b) }) → HoldsCells e h → FlightRun steps s i i' d h (Ok (Some b))
  a_dictionary : {i j i' : It} {d e : Dictionaries} {h : Held} {x : EncodedData} {r : Result (Option Batch) IpcError} → steps i (Some (Ok x)) j → flight_step s d (handed_of x) ≡ Ok (record { dictionaries = e; batch = None }) → FlightRun steps s j i' e h r → FlightRun steps s i i' d h r
