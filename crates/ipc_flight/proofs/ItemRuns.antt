-- Runs over the items of an iterator, one more dictionary at a time.
use Rattle.std.proofs.Common.{◌≡◌, ◌∙◌, None, Some, Option, Result, Ok, Err, sym, ap, subst}
use Rattle.std.specs.Option.{option_map}
use Rattle.arrow_spec.specs.declared.error.IpcError.{IpcError}
use Rattle.arrow_spec.specs.Arrays.{Dictionaries}
use Rattle.arrow_spec.specs.Schema.{Schema}
use Rattle.arrow_arrays.specs.Batches.{Batch}
use Rattle.ipc_files.specs.Below.{table_of}
use Rattle.ipc_read_laws.specs.Held.{Held, HoldsCells}
use Rattle.ipc_write.specs.declared.encoded.EncodedData.{EncodedData}
use Rattle.ipc_flight.specs.Consumed.{SameHeld, TakesHanded}
use Rattle.ipc_flight.specs.Flights.{flight_step}
use Rattle.ipc_flight.specs.Hands.{handed_of}
use Rattle.ipc_flight.specs.Runs.{FlightRun, a_batch, a_dictionary, an_error, at_end, refused}

-- dictionaries were taken from one state to another, behind which others are held
pub record Passed {It : Type 0} (steps : It → Option (Result EncodedData IpcError) → It → Type 0) (s : Schema) (i j : It) (d : Dictionaries) (h : Held) : Type 0 where
  pub read : Dictionaries
  pub holds : HoldsCells read h
  pub before : (i' : It) (h' : Held) (r : Result (Option Batch) IpcError) → FlightRun steps s j i' read h' r → FlightRun steps s i i' d h' r

pub none_passed : {It : Type 0} (steps : It → Option (Result EncodedData IpcError) → It → Type 0) (s : Schema) (i : It) (d : Dictionaries) (h : Held) → HoldsCells d h → Passed steps s i i d h
none_passed steps s i d h holds = record { read = d; holds = holds; before = λ i' h' r run. run }

-- one more
pub one_passed : {It : Type 0} (steps : It → Option (Result EncodedData IpcError) → It → Type 0) (s : Schema) (i j k : It) (d : Dictionaries) (h h' : Held) (x : EncodedData) → Passed steps s i j d h → steps j (Some (Ok x)) k → ((e : Dictionaries) → HoldsCells e h → TakesHanded e s (handed_of x) h' (Ok None)) → Passed steps s i k d h'
one_passed steps s i j k d h h' x passed step takes =
    let taken = takes passed.read passed.holds in
    let t = taken.0 in
    let is : flight_step s passed.read (handed_of x) ≡ Ok (record { dictionaries = t.dictionaries; batch = None }) = taken.1.is ∙ ap (λ o. Ok (record { dictionaries = t.dictionaries; batch = o })) taken.1.batch in
    record { read = t.dictionaries; holds = taken.1.holds; before = λ i' q r run. passed.before i' q r (a_dictionary step is run) }

pub passed_end : {It : Type 0} (steps : It → Option (Result EncodedData IpcError) → It → Type 0) (s : Schema) (i j k : It) (d : Dictionaries) (h : Held) → Passed steps s i j d h → steps j None k → FlightRun steps s i k d h (Ok None)
passed_end steps s i j k d h passed step = passed.before k h (Ok None) (at_end step passed.holds)

pub passed_error : {It : Type 0} (steps : It → Option (Result EncodedData IpcError) → It → Type 0) (s : Schema) (i j k : It) (d : Dictionaries) (h : Held) (result : Result (Option Batch) IpcError) (e : IpcError) → result ≡ Err e → Passed steps s i j d h → steps j (Some (Err e)) k → FlightRun steps s i k d h result
passed_error steps s i j k d h result e is passed step = subst (FlightRun steps s i k d h) (sym is) (passed.before k h (Err e) (an_error step passed.holds))

same_cells : (e : Dictionaries) (h h' : Held) → SameHeld h h' → HoldsCells e h → HoldsCells e h'
same_cells e h h' same holds id = holds id ∙ ap (λ o. option_map (λ parts. Rattle.arrow_arrays.specs.Heads.joined (Rattle.arrow_arrays.specs.Parts.cells_each parts)) o) (sym (same id))

pub passed_refused : {It : Type 0} (steps : It → Option (Result EncodedData IpcError) → It → Type 0) (s : Schema) (i j k : It) (d : Dictionaries) (h h' : Held) (x : EncodedData) (result : Result (Option Batch) IpcError) (e : IpcError) → result ≡ Err e → Passed steps s i j d h → steps j (Some (Ok x)) k → ((e' : Dictionaries) → HoldsCells e' h → TakesHanded e' s (handed_of x) h' (Err e)) → SameHeld h h' → FlightRun steps s i k d h' result
passed_refused steps s i j k d h h' x result e is passed step takes same =
    subst (FlightRun steps s i k d h') (sym is) (passed.before k h' (Err e) (refused step (takes passed.read passed.holds) (same_cells passed.read h h' same passed.holds)))

pub passed_batch : {It : Type 0} (steps : It → Option (Result EncodedData IpcError) → It → Type 0) (s : Schema) (i j k : It) (d : Dictionaries) (h h' : Held) (x : EncodedData) (b : Batch) → Passed steps s i j d h → steps j (Some (Ok x)) k → ((e : Dictionaries) → HoldsCells e h → TakesHanded e s (handed_of x) h' (Ok (Some b))) → FlightRun steps s i k d h' (Ok (Some b))
passed_batch steps s i j k d h h' x b passed step takes =
    let taken = takes passed.read passed.holds in
    let t = taken.0 in
    let is : flight_step s passed.read (handed_of x) ≡ Ok (record { dictionaries = t.dictionaries; batch = Some (table_of b) }) = taken.1.is ∙ ap (λ o. Ok (record { dictionaries = t.dictionaries; batch = o })) taken.1.batch in
    passed.before k h' (Ok (Some b)) (a_batch step is taken.1.holds)
