-- What the calls of a reader of a stream give, and where they leave its feed.
use Rattle.std.specs.Prelude.{◌≡◌, ℕ, ◌<◌, List, [], ◌∷◌, drop, nat_eq, Bool, true, false, Option, Some, None, Result, Ok, Err, IfErr, IfOk, IfSome, ⊤}
use Rattle.arrow_spec.specs.declared.error.IpcError.{IpcError}
use Rattle.arrow_spec.specs.Arrays.{Dictionaries, HeldDictionary}
use Rattle.arrow_spec.specs.Files.{TableBatch}
use Rattle.arrow_spec.specs.Readings.{Reading, Refuses, refusals}
use Rattle.arrow_spec.specs.Streams.{Reader, Step, stream_batch, stream_dictionary}
use Rattle.arrow_spec.specs.Features.{chosen_floats}
use Rattle.arrow_spec.specs.Messages.{Message, message_of}
use Rattle.arrow_arrays.specs.Batches.{Batch}
use Rattle.arrow_types.specs.Schemas.{Keyed}
use Rattle.ipc_io.specs.Outside.{LeavesFaults}
use Rattle.ipc_files.specs.Below.{Held, HoldsCells, table_of, held_in}
use Rattle.ipc_files.specs.FileViews.{FileCause}
use Rattle.ipc_streams.specs.Arrays.{GivesArrays, LeavesArrays, MessageLeaves}
use Rattle.ipc_streams.specs.Feeds.{FeedKept}
use Rattle.ipc_streams.specs.Heads.{is_taken}
use Rattle.ipc_files.specs.Selections.{HasFields}
use Rattle.ipc_streams.specs.Readers.{IsReader, fields_shown}
use Rattle.ipc_streams.specs.Steps.{Found, Next, a_batch, ended, most_dictionaries, next_in, step_within, waiting}
use Rattle.ipc_streams.specs.declared.cursor.StreamCursor.{StreamCursor}
use Rattle.ipc_streams.specs.declared.state.StreamState.{StreamState}
use Rattle.ipc_streams.specs.declared.state.StreamState.TheVariants as states

-- a batch, or none for a dictionary, as a step has it
abbrev pub batches_in : Option Batch → List TableBatch
batches_in None = []
batches_in (Some x) = table_of x ∷ []

-- a call gives a dictionary, whose cells are held before others, and leaves the bytes behind its body
abbrev pub GivesValues : Dictionaries → List ℕ → Option (List ℕ) → Held → Result (Unit {0}) IpcError → Reading HeldDictionary → Type 0
GivesValues d rest rest' h (Ok u) reading = (x : HeldDictionary) × (reading ≡ Ok x) × (rest' ≡ Some rest) × HoldsCells (x ∷ d) h
GivesValues d rest rest' h (Err e) reading = Refuses e (refusals reading)

-- a call gives a batch, and leaves the bytes behind its body
abbrev pub GivesBatch : List ℕ → Option (List ℕ) → Result Batch IpcError → Reading TableBatch → Type 0
GivesBatch rest rest' (Ok x) reading = (reading ≡ Ok (table_of x)) × (rest' ≡ Some rest)
GivesBatch rest rest' (Err e) reading = Refuses e (refusals reading)

-- a call gives what a message leaves: its batch, the dictionaries whose cells are held, and the bytes behind its body
abbrev pub GivesStep : Option (List ℕ) → Held → Result (Option Batch) IpcError → Reading Step → Type 0
GivesStep rest' h (Ok o) reading = (d : Dictionaries) × (rest : List ℕ)
    × (reading ≡ Ok (record { dictionaries = d; batch = batches_in o; rest = rest })) × (rest' ≡ Some rest) × HoldsCells d h
GivesStep rest' h (Err e) reading = Refuses e (refusals reading)

-- what was found, by a reader's state; none at the end
abbrev pub found_of : Option StreamState → Found
found_of None = ended
found_of (Some states.Waiting) = waiting
found_of (Some (states.Some x)) = a_batch (table_of x)

-- a call gives what stands next, the dictionaries whose cells are held, and the bytes behind it
abbrev pub GivesNext : Option (List ℕ) → Held → Result (Option StreamState) IpcError → Reading Next → Type 0
GivesNext rest' h (Ok o) reading = (d : Dictionaries) × (rest : List ℕ)
    × (reading ≡ Ok (record { found = found_of o; dictionaries = d; rest = rest })) × (rest' ≡ Some rest) × HoldsCells d h
GivesNext rest' h (Err e) reading = Refuses e (refusals reading)

-- a batch has these fields, and columns of their kinds
abbrev pub HasSchema : StreamState → List Keyed → Type 0
HasSchema states.Waiting s = ⊤
HasSchema (states.Some x) s = HasFields x s

abbrev pub HasSchemaIfAny : Option StreamState → List Keyed → Type 0
HasSchemaIfAny None s = ⊤
HasSchemaIfAny (Some state) s = HasSchema state s

-- an answer of an iterator, as one of a call that may be refused
abbrev pub answer_of : Option (Result StreamState IpcError) → Result (Option StreamState) IpcError
answer_of None = Ok None
answer_of (Some (Ok state)) = Ok (Some state)
answer_of (Some (Err e)) = Err e

-- whether there is nothing behind an answer: at the end, and behind an error
abbrev pub is_last : Option (Result StreamState IpcError) → Bool
is_last None = true
is_last (Some (Ok state)) = false
is_last (Some (Err e)) = true

-- ── calls of a reader whose cursor is c, and c' behind them, over a feed f, which is f' ──

module _ {F : Type 0} (rest_of : F → Option (List ℕ)) (faults_of : F → ℕ) (references_of : F → List ℕ) (f f' : F) (c c' : StreamCursor) where
  -- what no message changes: the columns, and that more may come
  pub record KeepsColumns : Type 0 where
    pub columns : c'.columns ≡ c.columns
    pub is_finished : c'.is_finished ≡ c.is_finished
    pub feed : FeedKept faults_of references_of f f'

  -- a dictionary message is taken, by its metadata and the length of its body
  pub record TakesDictionary (metadata : List ℕ) (count : ℕ) (result : Result (Unit {0}) IpcError) : Type 0 where
    pub gives : (s : Reader) (d : Dictionaries) (m : Message) → IsReader c.columns s → HoldsCells d (held_in c.dictionaries)
        → message_of metadata is_taken ≡ Ok m → nat_eq m.tag 2 ≡ true → m.body ≡ count
        → IfSome (rest_of f) (λ b. GivesValues d (drop count b) (rest_of f') (held_in c'.dictionaries) result
        (stream_dictionary s d (record { metadata = metadata; behind = b }) m))
    -- its array is held as its tables and its body say it under what was held before
    pub held : (s : Reader) (d : Dictionaries) (m : Message) → IsReader c.columns s → HoldsCells d (held_in c.dictionaries)
        → message_of metadata is_taken ≡ Ok m → nat_eq m.tag 2 ≡ true → m.body ≡ count
        → IfOk result (λ _. IfSome (rest_of f) (λ b. MessageLeaves s (held_in c.dictionaries) (record { metadata = metadata; behind = b })
        (held_in c'.dictionaries) None (drop count b)))
    pub cause : IfErr result (λ e. FileCause e (faults_of f) (faults_of f'))
    pub faults_stay : LeavesFaults (faults_of f) (faults_of f') result
    pub kept : KeepsColumns

  -- a record batch message is taken, by its metadata and the length of its body
  pub record TakesBatch (metadata : List ℕ) (count : ℕ) (result : Result Batch IpcError) : Type 0 where
    pub gives : (s : Reader) (d : Dictionaries) (m : Message) → IsReader c.columns s → HoldsCells d (held_in c.dictionaries)
        → chosen_floats s.columns s.schema.fields 0 ≡ [] → message_of metadata is_taken ≡ Ok m → nat_eq m.tag 2 ≡ false → m.body ≡ count
        → IfSome (rest_of f) (λ b. GivesBatch (drop count b) (rest_of f') result (stream_batch s d (record { metadata = metadata; behind = b }) m))
    -- its arrays are those that its tables and its body say under what is held
    pub arrays : (s : Reader) (d : Dictionaries) (m : Message) → IsReader c.columns s → HoldsCells d (held_in c.dictionaries)
        → chosen_floats s.columns s.schema.fields 0 ≡ [] → message_of metadata is_taken ≡ Ok m → nat_eq m.tag 2 ≡ false → m.body ≡ count
        → IfOk result (λ x. IfSome (rest_of f) (λ b. MessageLeaves s (held_in c.dictionaries) (record { metadata = metadata; behind = b })
        (held_in c'.dictionaries) (Some x.arrays) (drop count b)))
    pub dictionaries : c'.dictionaries ≡ c.dictionaries
    pub schema : (s : Reader) → IsReader c.columns s → IfOk result (λ x. HasFields x (fields_shown c.columns))
    pub cause : IfErr result (λ e. FileCause e (faults_of f) (faults_of f'))
    pub faults_stay : LeavesFaults (faults_of f) (faults_of f') result
    pub kept : KeepsColumns

  -- a message is taken, by its metadata, where so many more dictionaries may stand
  pub record TakesMessage (metadata : List ℕ) (left : ℕ) (result : Result (Option Batch) IpcError) : Type 0 where
    pub gives : (s : Reader) (d : Dictionaries) → IsReader c.columns s → HoldsCells d (held_in c.dictionaries)
        → IfSome (rest_of f) (λ b. GivesStep (rest_of f') (held_in c'.dictionaries) result (step_within left s d (record { metadata = metadata; behind = b })))
    -- what is held, and the batch's arrays, are as the message says
    pub arrays : (s : Reader) (d : Dictionaries) → IsReader c.columns s → HoldsCells d (held_in c.dictionaries)
        → IfOk result (λ o. IfSome (rest_of f) (λ b. LeavesArrays s (held_in c.dictionaries) (record { metadata = metadata; behind = b }) (rest_of f') (held_in c'.dictionaries) o))
    pub room : result ≡ Ok None → 0 < left
    pub schema : (s : Reader) → IsReader c.columns s → IfOk result (λ o. IfSome o (λ x. HasFields x (fields_shown c.columns)))
    pub cause : IfErr result (λ e. FileCause e (faults_of f) (faults_of f'))
    pub faults_stay : LeavesFaults (faults_of f) (faults_of f') result
    pub kept : KeepsColumns

  -- what stands next is read
  pub record ReadsNext (result : Result (Option StreamState) IpcError) : Type 0 where
    pub gives : (s : Reader) (d : Dictionaries) → IsReader c.columns s → HoldsCells d (held_in c.dictionaries)
        → IfSome (rest_of f) (λ b. GivesNext (rest_of f') (held_in c'.dictionaries) result (next_in most_dictionaries s d b))
    -- what is held, and the batch's arrays, are as the messages up to it say
    pub arrays : (s : Reader) (d : Dictionaries) → IsReader c.columns s → HoldsCells d (held_in c.dictionaries)
        → IfOk result (λ o. IfSome (rest_of f) (λ b. GivesArrays s (held_in c.dictionaries) b (rest_of f') (held_in c'.dictionaries) o))
    pub schema : (s : Reader) → IsReader c.columns s → IfOk result (λ o. HasSchemaIfAny o (fields_shown c.columns))
    pub cause : IfErr result (λ e. FileCause e (faults_of f) (faults_of f'))
    pub faults_stay : LeavesFaults (faults_of f) (faults_of f') result
    pub kept : KeepsColumns

  -- the next batch, or that the feed has none yet
  pub record NextState (result : Option (Result StreamState IpcError)) : Type 0 where
    -- behind the end mark and behind an error there is none, and nothing is pulled
    pub ended : c.is_finished ≡ true → (result ≡ None) × (f' ≡ f)
    -- before, it is what stands next by the bytes that are left and the dictionaries whose cells are held, or a refusal of its
    pub gives : c.is_finished ≡ false → (s : Reader) (d : Dictionaries) → IsReader c.columns s → HoldsCells d (held_in c.dictionaries)
        → IfSome (rest_of f) (λ b. GivesNext (rest_of f') (held_in c'.dictionaries) (answer_of result) (next_in most_dictionaries s d b))
    -- what is held, and the batch's arrays, are as the messages up to it say under what was held before
    pub arrays : c.is_finished ≡ false → (s : Reader) (d : Dictionaries) → IsReader c.columns s → HoldsCells d (held_in c.dictionaries)
        → IfOk (answer_of result) (λ o. IfSome (rest_of f) (λ b. GivesArrays s (held_in c.dictionaries) b (rest_of f') (held_in c'.dictionaries) o))
    pub schema : (s : Reader) → IsReader c.columns s → IfSome result (λ r. IfOk r (λ state. HasSchema state (fields_shown c.columns)))
    pub is_finished : c'.is_finished ≡ is_last result
    pub columns : c'.columns ≡ c.columns
    pub cause : IfSome result (λ r. IfErr r (λ e. FileCause e (faults_of f) (faults_of f')))
    pub faults_stay : LeavesFaults (faults_of f) (faults_of f') (answer_of result)
    pub kept : FeedKept faults_of references_of f f'
