-- The arrays of a stream's record batches, and of the dictionaries that are held, as its messages say them. (Arrow Columnar Format, "IPC Streaming Format", "Dictionary Messages".)
use Rattle.std.specs.Prelude.{◌≡◌, ℕ, List, [], ◌∷◌, drop, map, nat_eq, Bool, true, false, Option, Some, None, Ok, if◌then◌else◌}
use Rattle.arrow_spec.specs.Counts.{first_place, magnitude}
use Rattle.arrow_spec.specs.Files.{record_batch_of}
use Rattle.arrow_spec.specs.Kinds.{Kind, field, none, same}
use Rattle.arrow_spec.specs.Messages.{RecordMessage, message_of, record_message}
use Rattle.arrow_spec.specs.Readings.{◌>>=◌, Reading}
use Rattle.arrow_spec.specs.Schema.{Schema}
use Rattle.arrow_spec.specs.Streams.{Framed, Reader, body_in, next_message}
use Rattle.arrow_arrays.specs.Batches.{Batch}
use Rattle.arrow_arrays.specs.Parts.{Forest, Parts}
use Rattle.ipc_files.specs.Below.{AreAsked, columns_read, dictionary_message, DictionaryTables, Held, parts_before, values_of_id}
use Rattle.ipc_streams.specs.Heads.{is_taken}
use Rattle.ipc_streams.specs.declared.state.StreamState.{StreamState}
use Rattle.ipc_streams.specs.declared.state.StreamState.TheVariants as states

-- ── what a message says ──

-- the arrays of all columns of a record batch, by its tables and its body, under what is held
abbrev pub arrays_read : Schema → Held → RecordMessage → List ℕ → List Parts
arrays_read s h m body = columns_read (record_batch_of s.order m.version m.tables body) h s.fields first_place (magnitude m.tables.length)

-- the array of a dictionary's values of a kind, which are the only column of their batch; none where no column of the schema has the id
abbrev pub values_of : Schema → Held → DictionaryTables → List ℕ → Option Kind → List Parts
values_of s h x body None = []
values_of s h x body (Some k) = columns_read (record_batch_of s.order x.version x.dictionary.values body) h (field [] true [] k none) first_place
    (magnitude x.dictionary.values.length)

-- parts with such an array: a delta's stands behind those before it, and another dictionary's in their place
abbrev pub parts_with : Bool → Option Forest → List Parts → Option Forest
parts_with is_delta old [] = old
parts_with is_delta old (p ∷ ps) = Some (parts_before is_delta old p)

-- what is held behind a dictionary's message: its array under its id, and under each other id what was held before
abbrev pub held_behind : Schema → Held → DictionaryTables → List ℕ → Held
held_behind s h x body id =
    if same x.dictionary.id id then parts_with x.dictionary.is_delta (h x.dictionary.id) (values_of s h x body (values_of_id s.fields x.dictionary.id)) else h id

-- what is held behind a message, the arrays of all columns if it is a record batch, and the bytes behind its body
pub record Left : Type 0 where
  pub held : Held
  pub arrays : Option (List Parts)
  pub rest : List ℕ

unfoldable pub message_leaves : Schema → Held → Framed → Reading Left
message_leaves s h f = do
  m ← message_of f.metadata is_taken
  body ← body_in f m
  elim (nat_eq m.tag 2) [
    | true ↦ dictionary_message f.metadata >>= λ x. Ok (record { held = held_behind s h x body; arrays = None; rest = drop m.body f.behind })
    | false ↦ record_message f.metadata >>= λ r. Ok (record { held = h; arrays = Some (arrays_read s h r body); rest = drop m.body f.behind })
  ]

-- the same in the columns that are asked for, in their order
abbrev pub MessageLeaves : Reader → Held → Framed → Held → Option (List Parts) → List ℕ → Type 0
MessageLeaves s h f h' None rest = message_leaves s.schema h f ≡ Ok (record { held = h'; arrays = None; rest = rest })
MessageLeaves s h f h' (Some xs) rest = (all : List Parts)
    × (message_leaves s.schema h f ≡ Ok (record { held = h'; arrays = Some all; rest = rest })) × AreAsked all s.columns xs

-- ── one message after another ──

-- the arrays of a record batch, and the bytes behind it
pub record BatchArrays : Type 0 where
  pub arrays : List Parts
  pub rest : List ℕ

-- What stands next in a stream, behind its dictionaries, under what is held before them: the arrays of a record batch, or no message; and what is held there.
pub data NextArrays (s : Reader) : Held → List ℕ → Held → Option BatchArrays → Type 0 where
  no_message : {h : Held} {b : List ℕ} → next_message b ≡ Ok None → NextArrays s h b h None
  a_batch : {h h' : Held} {b : List ℕ} {f : Framed} {x : BatchArrays} → next_message b ≡ Ok (Some f) → MessageLeaves s h f h' (Some x.arrays) x.rest
      → NextArrays s h b h' (Some x)
  a_dictionary : {h h' h'' : Held} {b rest : List ℕ} {f : Framed} {o : Option BatchArrays} → next_message b ≡ Ok (Some f)
      → MessageLeaves s h f h' None rest → NextArrays s h' rest h'' o → NextArrays s h b h'' o

-- The arrays of a stream's record batches, one after another, up to where no message begins.
pub data StreamArrays (s : Reader) : Held → List ℕ → List (List Parts) → Type 0 where
  none_left : {h h' : Held} {b : List ℕ} → NextArrays s h b h' None → StreamArrays s h b []
  one_more : {h h' : Held} {b rest : List ℕ} {x : List Parts} {xs : List (List Parts)} → NextArrays s h b h' (Some (record { arrays = x; rest = rest }))
      → StreamArrays s h' rest xs → StreamArrays s h b (x ∷ xs)

-- the arrays of record batches
abbrev pub arrays_of : List Batch → List (List Parts)
arrays_of bs = map (λ x. x.arrays) bs

-- ── what a call gives ──

-- the arrays of a batch, or none for a dictionary
abbrev pub arrays_in : Option Batch → Option (List Parts)
arrays_in None = None
arrays_in (Some x) = Some x.arrays

-- a call leaves what a message says, and the bytes behind its body
abbrev pub LeavesArrays : Reader → Held → Framed → Option (List ℕ) → Held → Option Batch → Type 0
LeavesArrays s h f rest' h' o = (rest : List ℕ) × (rest' ≡ Some rest) × MessageLeaves s h f h' (arrays_in o) rest

-- a call gives the arrays of the batch that stands next, and leaves the bytes behind it, or there is no message; what is held is what stands behind those before
abbrev pub GivesArrays : Reader → Held → List ℕ → Option (List ℕ) → Held → Option StreamState → Type 0
GivesArrays s h b rest' h' None = NextArrays s h b h' None
GivesArrays s h b rest' h' (Some states.Waiting) = NextArrays s h b h' None
GivesArrays s h b rest' h' (Some (states.Some x)) = (rest : List ℕ) × (rest' ≡ Some rest)
    × NextArrays s h b h' (Some (record { arrays = x.arrays; rest = rest }))
