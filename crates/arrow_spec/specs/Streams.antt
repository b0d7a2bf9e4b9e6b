-- What a stream means. (Arrow Columnar Format, "IPC Streaming Format", "Dictionary Messages".)
use Rattle.std.specs.Prelude.{◌≡◌, ℕ, zero, suc, ◌+◌, ◌-◌, List, [], ◌∷◌, ◌++◌, length, take, drop, true, false, Option, Some, None, Ok, nat_le, nat_lt, nat_eq, ◌||◌, if◌then◌else◌, pos}
use Rattle.std.specs.Int.{w32, w64}
use Rattle.arrow_spec.specs.declared.error.OutOfSpecKind.TheVariants as kinds
use Rattle.arrow_spec.specs.Readings.{◌>>=◌, Reading, damaged, only_if, meaning, free_of, natural, as_kind}
use Rattle.arrow_spec.specs.Flat.{root, signed_at, slot_signed}
use Rattle.arrow_spec.specs.Kinds.{Metadata, bare, width}
use Rattle.arrow_spec.specs.Schema.{Schema, schema_of}
use Rattle.arrow_spec.specs.Messages.{Message, is_mark, message_of, version_of, message_pairs, batch_at, dictionary_at}
use Rattle.arrow_spec.specs.Files.{ArrowTable, TableBatch, batch_of_tables, to_read, dictionary_of, columns_right, fields_as_asked}
use Rattle.arrow_spec.specs.Arrays.{Dictionaries, HeldDictionary}
use Rattle.arrow_spec.specs.Features.{chosen_floats}

-- a message of a stream: its metadata, and the bytes behind it
pub record Framed : Type 0 where
  pub metadata : List ℕ
  pub behind : List ℕ

-- where the metadata begins, and how long it is
unfoldable pub stream_prefix : List ℕ → Reading (ℕ × ℕ)
stream_prefix b = do
  let start = if is_mark (take 4 b) then 8 else 4
  n ← as_kind (λ f. kinds.Truncated) (signed_at w32 b (start - 4))
  length ← natural n
  Ok (start, length)

-- a message whose metadata lies in the bytes
unfoldable pub framed : List ℕ → ℕ × ℕ → Reading Framed
framed b prefix = do
  whole ← only_if (nat_le (prefix.0 + prefix.1) (length b)) kinds.Truncated
  Ok (record { metadata = take prefix.1 (drop prefix.0 b); behind = drop (prefix.0 + prefix.1) b })

-- a message's body lies in the bytes behind its metadata
unfoldable pub body_in : Framed → Message → Reading (List ℕ)
body_in f m = only_if (nat_le m.body (length f.behind)) kinds.Truncated >>= λ whole. Ok (take m.body f.behind)

-- the next message; none at an end mark or where fewer than four bytes are left
unfoldable pub next_message : List ℕ → Reading (Option Framed)
next_message b = elim (nat_lt (length b) 4) [
  | true ↦ Ok None
  | false ↦ stream_prefix b
      >>= λ prefix. elim (nat_eq prefix.1 0) [ true ↦ Ok None | false ↦ framed b prefix >>= λ m. Ok (Some m) ]
]

-- what a stream is read with: its schema, and the columns asked for
pub record Reader : Type 0 where
  pub schema : Schema
  pub columns : Option (List ℕ)

-- a record batch message
unfoldable pub stream_batch : Reader → Dictionaries → Framed → Message → Reading TableBatch
stream_batch s d f m = do
  tables ← batch_at f.metadata m.header
  version ← version_of f.metadata m
  custom ← message_pairs f.metadata
  body ← body_in f m
  batch_of_tables to_read (record {
    order = s.schema.order;
    fields = s.schema.fields;
    columns = s.columns;
    dictionaries = d;
    most = length body;
  }) version custom tables body None

-- a dictionary message
unfoldable pub stream_dictionary : Reader → Dictionaries → Framed → Message → Reading HeldDictionary
stream_dictionary s d f m = do
  x ← dictionary_at f.metadata m.header
  version ← version_of f.metadata m
  body ← body_in f m
  dictionary_of s.schema d (length body) x version body true

-- what a message leaves: the dictionaries, its batch if it is one, and the bytes behind its body
pub record Step : Type 0 where
  pub dictionaries : Dictionaries
  pub batch : List TableBatch
  pub rest : List ℕ

-- A message is a dictionary, which replaces the one before it under its id, or a batch. The features of chosen kinds stand at the first one.
unfoldable pub stream_step : Reader → Dictionaries → Framed → Reading Step
stream_step s d f = do
  floats ← free_of (chosen_floats s.columns s.schema.fields 0)
  m ← message_of f.metadata (λ tag. nat_eq tag 2 || nat_eq tag 3)
  elim (nat_eq m.tag 2) [
    | true ↦ stream_dictionary s d f m >>= λ x. Ok (record { dictionaries = x ∷ d; batch = []; rest = drop m.body f.behind })
    | false ↦ stream_batch s d f m >>= λ rows. Ok (record { dictionaries = d; batch = rows ∷ []; rest = drop m.body f.behind })
  ]

-- A message takes four bytes at least, so no stream has more messages than bytes.
unfoldable pub stream_batches : ℕ → Reader → Dictionaries → List ℕ → Reading (List TableBatch)
stream_batches zero s d b = Ok []
stream_batches (suc most) s d b = do
  next ← next_message b
  elim next [
    | None ↦ Ok []
    | Some f ↦ stream_step s d f >>= λ step. stream_batches most s step.dictionaries step.rest >>= λ others. Ok (step.batch ++ others)
  ]

-- a stream begins with a message
unfoldable pub first_message : Option Framed → Reading Framed
first_message None = damaged kinds.MissingSchema
first_message (Some m) = Ok m

-- a schema message by itself, and the schema that it has
unfoldable pub schema_message_of : List ℕ → Reading (Message × Schema)
schema_message_of metadata = do
  m ← message_of metadata (λ tag. nat_eq tag 1)
  version ← version_of metadata m
  schema ← schema_of metadata m.header
  Ok (m, schema)

-- the first message of a stream: the message, its pairs, and the schema that it has
unfoldable pub stream_head : List ℕ → Reading (Message × Metadata × Schema)
stream_head metadata = do
  m ← message_of metadata (λ tag. nat_eq tag 1)
  version ← version_of metadata m
  custom ← message_pairs metadata
  schema ← schema_of metadata m.header
  Ok (m, custom, schema)

-- a schema message, then dictionaries and batches
unfoldable pub stream_reading : List ℕ → Option (List ℕ) → Reading ArrowTable
stream_reading b columns = do
  f ← next_message b >>= first_message
  first ← stream_head f.metadata
  body ← body_in f first.0
  right ← columns_right columns (width first.2.fields)
  batches ← stream_batches (length b) (record { schema = first.2; columns = columns }) [] (drop first.0.body f.behind)
  Ok (record { metadata = first.2.metadata; custom = first.1; fields = bare (fields_as_asked columns first.2.fields); batches = batches })

-- what a stream means in some of its columns
unfoldable pub stream_table : List ℕ → Option (List ℕ) → Option ArrowTable
stream_table b columns = meaning (stream_reading b columns)

-- ── whole messages ──

-- how long a message's body is, by its metadata (Message.fbs, Message: bodyLength)
unfoldable pub body_length : List ℕ → Reading ℕ
body_length metadata = do
  t ← as_kind kinds.InvalidFlatbufferMessage (root metadata)
  as_kind kinds.InvalidFlatbufferBodyLength (slot_signed w64 (pos 0) metadata t 3) >>= natural

-- The bytes behind whole messages, at which no further one begins. A message is passed over by its prefix, its metadata and the length of its body: whether it can be read is not asked.
unfoldable pub behind_messages : ℕ → List ℕ → Reading (List ℕ)
behind_messages zero b = Ok b
behind_messages (suc most) b = do
  next ← next_message b
  elim next [
    | None ↦ Ok b
    | Some f ↦ body_length f.metadata >>= λ n. only_if (nat_le n (length f.behind)) kinds.Truncated >>= λ whole. behind_messages most (drop n f.behind)
  ]

-- FF FF FF FF 00 00 00 00
abbrev pub end_mark : List ℕ
end_mark = 255 ∷ 255 ∷ 255 ∷ 255 ∷ 0 ∷ 0 ∷ 0 ∷ 0 ∷ []

-- whole messages and the end mark, and nothing behind it
abbrev pub closed : List ℕ → Type 0
closed b = behind_messages (length b) b ≡ Ok end_mark

-- whole messages, and nothing behind them
abbrev pub unended : List ℕ → Type 0
unended b = behind_messages (length b) b ≡ Ok []
