-- The messages of a file as a flight hands them over, and what they mean to a consumer. (Arrow Columnar Format, "IPC File Format", "IPC Streaming Format".)
use Rattle.std.specs.Prelude.{◌≡◌, ℕ, ◌+◌, List, [], ◌∷◌, ◌++◌, length, take, drop, true, false, Option, Some, None, Ok, nat_le, nat_eq, ◌||◌}
use Rattle.arrow_spec.specs.declared.error.OutOfSpecKind.TheVariants as kinds
use Rattle.arrow_spec.specs.Readings.{◌>>=◌, Reading, free_of, only_if}
use Rattle.arrow_spec.specs.Arrays.{Dictionaries, HeldDictionary}
use Rattle.arrow_spec.specs.Features.{chosen_floats}
use Rattle.arrow_spec.specs.Files.{ArrowTable, FileBlock, Meta, TableBatch, batch_of_tables, block_body, dictionary_of, lengths_sum, meta_of, to_read, «all»}
use Rattle.arrow_spec.specs.Meaning.{file_table}
use Rattle.arrow_spec.specs.Messages.{Message, batch_at, dictionary_at, message_of, message_pairs, prefix_of, version_of}
use Rattle.arrow_spec.specs.Schema.{Schema}

-- a message as it is handed over: its metadata, and its body
pub record Handed : Type 0 where
  pub metadata : List ℕ
  pub body : List ℕ

-- a block of a file as it stands: it lies in the file, and its message in its metadata; nothing else of it is looked at
unfoldable pub handed : List ℕ → FileBlock → Reading Handed
handed b block = do
  range ← only_if (nat_le (block.offset + block.metadata + block.body) (length b)) kinds.BlockRange
  prefix ← prefix_of (take block.metadata (drop block.offset b))
  Ok (record { metadata = take prefix.1 (drop (block.offset + prefix.0) b); body = block_body b block })

-- a record batch under the dictionaries before it; no sum bounds its buffers, which lie in the body where they are looked at
unfoldable pub flight_batch : Schema → Dictionaries → Handed → Message → Reading TableBatch
flight_batch s d x m = do
  tables ← batch_at x.metadata m.header
  version ← version_of x.metadata m
  custom ← message_pairs x.metadata
  batch_of_tables to_read (record { order = s.order; fields = s.fields; columns = None; dictionaries = d; most = lengths_sum tables.buffers }) version custom tables x.body None

-- the values of a dictionary, which may replace those before them under their id
unfoldable pub flight_dictionary : Schema → Dictionaries → Handed → Message → Reading HeldDictionary
flight_dictionary s d x m = do
  values ← dictionary_at x.metadata m.header
  version ← version_of x.metadata m
  dictionary_of s d (lengths_sum values.values.buffers) values version x.body true

-- what a message leaves: the dictionaries, and its batch if it is one
pub record Taken : Type 0 where
  pub dictionaries : Dictionaries
  pub batch : Option TableBatch

unfoldable pub flight_step : Schema → Dictionaries → Handed → Reading Taken
flight_step s d x = do
  floats ← free_of (chosen_floats None s.fields 0)
  m ← message_of x.metadata (λ tag. nat_eq tag 2 || nat_eq tag 3)
  elim (nat_eq m.tag 2) [
    | true ↦ flight_dictionary s d x m >>= λ values. Ok (record { dictionaries = values ∷ d; batch = None })
    | false ↦ flight_batch s d x m >>= λ batch. Ok (record { dictionaries = d; batch = Some batch })
  ]

abbrev pub with_batch : Option TableBatch → List TableBatch → List TableBatch
with_batch None xs = xs
with_batch (Some x) xs = x ∷ xs

-- the batches of messages, one after another
unfoldable pub flight_batches : Schema → Dictionaries → List Handed → Reading (List TableBatch)
flight_batches s d [] = Ok []
flight_batches s d (x ∷ xs) = flight_step s d x >>= λ t. flight_batches s t.dictionaries xs >>= λ others. Ok (with_batch t.batch others)

-- the messages of blocks
unfoldable pub all_handed : List ℕ → List FileBlock → Reading (List Handed)
all_handed b [] = Ok []
all_handed b (block ∷ blocks) = handed b block >>= λ x. all_handed b blocks >>= λ xs. Ok (x ∷ xs)

-- The messages of a file's dictionaries and of its batches, and that the dictionaries and then the batches mean these.
pub record IsFlightOf (b : List ℕ) (meta : Meta) (batches : List TableBatch) : Type 0 where
  pub dictionaries : List Handed
  pub blocks : List Handed
  pub dictionaries_are : all_handed b meta.dictionaries ≡ Ok dictionaries
  pub blocks_are : all_handed b meta.blocks ≡ Ok blocks
  pub means : flight_batches meta.schema [] (dictionaries ++ blocks) ≡ Ok batches

-- Of a file with a batch, that means a table, the messages mean the table's batches.
abbrev pub FlightMeansTheFile : Type 0
FlightMeansTheFile = (b : List ℕ) (meta : Meta) (block : FileBlock) (blocks : List FileBlock) (t : ArrowTable) → meta_of b ≡ Ok meta → meta.blocks ≡ block ∷ blocks
    → file_table b «all» ≡ Some t → IsFlightOf b meta t.batches
