-- What holds of what a writer puts for a batch. Each statement is the contract of a public function without a body (src/lib.rt).
use Rattle.std.specs.Prelude.{◌≡◌, ◌++◌, ◌∷◌, ℕ, ℤ, List, [], None, Ok, true}
use Rattle.std.specs.List.{flat_map}
use Rattle.arrow_spec.specs.Features.{chosen_floats}
use Rattle.arrow_spec.specs.Files.{TableBatch}
use Rattle.arrow_spec.specs.Kinds.{Fields, Metadata, have_same_kinds}
use Rattle.arrow_spec.specs.WrittenSchemas.{CustomMayBeWritten, IdsMayBeWritten}
use Rattle.ipc_messages.specs.Below.{Batch, forest, Ids, fields_with, metadata_of, columns_of, Options, Sending, ToSend, arrays_sent, Held}
use Rattle.laws_files.specs.Below.{Known, WrittenMessage, bytes_of, stream_so_far}
use Rattle.laws_columns.specs.Below.{WriteOptions}
use Rattle.ipc_messages.specs.Chunks.{MayBeSent}
use Rattle.ipc_messages.specs.Messages.{chunk_text}
use Rattle.ipc_messages.specs.Schemas.{SchemaIsSaid, stream_text}
use Rattle.ipc_messages.specs.declared.pairs.StreamPairs.{StreamPairs}
use Rattle.laws_writers.specs.Heard.{cells_held}
use Rattle.laws_writers.specs.Chunks.{MayFollow, chunk_of}
use Rattle.laws_writers.specs.Written.{ArePut, cells_of, said_fields}

-- What is sent before a batch, and the batch, may be written where so much is known as is held before, in a stream of fields whose ids may be written and that no floats stand in; what is known behind them is what is held then.
abbrev pub ChunkMayBeWritten : Type 0
ChunkMayBeWritten = (options : WriteOptions) (o : Options) (fs : Fields) (below : Ids) (b : Batch) (s t : Sending) (sent : List ToSend) (c : Known)
    → arrays_sent o (forest b.arrays) below s ≡ Ok t → t.sent ≡ s.sent ++ sent → ((q : ℤ) → c q ≡ cells_held (s.held q))
    → MayBeSent options sent b → have_same_kinds fs (columns_of (forest b.arrays)) ≡ true
    → IdsMayBeWritten (fields_with fs below) → chosen_floats None (fields_with fs below) 0 ≡ []
    → MayFollow (fields_with fs below) c (λ q. cells_held (t.held q)) (chunk_of (fields_with fs below) sent b) (chunk_text sent b)

-- The message of a schema that can be said may be written, and no batch stands behind it. Nothing is known where nothing is held.
abbrev pub SchemaIsPut : Type 0
SchemaIsPut = (options : WriteOptions) (fs : Fields) (below : Ids) (pairs : StreamPairs) (held : Held) (bytes : List ℕ)
    → stream_text options fs below pairs ≡ Ok bytes → SchemaIsSaid (fields_with fs below) (metadata_of pairs.schema)
    → CustomMayBeWritten (metadata_of pairs.message)
    → ((id : ℤ) → held id ≡ None)
    → ArePut (said_fields fs below) (metadata_of pairs.schema) (metadata_of pairs.message) held [] []
    × (bytes ≡ stream_so_far (said_fields fs below) (metadata_of pairs.schema) (metadata_of pairs.message) [])

-- Behind messages that are put, and by which what is held is known, a batch may be put with what of its dictionaries is sent before it.
abbrev pub ChunkIsPut : Type 0
ChunkIsPut = (options : WriteOptions) (o : Options) (fs : Fields) (below : Ids) (b : Batch) (s t : Sending) (sent : List ToSend)
    (pairs custom : Metadata) (bs : List TableBatch) (ms : List WrittenMessage)
    → arrays_sent o (forest b.arrays) below s ≡ Ok t → t.sent ≡ s.sent ++ sent → MayBeSent options sent b
    → have_same_kinds fs (columns_of (forest b.arrays)) ≡ true
    → ArePut (said_fields fs below) pairs custom s.held bs ms
    → ArePut (said_fields fs below) pairs custom t.held (bs ++ cells_of b ∷ []) (ms ++ chunk_of (said_fields fs below) sent b)
    × (flat_map bytes_of (chunk_of (said_fields fs below) sent b) ≡ chunk_text sent b)
