-- What holds of what a writer of a file puts for a batch. Each statement is the contract of a public function without a body (src/lib.rt).
use Rattle.std.specs.Prelude.{◌≡◌, ◌++◌, ◌∷◌, List, [], None, Ok, true}
use Rattle.std.specs.List.{flat_map}
use Rattle.arrow_spec.specs.Features.{chosen_floats}
use Rattle.arrow_spec.specs.Files.{TableBatch}
use Rattle.arrow_spec.specs.Kinds.{Fields, have_same_kinds}
use Rattle.arrow_spec.specs.WrittenSchemas.{IdsMayBeWritten}
use Rattle.ipc_messages.specs.Below.{Batch, forest, Ids, columns_of, Options, Sending, ToSend, arrays_sent}
use Rattle.laws_files.specs.Below.{bytes_of}
use Rattle.laws_columns.specs.Below.{WriteOptions}
use Rattle.ipc_messages.specs.Chunks.{MayBeSent}
use Rattle.ipc_messages.specs.Messages.{chunk_text}
use Rattle.laws_writers.specs.Heard.{cells_held}
use Rattle.laws_writers.specs.Chunks.{chunk_of}
use Rattle.laws_writers.specs.Written.{cells_of, said_fields}
use Rattle.laws_files.specs.Files.{Begun, FrontMeans, with_more}

-- Where no dictionary may be replaced, and a file's front means some batches by the dictionaries that are held, it means a batch more behind the messages of the batch and of what of its dictionaries is sent before it, by the dictionaries that are held then. Their bytes are those that are put.
abbrev pub ChunkGoesIntoFile : Type 0
ChunkGoesIntoFile = (options : WriteOptions) (o : Options) (fs : Fields) (below : Ids) (b : Batch) (s t : Sending) (sent : List ToSend)
    (x : Begun) (bs : List TableBatch)
    → o.cannot_replace ≡ true → arrays_sent o (forest b.arrays) below s ≡ Ok t → t.sent ≡ s.sent ++ sent → MayBeSent options sent b
    → have_same_kinds fs (columns_of (forest b.arrays)) ≡ true → IdsMayBeWritten (said_fields fs below) → chosen_floats None (said_fields fs below) 0 ≡ []
    → FrontMeans (said_fields fs below) x (λ q. cells_held (s.held q)) bs
    → FrontMeans (said_fields fs below) (with_more x (chunk_of (said_fields fs below) sent b)) (λ q. cells_held (t.held q)) (bs ++ cells_of b ∷ [])
    × (flat_map bytes_of (chunk_of (said_fields fs below) sent b) ≡ chunk_text sent b)
