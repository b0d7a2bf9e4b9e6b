-- The message of a record batch. (Arrow Columnar Format, "RecordBatch message".)
use Rattle.std.specs.Prelude.{ℕ, List, [], map, min, length, Bool, nat_le, ◌&&◌}
use Rattle.std.specs.List.{flat_map}
use Rattle.arrow_spec.specs.Flat.{little}
use Rattle.arrow_spec.specs.Layout.{up_to, size}
use Rattle.arrow_spec.specs.Counts.{Written}
use Rattle.arrow_spec.specs.Framing.{body_bytes}
use Rattle.arrow_spec.specs.Sent.{SentMessage, message, batch_node}
use Rattle.arrow_arrays.specs.Batches.{Batch}
use Rattle.arrow_arrays.specs.Parts.{Parts}
use Rattle.ipc_write_arrays.specs.Below.{WrittenColumn, WrittenBatch, written_of}
use Rattle.ipc_write_arrays.specs.Pieces.{pieces_in, column_in}
use Rattle.ipc_write.specs.Compaction.{top}

-- a top column as it is written
abbrev pub top_column : Parts → WrittenColumn
top_column p = column_in little (top p)

-- what columns are written with
abbrev pub columns_written : List Parts → Written
columns_written ps = written_of (map top_column ps)

-- their buffers
abbrev pub columns_pieces : List Parts → List (List ℕ)
columns_pieces ps = flat_map (λ p. pieces_in little (top p)) ps

-- their body
abbrev pub batch_body : Batch → List ℕ
batch_body b = body_bytes 0 (columns_pieces b.arrays)

-- the message of a batch, with its pairs
unfoldable pub batch_message : Batch → SentMessage
batch_message b = message 3 (batch_node b.height (columns_written b.arrays)) (length (batch_body b)) b.custom

-- its padded metadata is within a limit, and its rows and its body are below 2^63
unfoldable pub is_within : ℕ → Batch → Bool
is_within limit b = nat_le (up_to 8 (size (batch_message b).node)) (min limit 2147483647) && nat_le (batch_message b).body 9223372036854775807
    && nat_le b.height 9223372036854775807

-- a batch of columns as they are written, with its pairs
abbrev pub written_batch_of : Batch → WrittenBatch
written_batch_of b = record { rows = b.height; columns = map top_column b.arrays; custom = b.custom }
