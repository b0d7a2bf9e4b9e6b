-- What a writer has put since a stream was begun, and what it means. (Arrow Columnar Format, "IPC Streaming Format".)
use Rattle.std.specs.Prelude.{◌≡◌, ℕ, List, length, None, Some}
use Rattle.arrow_spec.specs.Files.{ArrowTable, TableBatch}
use Rattle.arrow_spec.specs.Kinds.{Fields, bare}
use Rattle.arrow_spec.specs.Streams.{closed, stream_table, unended}
use Rattle.arrow_types.specs.Schemas.{fields_in}
use Rattle.ipc_fields.specs.IpcFields.{ids_of, metadata_of}
use Rattle.ipc_messages.specs.Below.{held_by}
use Rattle.ipc_write_laws.specs.Messages.{WrittenMessage, stream_so_far}
use Rattle.ipc_messages.specs.Puts.{counted}
use Rattle.ipc_messages.specs.declared.pairs.StreamPairs.{StreamPairs}
use Rattle.laws_writers.specs.Written.{ArePut, said_fields}
use Rattle.ipc_stream_writer.specs.declared.stream.StreamCore.{StreamCore}

-- the fields of the stream's schema under the stream's ids, as its message says them
abbrev pub stream_fields : StreamCore → Fields
stream_fields c = said_fields (fields_in c.schema) (ids_of c.fields.items)

-- the table of some batches, with the pairs that the stream was begun with
abbrev pub table_with : StreamPairs → StreamCore → List TableBatch → ArrowTable
table_with pairs c bs = record { metadata = metadata_of pairs.schema; custom = metadata_of pairs.message; fields = bare (stream_fields c); batches = bs }

-- A stream that was begun with these pairs is so many bytes, which the writer counts. They mean the table of these batches: they are those of messages that may be written, by which a reader knows the dictionaries that the writer holds, so that others may be put behind them.
pub record IsWritten (pairs : StreamPairs) (c : StreamCore) (x : List ℕ) (bs : List TableBatch) : Type 0 where
  pub count : c.byte_count ≡ counted (length x)
  pub not_ended : unended x
  pub means : stream_table x None ≡ Some (table_with pairs c bs)
  pub messages : List WrittenMessage
  pub put : ArePut (stream_fields c) (metadata_of pairs.schema) (metadata_of pairs.message) (held_by c.tracker) bs messages
  pub bytes : x ≡ stream_so_far (stream_fields c) (metadata_of pairs.schema) (metadata_of pairs.message) messages

-- it is ended, and means the table of these batches
pub record IsEnded (pairs : StreamPairs) (c : StreamCore) (x : List ℕ) (bs : List TableBatch) : Type 0 where
  pub count : c.byte_count ≡ counted (length x)
  pub ended : closed x
  pub means : stream_table x None ≡ Some (table_with pairs c bs)
