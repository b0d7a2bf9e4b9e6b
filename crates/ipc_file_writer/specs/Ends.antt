-- What stands in a file before its first message and behind its last. (Arrow Columnar Format, "IPC File Format"; File.fbs, Footer.)
use Rattle.std.specs.Prelude.{ℕ, ◌+◌, List, ◌++◌, length, min, nat_le, None, Ok}
use Rattle.arrow_spec.specs.declared.error.IpcError.TheVariants.{TooLarge}
use Rattle.arrow_spec.specs.Flat.{little}
use Rattle.arrow_spec.specs.Footers.{footer_node}
use Rattle.arrow_spec.specs.Kinds.{Fields}
use Rattle.arrow_spec.specs.Layout.{Node, layout, size}
use Rattle.arrow_spec.specs.Readings.{◌>>=◌, Reading, unless}
use Rattle.ipc_fields.specs.IpcFields.{Ids, fields_with, metadata_of}
use Rattle.schema_writer.specs.Serialized.{serialized}
use Rattle.ipc_messages.specs.Below.{WriteOptions}
use Rattle.ipc_messages.specs.Schemas.{stream_text}
use Rattle.ipc_messages.specs.declared.pairs.StreamPairs.{StreamPairs}
use Rattle.laws_files.specs.Files.{file_end, file_front}
use Rattle.ipc_file_writer.specs.Blocks.{file_blocks}
use Rattle.ipc_file_writer.specs.declared.blocks.FileBlocks.{FileBlocks}
use Rattle.ipc_file_writer.specs.declared.pairs.FilePairs.{FilePairs}

-- no pairs stand in the message of a file's schema
abbrev pub no_pairs : StreamPairs
no_pairs = record { schema = None; message = None }

-- the front, and the message of the schema
unfoldable pub file_start : WriteOptions → Fields → Ids → Reading (List ℕ)
file_start options fs below = do
  message ← stream_text options fs below no_pairs
  Ok (file_front ++ message)

-- the footer of a file: its schema with its pairs, its own pairs, and its blocks
abbrev pub file_footer : Fields → Ids → FilePairs → FileBlocks → Node
file_footer fs below pairs blocks =
    footer_node (fields_with fs below) (metadata_of pairs.schema) (metadata_of pairs.footer) (file_blocks blocks.dictionaries) (file_blocks blocks.records)

-- the end of a file whose footer is within its limit, and whose last byte stands below 2^63
unfoldable pub file_ending : WriteOptions → Fields → Ids → FilePairs → FileBlocks → Reading (List ℕ)
file_ending options fs below pairs blocks = do
  schema ← serialized little fs below (metadata_of pairs.schema)
  small ← unless (nat_le (size (file_footer fs below pairs blocks)) (min options.metadata_limit 2147483647)) TooLarge
  placed ← unless (nat_le (blocks.end + length (file_end (layout (file_footer fs below pairs blocks)))) 9223372036854775807) TooLarge
  Ok (file_end (layout (file_footer fs below pairs blocks)))
