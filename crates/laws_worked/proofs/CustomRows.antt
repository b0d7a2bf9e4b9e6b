-- A file of an Int32 column with pairs of its footer and of its record message: what it means, how it is sent, and what refuses such pairs.
use Rattle.std.proofs.Common.{◌≡◌, ℕ, ◌+◌, List, [], ◌∷◌, ◌++◌, length, Some, None, refl, true, pos}
use Rattle.std.specs.Prelude.{codes}
use Rattle.laws_worked.proofs.Int32Table.{computed, int32_table}
use Rattle.arrow_spec.specs.Meaning.{file_table}
use Rattle.laws_worked.proofs.StreamLengths.{stream_length}
use Rattle.arrow_spec.specs.declared.error.IpcError.{IpcError}
use Rattle.arrow_spec.specs.declared.error.IpcError.TheVariants.{OutOfSpec}
use Rattle.arrow_spec.specs.declared.error.FlatError.TheVariants.{Utf8}
use Rattle.arrow_spec.specs.declared.error.OutOfSpecKind.TheVariants.{InvalidFlatbufferFooter, InvalidFlatbufferMessage}
use Rattle.arrow_spec.specs.declared.types.IntegerType.TheVariants.{Int32}
use Rattle.arrow_spec.specs.Readings.{refusals}
use Rattle.arrow_spec.specs.Kinds.{Fields, none, field, integer, Metadata}
use Rattle.arrow_spec.specs.Cells as cells
use Rattle.arrow_spec.specs.Layout.{layout, table_head, u32, zeros}
use Rattle.arrow_spec.specs.Sent.{SentMessage, batch_node, message, stream_schema}
use Rattle.arrow_spec.specs.Framing.{body_bytes, message_bytes, padded_size}
use Rattle.arrow_spec.specs.Footers.{footer_node}
use Rattle.arrow_spec.specs.Files.{ArrowTable, FileBlock, «all», batch_sent, batches_sent, file_reading, sent, to_read}
use Rattle.arrow_spec.specs.Streams.{end_mark, stream_table}

abbrev column : Fields
column = field (codes "a") true [] (integer Int32) none

-- 1, null and 3
abbrev body : List ℕ
body = body_bytes 0 ((5 ∷ []) ∷ (1 ∷ 0 ∷ 0 ∷ 0 ∷ 0 ∷ 0 ∷ 0 ∷ 0 ∷ 3 ∷ 0 ∷ 0 ∷ 0 ∷ []) ∷ [])

abbrev rows : Metadata → SentMessage
rows pairs = message 3 (batch_node 3 (record { nodes = record { length = pos 3; null_count = pos 1 } ∷ []; lengths = 1 ∷ 12 ∷ []; views = [] })) (length body) pairs

abbrev block : Metadata → FileBlock
block pairs = record { offset = 16 + padded_size (stream_schema column [] []).node; metadata = 8 + padded_size (rows pairs).node; body = 128 }

abbrev footer : Metadata → Metadata → List ℕ
footer custom pairs = layout (footer_node column [] custom [] (block pairs ∷ []))

-- the worked file with pairs of its footer and of its record message
abbrev pub file_with : Metadata → Metadata → List ℕ
file_with custom pairs = codes "ARROW1" ++ zeros 2 ++ message_bytes (stream_schema column [] []).node [] ++ message_bytes (rows pairs).node body ++ end_mark ++ footer custom pairs ++ u32 (length (footer custom pairs)) ++ codes "ARROW1"

-- the worked stream with pairs of its schema message and of its record message
abbrev stream_with : Metadata → Metadata → List ℕ
stream_with custom pairs = message_bytes (stream_schema column [] custom).node [] ++ message_bytes (rows pairs).node body ++ end_mark

-- the worked table with such pairs
abbrev pub table_with : Metadata → Metadata → ArrowTable
table_with custom pairs = record { metadata = []; custom = custom; fields = column; batches = record { rows = 3; columns = (cells.number (pos 1) ∷ cells.null ∷ cells.number (pos 3) ∷ []) ∷ []; custom = pairs } ∷ [] }

abbrev pub one : Metadata
one = (codes "k", codes "v") ∷ []

abbrev pub two : Metadata
two = (codes "m", []) ∷ (codes "n", codes "1") ∷ []

-- a byte that is no text
abbrev pub broken : Metadata
broken = (codes "k", 255 ∷ []) ∷ []

pub nothing_more : table_with [] [] ≡ int32_table
nothing_more = refl

pub both-table : file_table (file_with one two) «all» ≡ Some (table_with one two)
unfolding computed message_bytes layout table_head
both-table = refl

pub footer-table : file_table (file_with one []) «all» ≡ Some (table_with one [])
unfolding computed message_bytes layout table_head
footer-table = refl

pub message-table : file_table (file_with [] two) «all» ≡ Some (table_with [] two)
unfolding computed message_bytes layout table_head
message-table = refl

pub neither-table : file_table (file_with [] []) «all» ≡ Some int32_table
unfolding computed message_bytes layout table_head
neither-table = refl

-- without columns and rows the pairs stay
pub pairs_kept : file_table (file_with one two) (record { columns = Some []; limit = Some 0 }) ≡ Some (record { metadata = []; custom = one; fields = none; batches = record { rows = 0; columns = []; custom = two } ∷ [] })
unfolding computed message_bytes layout table_head
pairs_kept = refl

pub both-stream : stream_table (stream_with one two) None ≡ Some (table_with one two)
unfolding computed message_bytes layout table_head
both-stream = refl

-- ── how long ──

pub schema_size : 8 + padded_size (stream_schema column [] one).node ≡ 192
unfolding computed layout table_head
schema_size = refl

pub stream_size : stream_length (file_with one []) «all» ≡ 480
unfolding computed sent batch_sent batches_sent message_bytes layout table_head
stream_size = refl

-- ── what refuses them ──

abbrev why : List ℕ → List IpcError
why b = refusals (file_reading to_read b «all» None)

pub broken_footer : why (file_with broken broken) ≡ OutOfSpec (InvalidFlatbufferFooter Utf8) ∷ []
unfolding computed message_bytes layout table_head
broken_footer = refl

pub broken_message : why (file_with [] broken) ≡ OutOfSpec (InvalidFlatbufferMessage Utf8) ∷ []
unfolding computed message_bytes layout table_head
broken_message = refl
