-- A file of an Int32 column with pairs of the column and of the schema: what it means, and the text of its schema.
use Rattle.std.proofs.Common.{◌≡◌, ℕ, ◌+◌, List, [], ◌∷◌, ◌++◌, length, Some, Ok, refl, false, pos}
use Rattle.std.specs.Prelude.{codes}
use Rattle.laws_worked.proofs.Int32Table.{computed}
use Rattle.arrow_spec.specs.Meaning.{file_table}
use Rattle.arrow_spec.specs.declared.types.IntegerType.TheVariants.{Int32}
use Rattle.arrow_spec.specs.Kinds.{Fields, none, field, integer, Metadata}
use Rattle.arrow_spec.specs.Cells as cells
use Rattle.arrow_spec.specs.Layout.{layout, table_head, u32, zeros}
use Rattle.arrow_spec.specs.Sent.{SentMessage, batch_node, message, stream_schema}
use Rattle.arrow_spec.specs.Framing.{body_bytes, message_bytes, padded_size}
use Rattle.arrow_spec.specs.Footers.{footer_node}
use Rattle.arrow_spec.specs.Files.{ArrowTable, FileBlock, «all»}
use Rattle.arrow_spec.specs.Streams.{end_mark}
use Rattle.arrow_spec.specs.SchemaText.{schema_text, schema_text_of}

abbrev column : Fields
column = field (codes "a") false ((codes "k", codes "v") ∷ []) (integer Int32) none

abbrev pairs : Metadata
pairs = (codes "A", []) ∷ (codes "B", codes "1") ∷ []

-- no validity, and the values 5 and 6
abbrev body : List ℕ
body = body_bytes 0 ([] ∷ (5 ∷ 0 ∷ 0 ∷ 0 ∷ 6 ∷ 0 ∷ 0 ∷ 0 ∷ []) ∷ [])

abbrev rows : SentMessage
rows = message 3 (batch_node 2 (record { nodes = record { length = pos 2; null_count = pos 0 } ∷ []; lengths = 0 ∷ 8 ∷ []; views = [] })) (length body) []

-- where the batch stands
abbrev block : FileBlock
block = record { offset = 16 + padded_size (stream_schema column pairs []).node; metadata = 8 + padded_size rows.node; body = rows.body }

abbrev footer : List ℕ
footer = layout (footer_node column pairs [] [] (block ∷ []))

abbrev pub pairs_file : List ℕ
pairs_file = codes "ARROW1" ++ zeros 2 ++ message_bytes (stream_schema column pairs []).node [] ++ message_bytes rows.node body ++ end_mark ++ footer ++ u32 (length footer) ++ codes "ARROW1"

abbrev pub pairs_table : ArrowTable
pairs_table = record { metadata = pairs; custom = []; fields = column; batches = record { rows = 2; columns = (cells.number (pos 5) ∷ cells.number (pos 6) ∷ []) ∷ []; custom = [] } ∷ [] }

pub pairs_file-table : file_table pairs_file «all» ≡ Some pairs_table
unfolding computed message_bytes layout table_head
pairs_file-table = refl

pub pairs_file-text : schema_text_of pairs_file ≡ Ok (codes "little\n@ \"A\" \"\"\n@ \"B\" \"1\"\n\"a\" int32\n  @ \"k\" \"v\"\n")
unfolding computed message_bytes layout table_head schema_text schema_text_of
pairs_file-text = refl
