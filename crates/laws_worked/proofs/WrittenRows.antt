-- The worked stream of one Int32 column is what is written of the column, and the worked table is its table.
use Rattle.std.proofs.Common.{◌≡◌, [], ◌∷◌, refl, true, pos}
use Rattle.arrow_spec.specs.declared.types.IntegerType.TheVariants.{Int32}
use Rattle.arrow_spec.specs.Cells as cells
use Rattle.arrow_spec.specs.Kinds.{Fields, none, field, integer}
use Rattle.arrow_spec.specs.Layout.{layout, size, table_head}
use Rattle.arrow_spec.specs.Sent.{schema_message}
use Rattle.arrow_spec.specs.Framing.{message_bytes}
use Rattle.laws_worked.proofs.Vectors.{int32_stream}
use Rattle.laws_worked.proofs.Int32Table.{int32_table}
use Rattle.ipc_write_laws.specs.Columns.{WrittenColumn}
use Rattle.ipc_write_laws.specs.Streams.{WrittenBatch, written_stream, written_table}

abbrev fields : Fields
fields = field (97 ∷ []) true [] (integer Int32) none

-- 1, null and 3
abbrev column : WrittenColumn
column = record {
  kind = integer Int32;
  nodes = record { length = pos 3; null_count = pos 1 } ∷ [];
  pieces = (5 ∷ []) ∷ (1 ∷ 0 ∷ 0 ∷ 0 ∷ 0 ∷ 0 ∷ 0 ∷ 0 ∷ 3 ∷ 0 ∷ 0 ∷ 0 ∷ []) ∷ [];
  views = [];
  cells = cells.number (pos 1) ∷ cells.null ∷ cells.number (pos 3) ∷ [];
}

abbrev rows : WrittenBatch
rows = record { rows = 3; columns = column ∷ []; custom = [] }

pub int32_stream-written : written_stream fields [] [] (rows ∷ []) ≡ int32_stream
unfolding schema_message message_bytes layout table_head size
int32_stream-written = refl

pub int32_table-written : written_table fields [] [] (rows ∷ []) ≡ int32_table
int32_table-written = refl
