-- What a writer has put since its file was begun, and what it means. (Arrow Columnar Format, "IPC File Format".)
use Rattle.std.specs.Prelude.{◌≡◌, ◌++◌, ℕ, ℤ, List, [], length, None, Some, true}
use Rattle.std.specs.List.{AllByRecursion}
use Rattle.std.specs.Rc.{rc_value}
use Rattle.arrow_spec.specs.Features.{chosen_floats}
use Rattle.arrow_spec.specs.Files.{ArrowTable, TableBatch, «all»}
use Rattle.arrow_spec.specs.Kinds.{Fields}
use Rattle.arrow_spec.specs.Meaning.{file_table}
use Rattle.arrow_spec.specs.Regular.{regular}
use Rattle.arrow_spec.specs.WrittenSchemas.{IdsMayBeWritten, SchemaMayBeWritten}
use Rattle.arrow_types.specs.Schemas.{fields_in}
use Rattle.laws_files.specs.FileLaws.{BlockFits}
use Rattle.ipc_fields.specs.IpcFields.{fields_with, ids_of, metadata_of}
use Rattle.ipc_messages.specs.Below.{held_by}
use Rattle.ipc_messages.specs.Schemas.{SchemaIsSaid}
use Rattle.laws_files.specs.Below.{Known}
use Rattle.laws_writers.specs.Heard.{cells_held}
use Rattle.laws_writers.specs.Written.{said_fields}
use Rattle.laws_files.specs.Files.{Begun, FrontMeans, table_of}
use Rattle.ipc_file_writer.specs.Blocks.{file_blocks}
use Rattle.ipc_file_writer.specs.declared.file.FileCore.{FileCore}

-- the fields of the file's schema under the file's ids
abbrev pub own_fields : FileCore → Fields
own_fields c = fields_with (fields_in (rc_value c.schema)) (ids_of c.ipc_schema.fields.items)

-- and as its footer says them
abbrev pub file_fields : FileCore → Fields
file_fields c = said_fields (fields_in (rc_value c.schema)) (ids_of c.ipc_schema.fields.items)

-- the cells of the dictionaries that are held
abbrev pub cells_by : FileCore → Known
cells_by c = λ id. cells_held (held_by c.tracker id)

-- so many bytes of a file, with the blocks in them
abbrev pub front_by : FileCore → List ℕ → Begun
front_by c x = record { bytes = x; dictionaries = file_blocks c.blocks.dictionaries; records = file_blocks c.blocks.records }

-- the table of some batches, with the pairs of the schema and of the footer
abbrev pub table_by : FileCore → List TableBatch → ArrowTable
table_by c bs = table_of (file_fields c) (metadata_of c.pairs.schema) (metadata_of c.pairs.footer) bs

-- Nothing was written: no dictionary is held, and there are no blocks.
pub record HasNothing (c : FileCore) : Type 0 where
  pub held : (id : ℤ) → held_by c.tracker id ≡ None
  pub dictionaries : c.blocks.dictionaries.items ≡ []
  pub records : c.blocks.records.items ≡ []

-- A file was begun, and has so many bytes, behind which it goes on. By its blocks they mean these batches, where so much of its dictionaries is known, whatever stands behind them; its schema may be written into a footer, and so may its blocks.
pub record IsFile (k : Known) (c : FileCore) (x : List ℕ) (bs : List TableBatch) : Type 0 where
  pub end : c.blocks.end ≡ length x
  pub means : FrontMeans (file_fields c) (front_by c x) k bs
  pub schema : SchemaMayBeWritten (file_fields c) []
  pub ids : IdsMayBeWritten (file_fields c)
  pub floats : chosen_floats None (file_fields c) 0 ≡ []
  pub dictionaries_fit : AllByRecursion BlockFits (file_blocks c.blocks.dictionaries)
  pub records_fit : AllByRecursion BlockFits (file_blocks c.blocks.records)

-- Behind whatever the file means, some bytes end it: it means the table of its batches.
abbrev pub MeansItsTable : FileCore → List ℕ → Type 0
MeansItsTable c bytes = (k : Known) (x : List ℕ) (bs : List TableBatch) → IsFile k c x bs → file_table (x ++ bytes) «all» ≡ Some (table_by c bs)

-- They do where its schema may be said, which it may where it is regular.
pub record EndsFile (c : FileCore) (bytes : List ℕ) : Type 0 where
  pub said : SchemaIsSaid (own_fields c) (metadata_of c.pairs.schema) → MeansItsTable c bytes
  pub written : regular (own_fields c) (metadata_of c.pairs.schema) ≡ true → MeansItsTable c bytes
