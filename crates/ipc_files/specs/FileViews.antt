-- What the values of a file that is read stand for.
use Rattle.std.specs.Prelude.{◌≡◌, ℕ, ◌^◌, ◌<◌, List, [], Ok, map, true, ⊤, All}
use Rattle.std.specs.Rc.{rc_value}
use Rattle.arrow_spec.specs.declared.error.IpcError.{IpcError}
use Rattle.arrow_spec.specs.declared.error.IpcError.TheVariants.{OutOfSpec, Unsupported, TooMany, TooDeep, ReadFault, Memory}
use Rattle.arrow_spec.specs.Files.{Meta, custom_of, meta_of}
use Rattle.arrow_spec.specs.Kinds.{Metadata, uses_in}
use Rattle.arrow_spec.specs.Schema.{uses_agree}
use Rattle.arrow_spec.specs.WrittenSchemas.{CustomMayBeWritten, IdsMayBeWritten, SchemaMayBeWritten}
use Rattle.arrow_types.specs.Schemas.{fields_in}
use Rattle.ipc_fields.specs.IpcFields.{have_shapes, ids_of, metadata_of, schema_view}
use Rattle.ipc_io.specs.Outside.{Rose}
use Rattle.ipc_read.specs.Batches.{are_column_fields}
use Rattle.ipc_schema.specs.Footers.{IsNatural}
use Rattle.ipc_files.specs.FileBlocks.{file_block}
use Rattle.ipc_files.specs.declared.metadata.FileMetadata.{FileMetadata}

abbrev pub meta_view : FileMetadata → Meta
meta_view m = record {
  schema = schema_view (rc_value m.schema, m.ipc_schema, m.custom_schema_metadata);
  blocks = map file_block m.blocks.items;
  dictionaries = map file_block m.dictionaries.items;
}

-- the footer's own pairs
abbrev pub file_custom : FileMetadata → Metadata
file_custom m = metadata_of m.custom_metadata

-- what the footer of a file says, and its own pairs
pub record FileSays (b : List ℕ) (meta : Meta) (custom : Metadata) : Type 0 where
  pub read : meta_of b ≡ Ok meta
  pub pairs : custom_of b ≡ Ok custom

-- metadata by which batches are read: the IPC fields are those of its schema, its columns may be read (no size is 0, lists and maps have one child, and a
-- map's is a struct of two fields), the uses of each dictionary agree, and the file's size is below 2^63
pub record IsReadable (m : FileMetadata) : Type 0 where
  pub shapes : have_shapes (fields_in (rc_value m.schema)) (ids_of m.ipc_schema.fields.items) ≡ true
  pub columns : are_column_fields (meta_view m).schema.fields ≡ true
  pub agree : uses_agree [] (uses_in (meta_view m).schema.fields) ≡ Ok tt
  pub most : m.size < 2 ^ 63

-- no number of a file's blocks is negative
pub record HasNaturalNumbers (m : FileMetadata) : Type 0 where
  pub blocks : All IsNatural m.blocks.items
  pub dictionaries : All IsNatural m.dictionaries.items

-- metadata that was read of bytes: its schema, the ids of its dictionaries and its pairs may be written too, and no number of its blocks is negative
pub record WasRead (m : FileMetadata) : Type 0 where
  pub may : SchemaMayBeWritten (meta_view m).schema.fields (meta_view m).schema.metadata
  pub ids : IdsMayBeWritten (meta_view m).schema.fields
  pub custom : CustomMayBeWritten (file_custom m)
  pub natural : HasNaturalNumbers m
  pub readable : IsReadable m

-- why metadata is refused: what the bytes say, want of memory, or a fault of the source
abbrev pub FileCause : IpcError → ℕ → ℕ → Type 0
FileCause (OutOfSpec kind) faults faults' = ⊤
FileCause (Unsupported feature) faults faults' = ⊤
FileCause (TooMany counted) faults faults' = ⊤
FileCause TooDeep faults faults' = ⊤
FileCause ReadFault faults faults' = Rose faults faults'
FileCause Memory faults faults' = ⊤
FileCause e faults faults' = ⊥
