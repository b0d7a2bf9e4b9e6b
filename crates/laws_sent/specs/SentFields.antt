-- The fields of a stream that a file's columns are sent as.
use Rattle.std.specs.Prelude.{◌≡◌, ℕ, List, [], true, Option, Ok}
use Rattle.arrow_spec.specs.Features.{chosen_floats}
use Rattle.arrow_spec.specs.Files.{Meta, fields_as_asked}
use Rattle.arrow_spec.specs.Kinds.{Fields, bare, numbered, uses_in}
use Rattle.arrow_spec.specs.Schema.{uses_agree}
use Rattle.arrow_types.specs.Schemas.{Keyed, fields_in}
use Rattle.laws_writers.specs.Below.{all_representable, SchemaIsSaid, plain_fields}
use Rattle.ipc_fields.specs.IpcFields.{Ids, fields_with, have_shapes}
use Rattle.laws_writers.specs.Written.{said_fields}
use Rattle.ipc_files.specs.FileViews.{meta_view}
use Rattle.ipc_files.specs.declared.metadata.FileMetadata.{FileMetadata}

-- the columns that are asked for can be read: at no depth of theirs stands a kind that is never read
abbrev pub AreReadable : Meta → Option (List ℕ) → Type 0
AreReadable meta columns = chosen_floats columns meta.schema.fields 0 ≡ []

-- the fields of a file that are asked for, with the ids that its footer gives their dictionaries
abbrev pub fields_of : FileMetadata → Option (List ℕ) → Fields
fields_of file columns = fields_as_asked columns (meta_view file).schema.fields

-- A schema of them, and ids that count from 0: what a stream says of them. A schema's own ids are of no account: under the stream's, its fields are the file's.
pub record AreSentFields (file : FileMetadata) (columns : Option (List ℕ)) (s : List Keyed) (own : Ids) : Type 0 where
  pub plain : plain_fields (fields_in s) ≡ plain_fields (fields_of file columns)
  pub numbers : fields_with (fields_in s) own ≡ numbered (fields_of file columns) 0
  pub again : fields_with (fields_of file columns) own ≡ numbered (fields_of file columns) 0
  pub shapes : have_shapes (fields_in s) own ≡ true
  pub agree : uses_agree [] (uses_in (fields_with (fields_in s) own)) ≡ Ok tt
  pub representable : all_representable (fields_in s) ≡ true
  pub said : SchemaIsSaid (fields_with (fields_in s) own) (meta_view file).schema.metadata
  pub fields : bare (said_fields (fields_in s) own) ≡ bare (fields_of file columns)
