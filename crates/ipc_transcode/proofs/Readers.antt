-- Readers of columns of a file.
use Rattle.std.proofs.Common.{◌≡◌, ℕ, List, true, Option, Some, Ok, sym, subst}
use Rattle.std.specs.Rc.{rc_value}
use Rattle.arrow_spec.specs.Files.{columns_right}
use Rattle.arrow_spec.specs.Kinds.{have_same_kinds, width}
use Rattle.arrow_types.specs.Schemas.{fields_in}
use Rattle.arrow_arrays.specs.Batches.{Batch}
use Rattle.arrow_arrays.specs.Parts.{forest}
use Rattle.ipc_stream_writer.specs.Below.{columns_of}
use Rattle.ipc_reader.specs.Below.{WasRead, meta_view, HasFields, MayProject, FileMetadata}
use Rattle.ipc_reader.specs.Reads.{NextBatch}
use Rattle.ipc_reader.specs.declared.cursor.FileCursor.{FileCursor}
use Rattle.laws_walk.proofs.Below.{kinds_of_schema}
use Rattle.laws_walk.specs.Places.{schema_of_reader}
use Rattle.ipc_transcode.specs.Sends.{IsReader}

pub reader_of : (file : FileMetadata) (c : FileCursor) (columns : Option (List ℕ)) → c.metadata ≡ file → MayProject (rc_value file.schema) columns c.projection → columns_right columns (width (meta_view file).schema.fields) ≡ Ok tt → WasRead file → IsReader c
reader_of file c columns same projects right read = record {
  columns = columns;
  projects = subst (λ (f : FileMetadata). MayProject (rc_value f.schema) columns c.projection) (sym same) projects;
  right = subst (λ f. columns_right columns (width (meta_view f).schema.fields) ≡ Ok tt) (sym same) right;
  read = subst WasRead (sym same) read;
}

-- further on in its file
pub reader_on : (c c' : FileCursor) → c'.metadata ≡ c.metadata → c'.projection ≡ c.projection → IsReader c → IsReader c'
reader_on c c' file projection reader = reader_of c.metadata c' reader.columns file (subst (MayProject (rc_value c.metadata.schema) reader.columns) (sym projection) reader.projects) reader.right reader.read

-- its next batch has columns of the kinds of its fields
pub next_kinds : {S : Type 0} (content_of : S → Option (List ℕ)) (faults_of fetched_of : S → ℕ) (references_of : S → List ℕ) (s s' : S) (c c' : FileCursor) (y : Batch) → IsReader c → NextBatch content_of faults_of fetched_of references_of s s' c c' (Some (Ok y))
    → have_same_kinds (fields_in (schema_of_reader c)) (columns_of (forest y.arrays)) ≡ true
next_kinds content_of faults_of fetched_of references_of s s' c c' y reader n =
    let has : HasFields y (schema_of_reader c) = n.schema reader.columns reader.projects in
    kinds_of_schema (schema_of_reader c) y.arrays has.kinds
