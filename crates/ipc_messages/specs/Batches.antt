-- The batches that a writer takes.
use Rattle.std.specs.Prelude.{◌≡◌, List, Option, true}
use Rattle.arrow_spec.specs.Kinds.{have_same_kinds}
use Rattle.arrow_types.specs.Schemas.{Keyed, fields_in}
use Rattle.arrow_arrays.specs.Batches.{Batch}
use Rattle.arrow_arrays.specs.Parts.{forest}
use Rattle.arrow_arrays.specs.Columns.{columns_of}
use Rattle.ipc_fields.specs.IpcFields.{Ids}
use Rattle.ipc_messages.specs.Fields.{IsOwn}

-- a batch is one of a schema's: there is a column for each field, of the field's type, names, nullability and metadata aside, and the IPC fields that are given are the writer's own
pub record Suits (s : List Keyed) (below : Ids) (b : Batch) (given : Option Ids) : Type 0 where
  pub types : have_same_kinds (fields_in s) (columns_of (forest b.arrays)) ≡ true
  pub own : IsOwn given below
