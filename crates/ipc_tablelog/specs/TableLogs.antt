-- A log on a disk as a table.
use Rattle.std.specs.Prelude.{◌≡◌, ℕ, List, [], Option, Some, true}
use Rattle.arrow_spec.specs.Files.{ArrowTable}
use Rattle.arrow_spec.specs.Regular.{regular}
use Rattle.arrow_types.specs.Schemas.{Keyed, fields_in}
use Rattle.ipc_log_disk.specs.Crashes.{Images}
use Rattle.laws_logs.specs.Tables.{MeansLog}
use Rattle.ipc_log_records.specs.LogSchemas.{log_fields}

-- the bytes that a disk tells are a log's that means this table, with the fields of a schema that is read back as it is written
pub record IsTableOf (content : Option (List ℕ)) (s : List Keyed) (t : ArrowTable) : Type 0 where
  pub b : List ℕ
  pub told : content ≡ Some b
  pub means : MeansLog b t
  pub fields : t.fields ≡ log_fields s
  pub is_regular : regular (fields_in s) [] ≡ true

-- and so does each image that a crash now may leave
pub record KeepsTable (content : Option (List ℕ)) (images : Images) (s : List Keyed) (t : ArrowTable) : Type 0 where
  pub table : IsTableOf content s t
  pub durable : (c : List ℕ) → images c → MeansLog c t
