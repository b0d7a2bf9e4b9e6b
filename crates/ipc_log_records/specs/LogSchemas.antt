-- The fields of a log. (Arrow Columnar Format, "Schema message".)
use Rattle.std.specs.Prelude.{List, []}
use Rattle.arrow_spec.specs.Kinds.{Fields, bare}
use Rattle.arrow_spec.specs.WrittenSchemas.{SchemaMayBeWritten, own_fields}
use Rattle.arrow_types.specs.Schemas.{Keyed, fields_in}
use Rattle.ipc_fields.specs.IpcFields.{Ids, fields_with}

-- The fields of a schema as a log says them: without ids, and with their own pairs alone, since pairs whose keys are reserved are said by a field's type.
abbrev pub log_fields : List Keyed → Fields
log_fields s = bare (own_fields (fields_in s))

-- a schema that was read of a stream: under the ids that the stream says it may be written, without pairs of its own
pub record WasSaid (s : List Keyed) : Type 0 where
  pub own : Ids
  pub may : SchemaMayBeWritten (fields_with (fields_in s) own) []
