-- A schema that may be said with other pairs.
use Rattle.std.proofs.Common.{◌≡◌, [], length, true, arith}
use Rattle.arrow_spec.specs.Kinds.{Fields, Metadata}
use Rattle.arrow_spec.specs.Regular.{regular}
use Rattle.arrow_spec.specs.WrittenSchemas.{Ascend, IdsMayBeWritten, SchemaMayBeWritten, own_fields}
use Rattle.arrow_spec.proofs.ReadSchemas.{fields_further}
use Rattle.ipc_messages.specs.Schemas.{SchemaIsSaid}
use Rattle.laws_writers.proofs.Pairs.{schema_may_with}

-- a schema that may be written may be written without its pairs
pub may_without : (fs : Fields) (pairs : Metadata) → SchemaMayBeWritten fs pairs → SchemaMayBeWritten fs []
may_without fs pairs may =
    let fewer = fields_further fs (record { fields = 0; pairs = 0 }) (record { fields = 0; pairs = length pairs }) (omega arith, omega arith) in
    record { fit = may.fit; ascend = tt; few_fields = omega (arith, fewer.0, may.few_fields); few_pairs = omega (arith, fewer.1, may.few_pairs); distinct = may.distinct }

pub said_without : (fs : Fields) (pairs : Metadata) → SchemaIsSaid fs pairs → SchemaIsSaid fs []
said_without fs pairs h = record { schema = may_without (own_fields fs) pairs h.schema; ids = h.ids }

-- with some pairs, and so with others with which it is regular
pub said_regular : (fs : Fields) (own pairs : Metadata) → SchemaMayBeWritten (own_fields fs) own → IdsMayBeWritten (own_fields fs) → regular fs pairs ≡ true → Ascend [] pairs → SchemaIsSaid fs pairs
said_regular fs own pairs may ids reg up = record { schema = schema_may_with fs own pairs may reg up; ids = ids }
