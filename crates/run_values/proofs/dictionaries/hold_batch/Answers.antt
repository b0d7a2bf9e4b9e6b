use Rattle.std.specs.Rc.{rc_value}
use Rattle.run_values.proofs.Texts.{values_held, values_read}
use Rattle.run_values.proofs.dictionaries.hold_batch.Goals as goal

pub read_dictionary_batch-requires-clause-columns : goal.read_dictionary_batch-requires-clause-columns
read_dictionary_batch-requires-clause-columns c = values_read (rc_value c.in_ok-schema.schema) c.in_ok-ipc_schema.ipc_schema.fields.items _ c.in_ok-schema.ensures

pub read_dictionary_batch-requires-clause-kinds : goal.read_dictionary_batch-requires-clause-kinds
read_dictionary_batch-requires-clause-kinds c = values_held _ (rc_value c.in_ok-schema.schema) c.in_ok-ipc_schema.ipc_schema.fields.items _ c.in_ok-schema.ensures
