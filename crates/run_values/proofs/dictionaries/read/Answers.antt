use Rattle.std.specs.Rc.{rc_value}
use Rattle.run_values.proofs.Texts.{column_read}
use Rattle.run_values.proofs.dictionaries.read.Goals as goal

pub read_record_batch-requires-clause-columns : goal.read_record_batch-requires-clause-columns
read_record_batch-requires-clause-columns c = column_read (rc_value c.in_ok-schema.schema) c.in_ok-schema.ensures
