use Rattle.ipc_generate.proofs.Writing.{whole_table}
use Rattle.ipc_generate.proofs.file.generate.Goals as goal

pub returns-clause-table : goal.returns-clause-table
returns-clause-table c =
    whole_table c.ended.result c.write_batches.new.writer.core c.write_batches.new.writer.sink.bytes.items c.args.seed c.ended.ensures.table c.in_ok-write_batches.ensures.written
