use Rattle.std.proofs.Common.{refl}
use Rattle.ipc_generate.proofs.Writing.{write_err, write_means, write_ready}
use Rattle.ipc_generate.proofs.file.write_rows.Goals as goal

pub returns-clause-ready : goal.returns-clause-ready
returns-clause-ready c = write_ready c.write.result _ c.args.writer.now.core c.write.new.self.core c.in_ok-batch.batch c.args.states.now c.requires.ready c.in_ok-batch.ensures.batch c.write.ensures.writes

pub returns-clause-written : goal.returns-clause-written
returns-clause-written c =
    write_means c.write.result _ c.args.writer.now.core c.write.new.self.core c.in_ok-batch.batch c.args.states.now c.args.writer.now.sink.bytes.items c.write.new.self.sink.bytes.items
    c.in_ok-batch.ensures.batch refl refl c.write.ensures.writes

pub returns-clause-err : goal.returns-clause-err
returns-clause-err c = write_err c.write.result _ c.args.writer.now.core c.write.new.self.core c.in_ok-batch.batch c.args.states.now c.requires.ready refl c.in_ok-batch.ensures.batch c.write.ensures.writes
