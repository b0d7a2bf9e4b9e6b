use Rattle.std.proofs.Common.{refl, sym, [], append-nil}
use Rattle.ipc_log_records.proofs.Writing.{batch_refused, batch_started, batch_texts}
use Rattle.ipc_log_records.proofs.encode.write_if_any.Goals as goal

pub returns-in-None-clause-texts : goal.returns-in-None-clause-texts
returns-in-None-clause-texts c = rw c.in-None.is ([], (refl, refl), sym (append-nil c.args.writer.now.sink.bytes.items))

pub returns-in-Some-clause-started : goal.returns-in-Some-clause-started
returns-in-Some-clause-started c = batch_started c.write.result _ c.args.writer.now.core c.write.new.self.core c.in-Some.batch.now c.requires.started c.write.ensures.writes

pub returns-in-Some-clause-texts : goal.returns-in-Some-clause-texts
returns-in-Some-clause-texts c = rw c.in-Some.is (batch_texts c.write.result _ c.args.writer.now.core c.write.new.self.core c.in-Some.batch.now c.args.writer.now.sink.bytes.items c.write.new.self.sink.bytes.items refl refl c.write.ensures.writes)

pub returns-in-Some-clause-err : goal.returns-in-Some-clause-err
returns-in-Some-clause-err c = rw c.in-Some.is (batch_refused c.write.result _ c.args.writer.now.core c.write.new.self.core c.in-Some.batch.now refl c.requires.started c.write.ensures.writes)
