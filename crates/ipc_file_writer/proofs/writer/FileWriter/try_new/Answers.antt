use Rattle.std.proofs.Common.{Err, inr, subst, sym}
use Rattle.ipc_messages.specs.Below.{moved}
use Rattle.ipc_file_writer.specs.Calls.{HasBegun, Starts}
use Rattle.ipc_file_writer.proofs.writer.FileWriter.try_new.Goals as goal

pub returns-in-Ok-clause-begun : goal.returns-in-Ok-clause-begun
returns-in-Ok-clause-begun g c = record {
  fresh = c.in_ok-writer.writer.core;
  made = c.in_ok-writer.ensures.fresh;
  begun = subst (λ s. HasBegun (moved (g.W.Sink.written s) (g.W.Sink.written c.start.new.self.sink) (g.W.Sink.faults s) (g.W.Sink.faults c.start.new.self.sink) (g.W.Sink.wants s) (g.W.Sink.wants c.start.new.self.sink))
      c.in_ok-writer.writer.core c.start.new.self.core) c.in_ok-writer.ensures.sink c.in-Ok.ensures.starts;
}

pub returns-in-Err-clause-err : goal.returns-in-Err-clause-err
returns-in-Err-clause-err g c = inr (record {
  fresh = c.in_ok-writer.writer.core;
  made = c.in_ok-writer.ensures.fresh;
  left = c.start.new.self.core;
  starts = subst (λ s. Starts (moved (g.W.Sink.written c.args.sink) (g.W.Sink.written s) (g.W.Sink.faults c.args.sink) (g.W.Sink.faults s) (g.W.Sink.wants c.args.sink) (g.W.Sink.wants s))
      (Err c.in-Err.error) c.in_ok-writer.writer.core c.start.new.self.core) (sym c.into_inner.ensures)
      (subst (λ s. Starts (moved (g.W.Sink.written s) (g.W.Sink.written c.start.new.self.sink) (g.W.Sink.faults s) (g.W.Sink.faults c.start.new.self.sink) (g.W.Sink.wants s) (g.W.Sink.wants c.start.new.self.sink))
      (Err c.in-Err.error) c.in_ok-writer.writer.core c.start.new.self.core) c.in_ok-writer.ensures.sink c.in-Err.ensures.starts);
})
