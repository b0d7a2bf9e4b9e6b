use Rattle.std.proofs.Common.{Ok, Err, arith, refl}
use Rattle.std.proofs.KnownBytes.{Keeps-refl}
use Rattle.ipc_tool.proofs.Words.{at_most_17}
use Rattle.ipc_tool.proofs.program.run.Goals as goal

pub returns-in-Ok-clause-ran : goal.returns-in-Ok-clause-ran
returns-in-Ok-clause-ran g c = record {
  answer = Ok tt;
  answered = c.in-Ok.ensures.answered;
  is = refl;
  at_most = omega arith;
  line = Keeps-refl (g.N.Sink.written c.args.notes.now);
}

pub returns-in-Err-clause-ran : goal.returns-in-Err-clause-ran
returns-in-Err-clause-ran g c = record {
  answer = Err c.in-Err.refusal;
  answered = c.in-Err.ensures.answered;
  is = c.status.ensures;
  at_most = let few = at_most_17 c.in-Err.refusal in omega (arith, c.status.ensures, few);
  line = c.note_refusal.ensures;
}
