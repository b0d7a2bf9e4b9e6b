use Rattle.std.proofs.Common.{subst}
use Rattle.ipc_bodies.specs.Encodings.{text_of}
use Rattle.ipc_bodies.specs.Puts.{moved}
use Rattle.ipc_bodies.specs.declared.encoding.Encoding.{Encoding}
use Rattle.ipc_messages.specs.Fields.{given_ids}
use Rattle.ipc_stream_writer.specs.Calls.{Writes}
use Rattle.ipc_stream_writer.proofs.writer.StreamWriter.write.Goals as goal

pub returns-clause-writes : goal.returns-clause-writes
returns-clause-writes g c =
    let old = c.args.self.now in
    let m = moved (g.W.Sink.written old.sink) (g.W.Sink.written c.write.new.sink) (g.W.Sink.faults old.sink) (g.W.Sink.faults c.write.new.sink) (g.W.Sink.wants old.sink) (g.W.Sink.wants c.write.new.sink) in
    subst (λ (e : Encoding). Writes (text_of e) m c.write.result old.core c.write.new.self c.args.batch.now (given_ids c.args.ipc_fields)) old.as_bytes c.write.ensures.writes
