use Rattle.std.proofs.Common.{ap, sym, ◌∙◌}
use Rattle.ipc_bodies.specs.BytesOf.{bytes_of}
use Rattle.ipc_bodies.proofs.Encoded.{no_text_of}
use Rattle.ipc_bodies.proofs.buffer.BodyBuffer.put_as.Goals as goal

pub returns-in-Nothing-clause-puts : goal.returns-in-Nothing-clause-puts
returns-in-Nothing-clause-puts g c = no_text_of c.args.encoding _ _ _ c.args.self.now (sym c.self.view_is ∙ ap bytes_of c.in-Nothing.is)
