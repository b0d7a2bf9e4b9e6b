use Rattle.std.proofs.Common.{length, ap, ◌∙◌, arith}
use Rattle.arrow_buffers.specs.Rows.{part}
use Rattle.ipc_bodies.proofs.Encoded.{made_short, text_as}
use Rattle.ipc_bodies.proofs.buffer.BodyBuffer.put_part.Goals as goal

pub returns-clause-longest : goal.returns-clause-longest
returns-clause-longest g c = made_short c.args.encoding _ _ (length c.fill.new.out) c.args.count (length c.args.scratch.now) c.put_piece.ensures.longest (omega arith) c.requires.scratch

pub returns-clause-puts : goal.returns-clause-puts
returns-clause-puts g c = text_as c.args.encoding _ c.put_piece.result _ _ (c.fill.ensures ∙ ap (λ n. part c.args.at n c.args.self.now) c.split_at_mut-made.ensures.front_len) c.put_piece.ensures.puts
