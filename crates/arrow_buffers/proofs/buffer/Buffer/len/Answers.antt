use Rattle.std.proofs.Common.{length, ap, sym, ◌∙◌}
use Rattle.arrow_buffers.proofs.Parts.{length-from_on}
use Rattle.arrow_buffers.proofs.buffer.Buffer.len.Goals as goal

pub returns : goal.returns
returns g c = sym (ap length (sym c.self.view_is) ∙ length-from_on _ _ _)
