use Rattle.std.proofs.Common.{◌∙◌}
use Rattle.arrow_spec.specs.Flat.{little}
use Rattle.arrow_buffers.proofs.Items.{whole_bytes}
use Rattle.arrow_buffers.proofs.buffer.Buffer+u8.from_bytes.Goals as goal

pub returns : goal.returns
returns c = whole_bytes little _ _ _ c.in_ok-bytes.ensures (c.len-count.ensures ∙ c.args.bytes.ok.0)
