use Rattle.std.proofs.Common.{arith}
use Rattle.ipc_messages.proofs.Framing.{one_framed}
use Rattle.ipc_messages.proofs.framed.framed.Goals as goal

pub returns : goal.returns
returns c =
    one_framed c.args.limit c.args.encoded.now _ c.as_slice-metadata.result.now c.as_slice-metadata.ensures.value (omega (arith, c.next_multiple_of.ensures.multiple, c.next_multiple_of.ensures.lower_bound, c.next_multiple_of.ensures.upper_bound))
    c.in_ok-front.ensures.small c.in_ok-front.ensures.bytes c.as_slice.ensures.value
