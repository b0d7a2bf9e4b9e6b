use Rattle.std.proofs.Common.{drop, false}
use Rattle.arrow_arrays.specs.PartsOf.{forest_of}
use Rattle.ipc_messages.specs.Encoded.{messages_of}
use Rattle.ipc_messages.proofs.MessageSteps.{IsLeft}
use Rattle.ipc_messages.proofs.encoded.encode_parts.Given as goal

abbrev pub invariant-loop-part : goal.invariant-loop-part
invariant-loop-part l = IsLeft l.options l.encoded.items (messages_of l.id l.is_delta (forest_of (drop l.part-index l.parts))) (messages_of l.id false (forest_of l.parts))
