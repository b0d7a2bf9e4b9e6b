use Rattle.std.proofs.Common.{subst}
use Rattle.arrow_spec.specs.Laws.{AreBytes}
use Rattle.ipc_log_streams.proofs.Below.{whole_said}
use Rattle.ipc_tool.proofs.commands.append.read_stream.Goals as goal

pub returns-clause-said : goal.returns-clause-said
returns-clause-said g c =
    let bytes = subst AreBytes c.deref.ensures.value c.are_bytes.ensures in
    whole_said c.in_ok-bytes.bytes.items c.in_ok-stream.stream bytes c.in_ok-stream.ensures.whole
