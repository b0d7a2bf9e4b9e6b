use Rattle.ipc_to_file.proofs.Puts.{takes_them}
use Rattle.ipc_to_file.proofs.begin.with_footer_pairs.Goals as goal

pub unreachable-requires : goal.unreachable-requires
unreachable-requires c = takes_them c.args.core c.requires.new c.in-Err.ensures.1
