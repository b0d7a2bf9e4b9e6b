use Rattle.std.proofs.Common.{◌∙◌}
use Rattle.ipc_read.proofs.Tops.{only_lists}
use Rattle.ipc_read.proofs.read_children.into_list.Goals as goal

pub unreachable-requires : goal.unreachable-requires
unreachable-requires c = only_lists c.args.array c.known.ensures.sound c.requires.kind (λ x e. c.in-None.ensures.other x (c.known.ensures.same ∙ e))
