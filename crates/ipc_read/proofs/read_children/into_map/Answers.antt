use Rattle.std.proofs.Common.{◌∙◌}
use Rattle.ipc_read.proofs.Tops.{only_maps}
use Rattle.ipc_read.proofs.read_children.into_map.Goals as goal

pub unreachable-requires : goal.unreachable-requires
unreachable-requires c = only_maps c.args.array c.known.ensures.sound c.requires.kind (λ x e. c.in-None.ensures.other x (c.known.ensures.same ∙ e))
