use Rattle.std.proofs.Common.{subst, arith}
use Rattle.view_types.specs.Sound.{HasPlaces}
use Rattle.view_types.specs.Tops.{top_in}
use Rattle.ipc_view.proofs.unions.is_misplaced.Goals as goal

pub is_bad_offset-requires : goal.is_bad_offset-requires
is_bad_offset-requires c = let h = subst (HasPlaces (top_in c.args.parts.now)) c.in-Dense.is c.requires.places in record { lies = h.0; room = omega (arith, h.1, c.requires.row) }
