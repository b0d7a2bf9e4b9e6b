use Rattle.std.proofs.Common.{sym, ap, ◌∙◌}
use Rattle.arrow_types.specs.KindOf.{kind_of}
use Rattle.arrow_arrays.specs.Heads.{is_map}
use Rattle.arrow_arrays.specs.OffsetsOf.{width_in}
use Rattle.ipc_read.proofs.ListParts.{no_large_map}
use Rattle.ipc_read.proofs.lists.make_map.Goals as goal

pub unreachable-requires-in-Large : goal.unreachable-requires-in-Large
unreachable-requires-in-Large c =
    let k = kind_of c.args.dtype.now in
    no_large_map k (sym (ap (λ o. is_map (width_in o) k) c.in-Large.is) ∙ c.requires.suits)
