use Rattle.std.proofs.Common.{◌≡◌, ◌∙◌, sym, ap, Some, None, pos}
use Rattle.std.specs.Option.{option_map}
use Rattle.array_filter.proofs.RunSteps.{can_say}
use Rattle.array_filter.proofs.offsets.offset_of.Goals as goal

pub unreachable-requires : goal.unreachable-requires
unreachable-requires g c =
    let e : None ≡ Some (pos c.args.place) = ap (option_map g.O.Offset.number) (sym c.in-None.is) ∙ can_say g.O.Offset.limit c.args.place (option_map g.O.Offset.number c.from_usize.result) c.requires c.from_usize.ensures in
    cc

pub returns : goal.returns
returns g c =
    let e : Some (g.O.Offset.number c.in-Some.offset) ≡ Some (pos c.args.place) = ap (option_map g.O.Offset.number) (sym c.in-Some.is) ∙ can_say g.O.Offset.limit c.args.place (option_map g.O.Offset.number c.from_usize.result) c.requires c.from_usize.ensures in
    cc
