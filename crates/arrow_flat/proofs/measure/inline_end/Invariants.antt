use Rattle.std.proofs.Common.{◌≡◌, ◌-◌, ◌^◌, ◌<◌, min, drop}
use Rattle.arrow_spec.specs.Layout.{inline_end}
use Rattle.arrow_flat.specs.Nodes.{slots_of}
use Rattle.arrow_flat.proofs.measure.inline_end.Given as goal

abbrev pub invariant-loop-slot : goal.invariant-loop-slot
invariant-loop-slot l =
    (min (inline_end (slots_of (drop l.slot-index l.slots)) l.at) (2 ^ 128 - 1) ≡ min (inline_end (slots_of l.slots) l.start) (2 ^ 128 - 1)) × (l.at < 2 ^ 128)
