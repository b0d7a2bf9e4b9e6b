use Rattle.std.proofs.Common.{◌-◌, ◌≤◌}
use Rattle.dictionary_places.specs.Places.{AreSame, values_in}
use Rattle.dictionary_places.proofs.search.agree_from.Given as goal

abbrev pub invariant-loop-j : goal.invariant-loop-j
invariant-loop-j l = record {
  within : l.j ≤ l.count;
  same : AreSame (values_in l.u) l.at (values_in l.v) 0 l.j;
}

abbrev pub decreases-loop-j : goal.decreases-loop-j
decreases-loop-j l = l.count - l.j
