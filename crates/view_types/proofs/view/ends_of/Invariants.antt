use Rattle.std.proofs.Common.{◌≡◌, ◌≤◌, ◌*◌, ◌++◌, drop}
use Rattle.view_types.specs.Sound.{ends_after}
use Rattle.view_types.specs.Views.{rows_each, views}
use Rattle.view_types.proofs.view.ends_of.Given as goal

abbrev pub invariant-loop-view : goal.invariant-loop-view
invariant-loop-view l = record {
  left : ends_after 0 (rows_each (views l.children)) ≡ l.ends.items ++ ends_after l.end (rows_each (views (drop l.view-index l.children)));
  few : l.end ≤ l.view-index * 18446744073709551616;
}
