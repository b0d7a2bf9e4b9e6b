use Rattle.std.proofs.Common.{◌≡◌, take}
use Rattle.view_types.proofs.view.+copy.Given as goal

abbrev pub invariant-clone_each-loop-view : goal.invariant-clone_each-loop-view
invariant-clone_each-loop-view l = l.copies.items ≡ take l.view-index l.views
