-- Children are smaller trees.
use Rattle.std.proofs.Common.{◌≡◌, ℕ, zero, suc, ◌≤◌, ◌<◌, Some, ap, arith}
use Rattle.view_types.specs.Views.{View, Views, array, none, also, child_at, children_of, view_size, views_size}

child_below : (cs : Views) (i : ℕ) (w : View) → child_at cs i ≡ Some w → view_size w ≤ views_size cs
child_below none i w h = cc
child_below (also v vs) zero w h = let e : v ≡ w = cc in omega (arith, ap view_size e)
child_below (also v vs) (suc i) w h = omega (arith, child_below vs i w h)

pub child_smaller : (v : View) (i : ℕ) (w : View) → child_at (children_of v) i ≡ Some w → view_size w < view_size v
child_smaller (array t cs) i w h = omega (arith, child_below cs i w h)
