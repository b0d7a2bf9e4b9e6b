-- Each child is a smaller tree.
use Rattle.std.specs.Prelude.{◌≤◌, ◌+◌, List, [], ◌∷◌}
use Rattle.std.proofs.Common.{arith}
use denote.Param.Weighed.{most}
use Rattle.view_types.specs.Views.{View, views, view_size, views_size}

pub several_fall : (vs : List View) → most (λ v. view_size v + 1) vs ≤ views_size (views vs) + 1
several_fall [] = omega arith
several_fall (v ∷ vs) = omega (arith, several_fall vs)
