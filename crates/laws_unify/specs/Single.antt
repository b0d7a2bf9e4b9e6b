-- Arrays whose lists of one size have one child.
use Rattle.std.specs.Prelude.{◌≡◌, length}
use Rattle.arrow_arrays.specs.Heads.{indexed, listed, mapped, sized, structured, tagged}
use Rattle.arrow_arrays.specs.Parts.{Parts, Forest, leaf, nested, none, also, rows_each}

-- each list of one size that stands in an array, at any depth, has one child
abbrev mutual
  pub IsSingle : Parts → Type 0
  IsSingle (leaf l) = Unit {0}
  IsSingle (nested (sized c) cs) = (length (rows_each cs) ≡ 1) × AreSingle cs
  IsSingle (nested (listed l) cs) = AreSingle cs
  IsSingle (nested (mapped l) cs) = AreSingle cs
  IsSingle (nested (structured c) cs) = AreSingle cs
  IsSingle (nested (tagged t) cs) = AreSingle cs
  IsSingle (nested (indexed d) cs) = AreSingle cs

  pub AreSingle : Forest → Type 0
  AreSingle none = Unit {0}
  AreSingle (also p ps) = IsSingle p × AreSingle ps
