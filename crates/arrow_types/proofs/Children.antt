-- Fields are as many as the children that they are of.
use Rattle.std.proofs.Common.{◌≡◌, List, [], ◌∷◌, map, length, suc, refl, ap}
use Rattle.arrow_spec.specs.Kinds.{width}
use Rattle.arrow_types.specs.Child.{Child, fields_from}

pub width_from : {A : Type 0} (f : A → Child) (xs : List A) → width (fields_from (map f xs)) ≡ length xs
width_from f [] = refl
width_from f (x ∷ xs) = ap suc (width_from f xs)
