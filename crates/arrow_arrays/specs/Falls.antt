-- Each array inside another is a smaller tree.
use Rattle.std.specs.Prelude.{◌≤◌, ◌+◌, suc, List, [], ◌∷◌, max}
use Rattle.std.proofs.Common.{arith}
use denote.Param.Weighed.{most}
use Rattle.arrow_arrays.specs.declared.array.Array.{Array}
use Rattle.arrow_arrays.specs.declared.array.Array.TheVariants.{Null}
use Rattle.arrow_arrays.specs.declared.array.DictionaryArray.TheDeep.{deep-Array}
use Rattle.arrow_arrays.specs.Parts.{tree_size, trees_size}
use Rattle.arrow_arrays.specs.PartsOf.{parts_of, only, forest_of}

deep_le : (x : Array) → deep-Array x ≤ tree_size (parts_of x) + 1
deep_le (Null p) = omega arith
deep_le x = omega arith

pub only_falls : (x : Array) → max (deep-Array x) 0 ≤ suc (trees_size (only x))
only_falls x = omega (arith, deep_le x)

most_le : (xs : List Array) → most deep-Array xs ≤ trees_size (forest_of xs) + 1
most_le [] = omega arith
most_le (x ∷ xs) = omega (arith, deep_le x, most_le xs)

pub several_fall : (xs : List Array) → max (most deep-Array xs) 0 ≤ suc (trees_size (forest_of xs))
several_fall xs = omega (arith, most_le xs)
