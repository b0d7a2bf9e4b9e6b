-- The ids of a union, one after another.
use Rattle.std.specs.Prelude.{ℕ, zero, suc, List, [], ◌∷◌, ◌++◌, ℤ, codes}
use Rattle.std.specs.Fmt.{signed_decimal}

-- what stands before the id at an index
abbrev pub comma : ℕ → List ℕ
comma zero = []
comma (suc index) = codes ","

-- ids from an index on, each behind its comma
abbrev pub ids_from : ℕ → List ℤ → List ℕ
ids_from index [] = []
ids_from index (x ∷ xs) = comma index ++ signed_decimal x ++ ids_from (suc index) xs
