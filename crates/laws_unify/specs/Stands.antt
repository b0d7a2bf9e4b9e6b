-- Dictionaries that stand in the lists of their numbers.
use Rattle.std.specs.Prelude.{◌≡◌, ℕ, ◌+◌, List, [], ◌∷◌, None}
use Rattle.arrow_spec.specs.Kinds.{dictionary_count}
use Rattle.arrow_arrays.specs.Batches.{Batch}
use Rattle.arrow_arrays.specs.Heads.{indexed, listed, mapped, sized, structured, tagged}
use Rattle.arrow_arrays.specs.Parts.{Forest, Parts, also, leaf, nested, none, fault_each, forest, kind_in}
use Rattle.laws_unify.specs.Lists.{StandsAt}
use Rattle.laws_unify.specs.Over.{Lists, is_same_cell, values_of}

-- each dictionary that stands outermost in an array stands in its list; in several arrays, and in parts of one dictionary
abbrev mutual
  pub StandsIn : Lists → Parts → ℕ → Type 0
  StandsIn us (leaf l) id = Unit {0}
  StandsIn us (nested (indexed d) parts) id = StandsAt is_same_cell (values_of (us id)) (values_of parts)
  StandsIn us (nested (listed l) cs) id = StandsInEach us cs id
  StandsIn us (nested (mapped l) cs) id = StandsInEach us cs id
  StandsIn us (nested (sized c) cs) id = StandsInEach us cs id
  StandsIn us (nested (structured c) cs) id = StandsInEach us cs id
  StandsIn us (nested (tagged t) cs) id = StandsInEach us cs id

  pub StandsInEach : Lists → Forest → ℕ → Type 0
  StandsInEach us none id = Unit {0}
  StandsInEach us (also p ps) id = StandsIn us p id × StandsInEach us ps (id + dictionary_count (kind_in p))

abbrev pub StandInParts : Lists → Forest → ℕ → Type 0
StandInParts us none id = Unit {0}
StandInParts us (also p ps) id = StandsIn us p id × StandInParts us ps id

-- the columns of batches are arrays
abbrev pub AreSound : List Batch → Type 0
AreSound [] = Unit {0}
AreSound (b ∷ bs) = (fault_each (forest b.arrays) ≡ None) × AreSound bs
