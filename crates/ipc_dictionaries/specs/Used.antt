-- The ids whose values a batch has fixed.
use Rattle.std.specs.Prelude.{◌≡◌, ◌++◌, ◌||◌, ℤ, List, [], ◌∷◌, Bool, true, false}
use Rattle.std.specs.Ordering.{int_cmp}
use Rattle.std.specs.BTreeSet.{contains}
use Rattle.arrow_spec.specs.Kinds.{same}
use Rattle.ipc_dictionaries.specs.declared.used.UsedIds.{UsedIds}

abbrev pub used_by : UsedIds → ℤ → Bool
used_by u q = contains int_cmp u.ids q

-- one of some ids
abbrev pub is_among : ℤ → List ℤ → Bool
is_among q [] = false
is_among q (id ∷ ids) = same id q || is_among q ids

-- some ids more are used, none of which was
pub record Adds (old new : UsedIds) : Type 0 where
  pub added : List ℤ
  pub trail : new.trail.items ≡ old.trail.items ++ added
  pub used : (q : ℤ) → used_by new q ≡ (used_by old q || is_among q added)
  pub fresh : (q : ℤ) → is_among q added ≡ true → used_by old q ≡ false
