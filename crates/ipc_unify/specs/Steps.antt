-- What the steps of unifying come to.
use Rattle.std.specs.Prelude.{◌≡◌, ◌⊎◌, ℕ, zero, suc, List, [], ◌∷◌, length, All, Bool, true, None, Some, drop, slice_get}
use Rattle.arrow_spec.specs.declared.error.IpcError.{IpcError}
use Rattle.arrow_spec.specs.declared.error.IpcError.TheVariants.{Memory, NotRepresentable}
use Rattle.arrow_spec.specs.Kinds.{Kind}
use Rattle.arrow_arrays.specs.Batches.{Batch}
use Rattle.arrow_arrays.specs.Carried.{is_carried}
use Rattle.arrow_arrays.specs.Parts.{fault_each, forest, none}
use Rattle.laws_unify.specs.Over.{Lists, over_each, over_parts}
use Rattle.laws_unify.specs.Stands.{StandInParts, StandsInEach}
use Rattle.laws_unify.specs.United.{finished, some_part}
use Rattle.dictionary_places.specs.Lists.{IsKept, parts_in}
use Rattle.dictionary_places.specs.declared.list.DictionaryList.{DictionaryList}

-- lists by their numbers; none from their end on
abbrev pub lists_of : List DictionaryList → Lists
lists_of [] q = none
lists_of (l ∷ ls) zero = parts_in l
lists_of (l ∷ ls) (suc q) = lists_of ls q

-- each knows its rows
abbrev pub AreKept : List DictionaryList → Type 0
AreKept ls = All IsKept ls

-- as many lists, with the same parts
pub record Same (old new : List DictionaryList) : Type 0 where
  pub count : length new ≡ length old
  pub kept : AreKept new
  pub lists : lists_of new ≡ lists_of old

-- a step is refused for want of memory, or since a key is too large
abbrev pub IsRefused : Bool → IpcError → Type 0
IsRefused large e = (e ≡ Memory) ⊎ ((e ≡ NotRepresentable) × (large ≡ true))

-- what the step of a number asks of the lists behind it
pub record MayFinish (k : Kind) (us : Lists) (q : ℕ) : Type 0 where
  pub carried : is_carried k ≡ true
  pub stands : StandInParts us (some_part k (us q)) (suc q)
  pub sound : fault_each (over_parts us (some_part k (us q)) (suc q)) ≡ None

-- and each step of several, the last one first
abbrev pub MayFinishAll : List Kind → Lists → Type 0
MayFinishAll ks raw = (q : ℕ) (k : Kind) → slice_get ks q ≡ Some k → MayFinish k (finished (drop (suc q) ks) (suc q) raw) q

-- the columns of batches stand in lists, and are arrays over them
abbrev pub MayGoOver : Lists → List Batch → Type 0
MayGoOver us [] = Unit {0}
MayGoOver us (b ∷ bs) = StandsInEach us (forest b.arrays) 0 × (fault_each (over_each us (forest b.arrays) 0) ≡ None) × MayGoOver us bs
