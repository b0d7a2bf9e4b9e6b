-- Places in lists: items that stand at given places of another list, and maps that permute places.
use Rattle.std.specs.Prelude.{◌≡◌, ℕ, ◌<◌, ◌≤◌, List, length, take, slice_get, Option, Some, None, true, is_some}
use Rattle.std.specs.BTreeMap.{BTreeMap, get}
use Rattle.std.specs.List.{count_by}
use Rattle.std.specs.Ordering.{nat_cmp}
use Rattle.ipc_read_laws.specs.Projection.{do_rise, are_below}

-- the entry of a map at a place
abbrev pub entry : BTreeMap ℕ ℕ → ℕ → Option ℕ
entry m i = get nat_cmp m i

-- places below n, each of them once
pub record ArePlaces (places : List ℕ) (n : ℕ) : Type 0 where
  pub below : (j c : ℕ) → slice_get places j ≡ Some c → c < n
  pub once : (j k c : ℕ) → slice_get places j ≡ Some c → slice_get places k ≡ Some c → j ≡ k

-- items are those that stand at places of a list, in the order of the places
pub record StandAt {A : Type 0} (all : List A) (places : List ℕ) (items : List A) : Type 0 where
  pub count : length items ≡ length places
  pub each : (j c : ℕ) → slice_get places j ≡ Some c → slice_get items j ≡ slice_get all c

-- a map has entries at the places below n alone, and leads from one of them to each place below n
pub record IsPermutation (m : BTreeMap ℕ ℕ) (n : ℕ) : Type 0 where
  pub inside : (i j : ℕ) → entry m i ≡ Some j → (i < n) × (j < n)
  pub led : (i : ℕ) → i < n → (j : ℕ) × (entry m i ≡ Some j)
  pub reached : (j : ℕ) → j < n → (i : ℕ) × (entry m i ≡ Some j)
  pub once : (i k j : ℕ) → entry m i ≡ Some j → entry m k ≡ Some j → i ≡ k

-- from each place to which a map leads, the place that leads there
pub record IsInverse (m : BTreeMap ℕ ℕ) (places : List ℕ) (n : ℕ) : Type 0 where
  pub count : length places ≡ n
  pub each : (i j : ℕ) → entry m i ≡ Some j → slice_get places j ≡ Some i

-- for each of n columns the place among the first i asked for at which it stands, where it does
pub record ArePlacesOf (asked : List ℕ) (i : ℕ) (places : List (Option ℕ)) (n : ℕ) : Type 0 where
  pub width : length places ≡ n
  pub placed : (j c : ℕ) → j < i → slice_get asked j ≡ Some c → slice_get places c ≡ Some (Some j)
  pub found : (c j : ℕ) → slice_get places c ≡ Some (Some j) → (j < i) × (slice_get asked j ≡ Some c)
  pub count : count_by is_some places ≡ i

-- the rising numbers of those of the first n columns that have a place, and the map from a place among these numbers to the column's place
pub record AreRising (places : List (Option ℕ)) (n : ℕ) (columns : List ℕ) (m : BTreeMap ℕ ℕ) : Type 0 where
  pub rising : do_rise 0 columns ≡ true
  pub below : are_below n columns ≡ true
  pub each : (i c : ℕ) → slice_get columns i ≡ Some c → (j : ℕ) × (slice_get places c ≡ Some (Some j)) × (entry m i ≡ Some j)
  pub found : (c j : ℕ) → c < n → slice_get places c ≡ Some (Some j) → (i : ℕ) × (slice_get columns i ≡ Some c)
  pub ends : (i : ℕ) → length columns ≤ i → entry m i ≡ None
  pub count : length columns ≡ count_by is_some (take n places)
