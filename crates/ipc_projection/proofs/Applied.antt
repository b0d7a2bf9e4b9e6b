-- A batch whose columns and fields stand at places of another's.
use Rattle.std.proofs.Common.{◌≡◌, ℕ, List, [], length, map, get_or, Some, None, Bool, true, false, arith, refl, sym, ap, subst, ◌∙◌}
use Rattle.std.specs.BTreeMap.{BTreeMap}
use Rattle.std.specs.List.{list_all}
use Rattle.std.specs.Option.{option_map}
use Rattle.std.specs.Prelude.{slice_get, nat_eq, not, if◌then◌else◌}
use Rattle.std.proofs.lemmas.List.{length-map}
use Rattle.std.proofs.lemmas.List.Sums.{AllPass-from_list_all, list_all-from_AllPass}
use Rattle.std.proofs.lemmas.Option.{slice_get-map, slice_get-get_or, same_Some}
use Rattle.arrow_spec.specs.Kinds.{Metadata}
use Rattle.arrow_arrays.specs.Batches.{Batch, batch_fault, have_rows}
use Rattle.arrow_arrays.specs.declared.record_batch.BatchError.TheVariants.{Width, Height}
use Rattle.arrow_arrays.specs.Parts.{Parts}
use Rattle.arrow_types.specs.Schemas.{Keyed}
use Rattle.ipc_projection.specs.Places.{ArePlaces, IsInverse, IsPermutation, StandAt}
use Rattle.ipc_projection.specs.Projections.{IsReordered}
use Rattle.ipc_projection.proofs.Inverse.{inverse_places}

-- what items are seen as stands at the same places
pub seen_at : {A B : Type 0} (f : A → B) (all : List A) (places : List ℕ) (items : List A) → StandAt all places items → StandAt (map f all) places (map f items)
seen_at f all places items s = record {
  count = length-map items f ∙ s.count;
  each = λ j c e. slice_get-map f items j ∙ ap (option_map f) (s.each j c e) ∙ sym (slice_get-map f all c);
}

pub stand_same : {A : Type 0} {all more : List A} {places others : List ℕ} {items : List A} → all ≡ more → places ≡ others → StandAt all places items → StandAt more others items
stand_same {all = all} {others = others} {items = items} e f s = subst (λ xs. StandAt xs others items) e (subst (λ ps. StandAt all ps items) f s)

-- a test that all pass is passed by those at places
pub pass_at : {A : Type 0} (test : A → Bool) (all : List A) (places : List ℕ) (items : List A) → ArePlaces places (length all) → StandAt all places items → list_all test all ≡ true → list_all test items ≡ true
pass_at test all places items p s h = list_all-from_AllPass test items (λ k d l.
    let n : length items ≡ length places = s.count in
    let at : slice_get places k ≡ Some (get_or places k 0) = slice_get-get_or places k 0 (omega arith) in
    let within = p.below k (get_or places k 0) at in
    let is = same_Some _ _ (sym (slice_get-get_or items k d l) ∙ s.each k (get_or places k 0) at ∙ slice_get-get_or all (get_or places k 0) d within) in
    ap test is ∙ AllPass-from_list_all test all h (get_or places k 0) d within)

both_hold : (x y : Bool) → (if not x then Some Width else (if not y then Some Height else None)) ≡ None → (x ≡ true) × (y ≡ true)
both_hold true true h = (refl, refl)
both_hold true false h = cc
both_hold false y h = cc

-- a batch has a column for each field, each of its rows
pub batch_parts : (b : Batch) → batch_fault b ≡ None → (length b.schema ≡ length b.arrays) × (have_rows b.height b.arrays ≡ true)
batch_parts b h =
    let p = both_hold (nat_eq (length b.schema) (length b.arrays)) (have_rows b.height b.arrays) h in
    let e : nat_eq (length b.schema) (length b.arrays) ≡ true = p.0 in
    (grind arith, p.1)

-- a batch of such parts has no fault
no_fault : (rows : ℕ) (schema : List Keyed) (arrays : List Parts) → length schema ≡ length arrays → have_rows rows arrays ≡ true → batch_fault (record { height = rows; schema = schema; arrays = arrays; custom = [] }) ≡ None
no_fault rows schema arrays width same = let e : nat_eq (length schema) (length arrays) ≡ true = grind arith in rw (e, same) refl

-- the places from which a map leads to the columns of a batch
pub batch_places : (m : BTreeMap ℕ ℕ) (old : Batch) (places : List ℕ) → batch_fault old ≡ None → IsPermutation m (length old.arrays) → IsInverse m places (length old.schema) → ArePlaces places (length old.arrays)
batch_places m old places f h v = inverse_places m (length old.arrays) places h (subst (IsInverse m places) (batch_parts old f).0 v)

-- the batch of the fields and columns at these places
pub applied : (m : BTreeMap ℕ ℕ) (old : Batch) (places : List ℕ) → batch_fault old ≡ None → IsPermutation m (length old.arrays) → IsInverse m places (length old.schema)
    → (schema : List Keyed) → StandAt old.schema places schema → (arrays : List Parts) → StandAt old.arrays places arrays
    → (batch_fault (record { height = old.height; schema = schema; arrays = arrays; custom = [] }) ≡ None) × IsReordered m old (record { height = old.height; schema = schema; arrays = arrays; custom = old.custom })
applied m old places f h v schema s arrays a =
    let p = batch_parts old f in (
      no_fault old.height schema arrays (s.count ∙ sym a.count) (pass_at _ old.arrays places arrays (batch_places m old places f h v) a p.1),
      record {
        height = refl;
        width = a.count ∙ v.count ∙ p.0;
        fields = s.count ∙ v.count;
        arrays = λ i j e. a.each j i (v.each i j e);
        schema = λ i j e. s.each j i (v.each i j e);
        custom = refl;
      },
    )

-- a batch that is made of such parts, and is then given pairs
pub as_ordered : (made given : Batch) (height : ℕ) (schema : List Keyed) (arrays : List Parts) (rows : ℕ) (custom pairs : Metadata) → rows ≡ height → made ≡ record { height = rows; schema = schema; arrays = arrays; custom = [] }
    → given ≡ record { height = made.height; schema = made.schema; arrays = made.arrays; custom = pairs } → pairs ≡ custom → given ≡ record { height = height; schema = schema; arrays = arrays; custom = custom }
as_ordered made given height schema arrays rows custom pairs e h g k = g ∙ rw (h, e, k) refl
