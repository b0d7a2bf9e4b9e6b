-- Columns that are read by rising numbers, among all columns of a record batch.
use Rattle.std.specs.Prelude.{nat_lt, slice_get}
use Rattle.std.proofs.lemmas.Bool.{and_parts}
use Rattle.std.proofs.Common.{◌≡◌, ℕ, zero, suc, List, [], ◌∷◌, length, Option, Some, None, true, refl, sym, ap, ◌∙◌, subst}
use Rattle.arrow_spec.specs.Columns.{is_chosen}
use Rattle.arrow_spec.specs.Counts.{Place, RecordBatch, after, first_place}
use Rattle.arrow_spec.specs.Kinds.{Fields, none, field, width}
use Rattle.arrow_types.specs.Schemas.{Keyed}
use Rattle.arrow_arrays.specs.Batches.{Batch}
use Rattle.arrow_arrays.specs.Parts.{Parts}
use Rattle.ipc_projection.specs.Below.{columns_read, Held, parts_read, are_columns, are_rising, chosen, kept, are_below}
use Rattle.laws_columns.specs.Below.{AreAsked, ArePicked}
use Rattle.ipc_read.specs.Batches.{chosen_read}
use Rattle.ipc_read.proofs.Chosen.{all_chosen}
use Rattle.ipc_projection.specs.Places.{StandAt}
use Rattle.ipc_projection.specs.Projections.{IsProjection, IsReordered}
use Rattle.ipc_projection.specs.declared.projection.ProjectionInfo.{ProjectionInfo}
use Rattle.ipc_projection.proofs.Projected.{chosen_stand}

-- what is read of columns is what is asked for of all
read_is_chosen : (m : RecordBatch) (h : Held) (asked : Option (List ℕ)) (fs : Fields) (c : ℕ) (p : Place) (rows : ℕ) → chosen_read m h asked fs c p rows ≡ chosen asked c (columns_read m h fs p rows)
read_is_chosen m h asked none c p rows = refl
read_is_chosen m h asked (field name nullable metadata k others) c p rows = ap (λ xs. kept (is_chosen asked c) (parts_read m h k p rows) xs) (read_is_chosen m h asked others (suc c) (after m k p) rows)

pub as_many : (m : RecordBatch) (h : Held) (fs : Fields) (p : Place) (rows : ℕ) → length (columns_read m h fs p rows) ≡ width fs
as_many m h none p rows = refl
as_many m h (field name nullable metadata k others) p rows = ap suc (as_many m h others (after m k p) rows)

-- items at some places are those at their numbers
stand_picked : {A : Type 0} (all : List A) (cs : List ℕ) (xs : List A) → are_below (length all) cs ≡ true → length xs ≡ length cs → ((j c : ℕ) → slice_get cs j ≡ Some c → slice_get xs j ≡ slice_get all c) → ArePicked all cs xs
stand_picked all [] [] below count each = tt
stand_picked all [] (x ∷ xs) below count each = cc
stand_picked all (c ∷ cs) [] below count each = cc
stand_picked all (c ∷ cs) (x ∷ xs) below count each =
    let both = and_parts (nat_lt c (length all)) (are_below (length all) cs) below in
    let n : length xs ≡ length cs = cc in
    (sym (each 0 c refl), stand_picked all cs xs both.1 n (λ j d at. each (suc j) d at))

pub picked_from : {A : Type 0} (all : List A) (cs : List ℕ) (xs : List A) → are_below (length all) cs ≡ true → StandAt all cs xs → ArePicked all cs xs
picked_from all cs xs below h = stand_picked all cs xs below h.count h.each

-- and the other way
pub picked_at : {A : Type 0} (all : List A) (cs : List ℕ) (xs : List A) (j c : ℕ) → ArePicked all cs xs → slice_get cs j ≡ Some c → slice_get xs j ≡ slice_get all c
picked_at all [] xs j c h at = cc
picked_at all (d ∷ cs) [] j c h at = absurd h
picked_at all (d ∷ cs) (x ∷ xs) zero c h at = let e : d ≡ c = cc in sym h.0 ∙ ap (slice_get all) e
picked_at all (d ∷ cs) (x ∷ xs) (suc j) c h at = picked_at all cs xs j c h.1 at

pub picked_count : {A : Type 0} (all : List A) (cs : List ℕ) (xs : List A) → ArePicked all cs xs → length xs ≡ length cs
picked_count all [] [] h = refl
picked_count all [] (x ∷ xs) h = absurd h
picked_count all (d ∷ cs) [] h = absurd h
picked_count all (d ∷ cs) (x ∷ xs) h = ap suc (picked_count all cs xs h.1)

asked_picked : {A : Type 0} (columns : Option (List ℕ)) (all : List A) → are_rising columns ≡ true → are_columns columns (length all) ≡ true → AreAsked all columns (chosen columns 0 all)
asked_picked None all rising range = all_chosen 0 all
asked_picked (Some cs) all rising range = picked_from all cs (chosen (Some cs) 0 all) range (chosen_stand cs all rising range)

pub all_picked : (m : RecordBatch) (h : Held) (columns : Option (List ℕ)) (fs : Fields) (rows : ℕ) → are_rising columns ≡ true → are_columns columns (width fs) ≡ true → AreAsked (columns_read m h fs first_place rows) columns (chosen_read m h columns fs 0 first_place rows)
all_picked m h columns fs rows rising range =
    let all = columns_read m h fs first_place rows in
    subst (λ xs. AreAsked all columns xs) (sym (read_is_chosen m h columns fs 0 first_place rows)) (asked_picked columns all rising (subst (λ n. are_columns columns n ≡ true) (sym (as_many m h fs first_place rows)) range))

-- ── in the order asked ──

-- the columns of a batch that was reordered by a projection, whatever all columns are
pub reordered_picked : (schema : List Keyed) (cs : List ℕ) (p : ProjectionInfo) (x y : Batch) → IsProjection schema cs p → IsReordered p.map x y → are_below (length schema) cs ≡ true → (all : List Parts) → length all ≡ length schema → ArePicked all p.columns.items x.arrays → ArePicked all cs y.arrays
reordered_picked schema cs p x y is order below all same h =
    let many : length y.arrays ≡ length cs = order.width ∙ picked_count all p.columns.items x.arrays h ∙ is.count in
    stand_picked all cs y.arrays (subst (λ n. are_below n cs ≡ true) (sym same) below) many (λ j c at.
    let place = is.places j c at in
    order.arrays place.0 j place.2 ∙ picked_at all p.columns.items x.arrays place.0 c h place.1)
