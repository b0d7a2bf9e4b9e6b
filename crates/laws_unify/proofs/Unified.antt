-- A stream's batches over its lists hold what they held.
use Rattle.std.proofs.Common.{◌≡◌, ◌∙◌, sym, refl, ap, subst, ℕ, suc, ◌+◌, List, [], ◌∷◌, drop, true, Some, None, arith, slice_get, append-nil}
use Rattle.arrow_spec.specs.Kinds.{Fields, Kind, dictionary_count}
use Rattle.arrow_types.specs.Schemas.{Keyed, fields_in}
use Rattle.arrow_arrays.specs.Batches.{Batch}
use Rattle.arrow_arrays.specs.Carried.{is_carried}
use Rattle.arrow_arrays.specs.Parts.{Parts, also, none, cells_in, fault_each, forest, kind_in}
use Rattle.arrow_arrays.specs.SameBatches.{contents_in, holding_of}
use Rattle.laws_unify.specs.Over.{AreOver, CoversEach, Lists, over, over_each, over_parts}
use Rattle.laws_unify.specs.Single.{AreSingle}
use Rattle.laws_unify.specs.Stands.{AreSound, StandInParts, StandsInEach}
use Rattle.laws_unify.specs.United as unite
use Rattle.laws_unify.specs.United.{all_taken, batch_over, columns_over, finished, some_part, united, values_kinds}
use Rattle.laws_unify.proofs.CarriedKinds.{values_are_carried}
use Rattle.laws_unify.proofs.Finished.{AreTaken, FinishedFrom, finished_from, next_filled, untouched}
use Rattle.laws_unify.proofs.Goes.{AllColumns, batches_stand, columns_stand, covers_each, each_same, stays}
use Rattle.laws_unify.proofs.ListKinds.{AreUnder, all_under, batches_fine}
use Rattle.laws_unify.proofs.Over.{over_keeps_cells, over_keeps_kinds_and_rows}
use Rattle.laws_unify.proofs.Sound.{each_over, each_sound, parts_sound}
use Rattle.laws_unify.proofs.ValueKinds.{SitsEach, kinds_nested}

-- the columns of the first batch, if there is one, have one child a list of one size
abbrev pub FirstSingle : List Batch → Type 0
FirstSingle [] = ⊥
FirstSingle (b ∷ bs) = AreSingle (forest b.arrays)

first_carried : (fs : Fields) (bs : List Batch) → AreUnder fs bs → AreSound bs → FirstSingle bs → (q : ℕ) (k : Kind) → slice_get (values_kinds fs) q ≡ Some k → is_carried k ≡ true
first_carried fs [] u f s q k e = absurd s
first_carried fs (b ∷ bs) u f s q k e = values_are_carried fs (forest b.arrays) u.0 f.0 s q k e

sits_first_of_all : (fs : Fields) → SitsEach (values_kinds fs) 0 fs
sits_first_of_all fs = ([], sym (append-nil (values_kinds fs)))

pub are_taken : (s : List Keyed) (bs : List Batch) → unite.are_of (fields_in s) bs ≡ true → AreSound bs → FirstSingle bs → AreTaken (values_kinds (fields_in s)) (all_taken bs)
are_taken s bs h f single =
    let fs = fields_in s in
    let under = all_under fs bs h in
    record {
      carried = first_carried fs bs under f single;
      nested_in = kinds_nested fs;
      fine = batches_fine fs (values_kinds fs) bs (λ q. none) (sits_first_of_all fs) under f (λ q. record { sound = refl; kinds = λ k e. tt });
      stand = batches_stand bs (λ q. none) (all_taken bs) f (stays (all_taken bs)) (λ q. tt);
    }

-- what the step of a number is given
pub step_holds : (s : List Keyed) (bs : List Batch) → AreTaken (values_kinds (fields_in s)) (all_taken bs) → (q : ℕ) (k : Kind) → slice_get (values_kinds (fields_in s)) q ≡ Some k → (us : Lists) → us ≡ finished (drop (suc q) (values_kinds (fields_in s))) (suc q) (all_taken bs)
    → (is_carried k ≡ true) × StandInParts us (some_part k (us q)) (suc q) × (fault_each (over_parts us (some_part k (us q)) (suc q)) ≡ None)
step_holds s bs t q k e us same =
    let whole = values_kinds (fields_in s) in
    let raw = all_taken bs in
    let f : FinishedFrom whole (suc q) raw us = subst (FinishedFrom whole (suc q) raw) (sym same) (finished_from whole raw t (drop (suc q) whole) (suc q) refl) in
    let own : us q ≡ raw q = ap (λ ws. ws q) same ∙ untouched (drop (suc q) whole) (suc q) q raw (omega arith) in
    let g = next_filled whole raw us q k t e f in
    let fill = some_part k (raw q) in
    let sound = parts_sound whole us fill k (suc q) f.fits g.under g.sound (t.nested_in q k e) g.stand in
    (t.carried q k e, subst (λ ps. StandInParts us (some_part k ps) (suc q)) (sym own) g.stand, subst (λ ps. fault_each (over_parts us (some_part k ps) (suc q)) ≡ None) (sym own) sound)

-- ── batches ──

pub columns_forest : (us : Lists) (ps : List Parts) (id : ℕ) → forest (columns_over us ps id) ≡ over_each us (forest ps) id
columns_forest us [] id = refl
columns_forest us (p ∷ ps) id = ap (also (over us p id)) (columns_forest us ps (id + dictionary_count (kind_in p)))

columns_contents : (us : Lists) (ps : List Parts) (id : ℕ) → CoversEach us (forest ps) id → contents_in (columns_over us ps id) ≡ contents_in ps
columns_contents us [] id c = refl
columns_contents us (p ∷ ps) id c =
    let next = id + dictionary_count (kind_in p) in
    let own : (kind_in (over us p id), cells_in (over us p id)) ≡ (kind_in p, cells_in p) =
    ap (λ k. (k, cells_in (over us p id))) (over_keeps_kinds_and_rows us p id).0 ∙ ap (λ cs. (kind_in p, cs)) (over_keeps_cells us p id c.0) in
    ap (λ x. x ∷ contents_in (columns_over us ps next)) own ∙ ap (λ xs. (kind_in p, cells_in p) ∷ xs) (columns_contents us ps next c.1)

-- a batch over lists
pub record BatchHolds (us : Lists) (b : Batch) : Type 0 where
  pub stands : StandsInEach us (forest b.arrays) 0
  pub sound : fault_each (over_each us (forest b.arrays) 0) ≡ None
  pub over : AreOver us (forest (columns_over us b.arrays 0)) 0
  pub same : holding_of (batch_over us b) ≡ holding_of b

abbrev pub AllHold : Lists → List Batch → Type 0
AllHold us [] = Unit {0}
AllHold us (b ∷ bs) = BatchHolds us b × AllHold us bs

all_hold : (fs : Fields) (raw us : Lists) (bs : List Batch) → FinishedFrom (values_kinds fs) 0 raw us → AreUnder fs bs → AreSound bs → AllColumns raw bs → AllHold us bs
all_hold fs raw us [] t u f c = tt
all_hold fs raw us (b ∷ bs) t u f c =
    let ps = forest b.arrays in
    let stands = each_same raw us ps 0 t.values c.0 in
    let sits = sits_first_of_all fs in (
      record {
        stands = stands;
        sound = each_sound (values_kinds fs) us ps fs 0 t.fits u.0 f.0 sits stands;
        over = subst (λ qs. AreOver us qs 0) (sym (columns_forest us b.arrays 0)) (each_over (values_kinds fs) us ps fs 0 t.over u.0 f.0 sits);
        same = ap (λ cs. record { rows = b.height; schema = b.schema; columns = cs; custom = b.custom }) (columns_contents us b.arrays 0 (covers_each us ps 0 f.0 stands));
      },
      all_hold fs raw us bs t u.1 f.1 c.1,
    )

pub unified_holds : (s : List Keyed) (bs : List Batch) → unite.are_of (fields_in s) bs ≡ true → AreSound bs → AreTaken (values_kinds (fields_in s)) (all_taken bs) → AllHold (united s bs) bs
unified_holds s bs h f t =
    let fs = fields_in s in
    let raw = all_taken bs in
    all_hold fs raw (united s bs) bs (finished_from (values_kinds fs) raw t (values_kinds fs) 0 refl) (all_under fs bs h) f (columns_stand bs (λ q. none) raw f (stays raw))
