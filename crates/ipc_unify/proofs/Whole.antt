-- What unifying asks of its steps, and what they come to.
use Rattle.std.proofs.Common.{◌≡◌, ◌∙◌, sym, refl, ap, subst, ℕ, zero, suc, ◌+◌, ◌<◌, List, [], ◌∷◌, length, map, get_or, All, Bool, true, false, ◌||◌, Some, None, slice_get, drop, arith, Result, Ok, Err, IfOk, Global}
use Rattle.std.specs.declared.vec.Vec.{Vec}
use Rattle.std.proofs.lemmas.List.Elements.{All-cons, All-nil}
use Rattle.arrow_spec.specs.declared.types.UnionMode.TheVariants.{Dense, Sparse}
use Rattle.arrow_spec.specs.Kinds as kind
use Rattle.arrow_spec.specs.Kinds.{Fields, Kind, dictionary_count}
use Rattle.arrow_types.specs.Schemas.{Keyed, fields_in}
use Rattle.arrow_arrays.specs.Batches.{Batch}
use Rattle.arrow_arrays.specs.EmptyParts.{empty_forest, empty_parts, empty_under}
use Rattle.arrow_arrays.specs.Parts.{Forest, also, forest, kind_in, none}
use Rattle.arrow_arrays.specs.SameBatches.{holding_of}
use Rattle.laws_unify.specs.Over.{AreOver, Lists, are_large, is_large, parts_large}
use Rattle.laws_unify.specs.Single.{AreSingle}
use Rattle.laws_unify.specs.Stands.{AreSound}
use Rattle.laws_unify.specs.United.{all_taken, are_of, batch_over, batches_large, finished, has_large_keys, lists_large, unified, united, values_kinds}
use Rattle.laws_unify.proofs.Unified.{AllHold, FirstSingle, are_taken, step_holds, unified_holds}
use Rattle.ipc_unify.specs.Steps.{MayFinish, MayFinishAll, MayGoOver}

-- ── no batches ──

mutual
  empty_small : (us : Lists) (l k : Kind) (id : ℕ) → is_large us (empty_under l k) id ≡ false
  empty_small us l (kind.«list» o fs) id = forest_small us fs id
  empty_small us l (kind.map sorted fs) id = forest_small us fs id
  empty_small us l (kind.fixed_size_list size fs) id = forest_small us fs id
  empty_small us l (kind.struct fs) id = forest_small us fs id
  empty_small us l (kind.union Sparse stated ids fs) id = forest_small us fs id
  empty_small us l (kind.union Dense stated ids fs) id = forest_small us fs id
  empty_small us l (kind.dictionary t ordered i k) id = refl
  empty_small us l (kind.extension name metadata k) id = empty_small us l k id
  empty_small us l k id = refl

  forest_small : (us : Lists) (fs : Fields) (id : ℕ) → are_large us (empty_forest fs) id ≡ false
  forest_small us kind.none id = refl
  forest_small us (kind.field name nullable metadata k fs) id =
      let next = id + dictionary_count (kind_in (empty_parts k)) in
      ap (λ b. b || are_large us (empty_forest fs) next) (empty_small us k k id) ∙ forest_small us fs next

lists_small : (us : Lists) (ks : List Kind) (id : ℕ) → lists_large us ks id (λ q. none) ≡ false
lists_small us [] id = refl
lists_small us (k ∷ ks) id =
    ap (λ b. (b || false) || lists_large us ks (suc id) (λ q. none)) (empty_small us k k (suc id)) ∙ lists_small us ks (suc id)

pub record NoneUnified (s : List Keyed) (bs : List Batch) : Type 0 where
  pub batches : bs ≡ unified s bs
  pub over : All (λ b. AreOver (united s bs) (forest b.arrays) 0) bs
  pub small : has_large_keys s bs ≡ false

pub none_unified : (s : List Keyed) (bs : List Batch) → length bs ≡ 0 → NoneUnified s bs
none_unified s [] e = record { batches = refl; over = All-nil (λ b. AreOver (united s []) (forest b.arrays) 0); small = lists_small (united s []) (values_kinds (fields_in s)) 0 }
none_unified s (b ∷ bs) e = cc

-- ── the first batch ──

pub first_single : (bs : List Batch) (b : Batch) → 0 < length bs → b ≡ get_or bs 0 b → AreSingle (forest b.arrays) → FirstSingle bs
first_single [] b h e s = absurd (omega (arith, h))
first_single (x ∷ bs) b h e s = subst (λ y. AreSingle (forest y.arrays)) e s

-- ── the lists ──

pub may_finish : (s : List Keyed) (bs : List Batch) (ks : List Kind) (raw : Lists) → ks ≡ values_kinds (fields_in s) → raw ≡ all_taken bs → are_of (fields_in s) bs ≡ true → AreSound bs → FirstSingle bs → MayFinishAll ks raw
may_finish s bs ks raw kinds taken h f single = subst (λ us. MayFinishAll ks us) (sym taken) (subst (λ ls. MayFinishAll ls (all_taken bs)) (sym kinds) (λ q k e.
    (let t = step_holds s bs (are_taken s bs h f single) q k e (finished (drop (suc q) (values_kinds (fields_in s))) (suc q) (all_taken bs)) refl in record { carried = t.0; stands = t.1; sound = t.2 })))

-- ── the batches ──

all_go : (us : Lists) (bs : List Batch) → AllHold us bs → MayGoOver us bs
all_go us [] h = tt
all_go us (b ∷ bs) h = (h.0.stands, h.0.sound, all_go us bs h.1)

all_same : (us : Lists) (bs : List Batch) → AllHold us bs → map holding_of (map (batch_over us) bs) ≡ map holding_of bs
all_same us [] h = refl
all_same us (b ∷ bs) h = ap (λ x. x ∷ map holding_of (map (batch_over us) bs)) h.0.same ∙ ap (λ xs. holding_of b ∷ xs) (all_same us bs h.1)

all_over : (us : Lists) (bs : List Batch) → AllHold us bs → All (λ b. AreOver us (forest b.arrays) 0) (map (batch_over us) bs)
all_over us [] h = All-nil (λ b. AreOver us (forest b.arrays) 0)
all_over us (b ∷ bs) h = All-cons (λ x. AreOver us (forest x.arrays) 0) (batch_over us b) (map (batch_over us) bs) h.0.over (all_over us bs h.1)

pub record IsUnified (s : List Keyed) (bs : List Batch) (us : Lists) : Type 0 where
  pub may : MayGoOver us bs
  pub lists : us ≡ united s bs
  pub same : map holding_of (unified s bs) ≡ map holding_of bs
  pub over : All (λ b. AreOver (united s bs) (forest b.arrays) 0) (unified s bs)

pub is_unified : (s : List Keyed) (bs : List Batch) (ks : List Kind) (raw us : Lists) → ks ≡ values_kinds (fields_in s) → raw ≡ all_taken bs → are_of (fields_in s) bs ≡ true → AreSound bs → FirstSingle bs → us ≡ finished ks 0 raw → IsUnified s bs us
is_unified s bs ks raw us kinds taken h f single e =
    let lists : us ≡ united s bs = e ∙ ap (λ ls. finished ls 0 raw) kinds ∙ ap (finished (values_kinds (fields_in s)) 0) taken in
    let holds = unified_holds s bs h f (are_taken s bs h f single) in
    record {
      may = subst (λ ws. MayGoOver ws bs) (sym lists) (all_go (united s bs) bs holds);
      lists = lists;
      same = all_same (united s bs) bs holds;
      over = all_over (united s bs) bs holds;
    }

-- ── keys ──

no_large : (a b : Bool) → a ≡ false → b ≡ false → (a || b) ≡ false
no_large a b p q = rw (p, q) refl

large_first : (a b : Bool) → a ≡ true → (a || b) ≡ true
large_first a b p = rw p refl

large_last : (a b : Bool) → b ≡ true → (a || b) ≡ true
large_last true b p = refl
large_last false b p = p

-- what both passes say of the keys
pub record KeysOf (s : List Keyed) (bs : List Batch) (ks : List Kind) (raw us : Lists) : Type 0 where
  pub small : batches_large us bs ≡ false → lists_large (finished ks 0 raw) ks 0 raw ≡ false → has_large_keys s bs ≡ false
  pub lists : lists_large (finished ks 0 raw) ks 0 raw ≡ true → has_large_keys s bs ≡ true
  pub batches : batches_large us bs ≡ true → has_large_keys s bs ≡ true

pub keys_of : (s : List Keyed) (bs : List Batch) (ks : List Kind) (raw us : Lists) → ks ≡ values_kinds (fields_in s) → raw ≡ all_taken bs → us ≡ finished ks 0 raw → KeysOf s bs ks raw us
keys_of s bs ks raw us kinds taken e =
    let lists : us ≡ united s bs = e ∙ ap (λ ls. finished ls 0 raw) kinds ∙ ap (finished (values_kinds (fields_in s)) 0) taken in
    let own : batches_large us bs ≡ batches_large (united s bs) bs = ap (λ ws. batches_large ws bs) lists in
    let all : lists_large (finished ks 0 raw) ks 0 raw ≡ lists_large (united s bs) (values_kinds (fields_in s)) 0 (all_taken bs) =
    ap (λ ws. lists_large ws ks 0 raw) (sym e ∙ lists) ∙ ap (λ ls. lists_large (united s bs) ls 0 raw) kinds ∙ ap (lists_large (united s bs) (values_kinds (fields_in s)) 0) taken in
    let a = batches_large (united s bs) bs in
    let b = lists_large (united s bs) (values_kinds (fields_in s)) 0 (all_taken bs) in
    record {
      small = λ p q. no_large a b (sym own ∙ p) (sym all ∙ q);
      lists = λ p. large_last a b (sym all ∙ p);
      batches = λ p. large_first a b (sym own ∙ p);
    }

-- ── what comes of the last pass ──

pub holds_of : {E : Type 0} (P : List Batch → Type 0) (r : Result (Vec Batch Global) E) (xs : List Batch) → P xs → IfOk r (λ v. v.items ≡ xs) → IfOk r (λ v. P v.items)
holds_of P (Ok v) xs p h = subst P (sym h) p
holds_of P (Err e) xs p h = tt

pub fits_of : {A E : Type 0} (r : Result A E) (a b : Bool) → (a ≡ false → b ≡ false) → IfOk r (λ _. a ≡ false) → IfOk r (λ _. b ≡ false)
fits_of (Ok x) a b h f = h f
fits_of (Err e) a b h f = tt
