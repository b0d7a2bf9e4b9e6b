-- Steps of a walk over batches.
use Rattle.std.proofs.Common.{◌≡◌, ◌∙◌, sym, refl, ap, subst, ℕ, suc, ◌+◌, ◌<◌, ◌≤◌, List, [], ◌∷◌, ◌++◌, length, map, drop, take, get_or, Bool, true, false, ◌||◌, ◌&&◌, None, arith, append_assoc, append-nil, nat_eq}
use Rattle.std.proofs.lemmas.List.{at_drop_all, at_drop_more, take_more}
use Rattle.arrow_spec.specs.Kinds.{Metadata, dictionary_count}
use Rattle.arrow_arrays.specs.Batches.{Batch, batch_fault, have_rows}
use Rattle.arrow_arrays.specs.Parts.{Parts, fault_each, forest, kind_in, rows_in}
use Rattle.arrow_types.specs.Schemas.{Keyed}
use Rattle.laws_unify.specs.Over.{Lists, are_large, over, over_each}
use Rattle.laws_unify.specs.Stands.{AreSound, StandsInEach}
use Rattle.laws_unify.specs.United.{batch_over, batches_large, columns_over, taken_batches, taken_each}
use Rattle.laws_unify.proofs.Over.{over_keeps_kinds_and_rows}
use Rattle.laws_unify.proofs.Unified.{columns_forest}
use Rattle.ipc_unify.specs.Steps.{MayGoOver}

-- ── batches whose dictionaries are taken ──

one_more : (bs : List Batch) (b : Batch) → AreSound bs → fault_each (forest b.arrays) ≡ None → AreSound (bs ++ b ∷ [])
one_more [] b s f = (f, tt)
one_more (x ∷ bs) b s f = (s.0, one_more bs b s.1 f)

pub next_sound : (bs : List Batch) (i : ℕ) (b : Batch) → i < length bs → b ≡ get_or bs i b → AreSound (take i bs) → fault_each (forest b.arrays) ≡ None → AreSound (take (i + 1) bs)
next_sound bs i b h e s f = subst AreSound (sym (take_more bs i b h ∙ ap (λ x. take i bs ++ x ∷ []) (sym e))) (one_more (take i bs) b s f)

pub batch_taken : (bs : List Batch) (i : ℕ) (b : Batch) (us vs whole : Lists) → i < length bs → b ≡ get_or bs i b → vs ≡ taken_each (forest b.arrays) 0 us → taken_batches (drop i bs) us ≡ whole → taken_batches (drop (i + 1) bs) vs ≡ whole
batch_taken bs i b us vs whole h e step w =
    ap (taken_batches (drop (i + 1) bs)) step ∙ sym (at_drop_more (λ xs. taken_batches xs us) bs i b h ∙ ap (λ x. taken_batches (x ∷ drop (i + 1) bs) us) (sym e)) ∙ w

pub batches_taken : (bs : List Batch) (i : ℕ) (us whole : Lists) → length bs ≤ i → taken_batches (drop i bs) us ≡ whole → us ≡ whole
batches_taken bs i us whole h w = sym (at_drop_all (λ xs. taken_batches xs us) bs i h) ∙ w

-- ── a batch over lists ──

over_count : (us : Lists) (ps : List Parts) (id : ℕ) → length (columns_over us ps id) ≡ length ps
over_count us [] id = refl
over_count us (p ∷ ps) id = ap suc (over_count us ps (id + dictionary_count (kind_in p)))

over_heights : (us : Lists) (height : ℕ) (ps : List Parts) (id : ℕ) → have_rows height (columns_over us ps id) ≡ have_rows height ps
over_heights us height [] id = refl
over_heights us height (p ∷ ps) id =
    let next = id + dictionary_count (kind_in p) in
    ap (λ n. nat_eq n height && have_rows height (columns_over us ps next)) (over_keeps_kinds_and_rows us p id).1 ∙ ap (λ b. nat_eq (rows_in p) height && b) (over_heights us height ps next)

same_fault : (height : ℕ) (schema : List Keyed) (ps qs : List Parts) (custom : Metadata) → length ps ≡ length qs → have_rows height ps ≡ have_rows height qs
    → batch_fault (record { height = height; schema = schema; arrays = ps; custom = [] }) ≡ batch_fault (record { height = height; schema = schema; arrays = qs; custom = custom })
same_fault height schema ps qs custom e f = rw (e, f) refl

one_forest : (ps qs : List Parts) → forest ps ≡ forest qs → ps ≡ qs
one_forest [] [] e = refl
one_forest [] (q ∷ qs) e = cc
one_forest (p ∷ ps) [] e = cc
one_forest (p ∷ ps) (q ∷ qs) e =
    let own : p ≡ q = cc in
    let others : forest ps ≡ forest qs = cc in
    ap (λ x. x ∷ ps) own ∙ ap (λ xs. q ∷ xs) (one_forest ps qs others)

-- the columns are those of a batch
pub columns_are : (us : Lists) (b : Batch) (ps : List Parts) → forest ps ≡ over_each us (forest b.arrays) 0 → ps ≡ columns_over us b.arrays 0
columns_are us b ps e = one_forest ps (columns_over us b.arrays 0) (e ∙ sym (columns_forest us b.arrays 0))

pub columns_fit : (us : Lists) (b : Batch) (height : ℕ) (schema : List Keyed) (ps : List Parts) → batch_fault b ≡ None → height ≡ b.height → schema ≡ b.schema → ps ≡ columns_over us b.arrays 0 → batch_fault (record { height = height; schema = schema; arrays = ps; custom = [] }) ≡ None
columns_fit us b height schema ps f h s e =
    ap (λ n. batch_fault (record { height = n; schema = schema; arrays = ps; custom = [] })) h ∙ ap (λ xs. batch_fault (record { height = b.height; schema = xs; arrays = ps; custom = [] })) s
    ∙ ap (λ qs. batch_fault (record { height = b.height; schema = b.schema; arrays = qs; custom = [] })) e
    ∙ same_fault b.height b.schema (columns_over us b.arrays 0) b.arrays b.custom (over_count us b.arrays 0) (over_heights us b.height b.arrays 0) ∙ f

pub batch_is : (us : Lists) (b c : Batch) → c.height ≡ b.height → c.schema ≡ b.schema → c.arrays ≡ columns_over us b.arrays 0 → c.custom ≡ b.custom → c ≡ batch_over us b
batch_is us b c h s e m =
    ap (λ x. record { height = x; schema = c.schema; arrays = c.arrays; custom = c.custom }) h ∙ ap (λ x. record { height = b.height; schema = x; arrays = c.arrays; custom = c.custom }) s
    ∙ ap (λ x. record { height = b.height; schema = b.schema; arrays = x; custom = c.custom }) e ∙ ap (λ x. record { height = b.height; schema = b.schema; arrays = columns_over us b.arrays 0; custom = x }) m

-- ── batches over lists ──

-- what is over the lists, and what is left
pub record BatchesOver (us : Lists) (all done left : List Batch) : Type 0 where
  pub batches : done ++ map (batch_over us) left ≡ map (batch_over us) all
  pub large : batches_large us left ≡ batches_large us all
  pub may : MayGoOver us left

pub batches_begin : (us : Lists) (all done left : List Batch) → done ≡ [] → left ≡ all → MayGoOver us all → BatchesOver us all done left
batches_begin us all done left e f may = record { batches = ap (λ xs. xs ++ map (batch_over us) left) e ∙ ap (map (batch_over us)) f; large = ap (batches_large us) f; may = subst (MayGoOver us) (sym f) may }

-- what the next of them is asked, and what it says
pub record NextBatch (us : Lists) (b : Batch) (all : Bool) : Type 0 where
  pub stands : StandsInEach us (forest b.arrays) 0
  pub sound : fault_each (over_each us (forest b.arrays) 0) ≡ None
  pub large : are_large us (forest b.arrays) 0 ≡ true → all ≡ true

pub batch_next : (us ws : Lists) (all done left behind : List Batch) (b : Batch) → ws ≡ us → BatchesOver us all done left → left ≡ b ∷ behind → NextBatch ws b (batches_large us all)
batch_next us ws all done left behind b same o e =
    let may : MayGoOver us (b ∷ behind) = subst (MayGoOver us) e o.may in
    let large : (are_large us (forest b.arrays) 0 || batches_large us behind) ≡ batches_large us all = ap (batches_large us) (sym e) ∙ o.large in
    subst (λ vs. NextBatch vs b (batches_large us all)) (sym same) (record { stands = may.0; sound = may.1; large = λ t. sym large ∙ ap (λ x. x || batches_large us behind) t })

pub batches_more : (us ws : Lists) (all done left behind new : List Batch) (b c : Batch) → ws ≡ us → BatchesOver us all done left → left ≡ b ∷ behind → c ≡ batch_over ws b → are_large ws (forest b.arrays) 0 ≡ false → new ≡ done ++ c ∷ [] → BatchesOver us all new behind
batches_more us ws all done left behind new b c same o e is small grown =
    let may : MayGoOver us (b ∷ behind) = subst (MayGoOver us) e o.may in
    let large : (are_large us (forest b.arrays) 0 || batches_large us behind) ≡ batches_large us all = ap (batches_large us) (sym e) ∙ o.large in
    let none_large : are_large us (forest b.arrays) 0 ≡ false = ap (λ vs. are_large vs (forest b.arrays) 0) (sym same) ∙ small in
    let own : c ≡ batch_over us b = is ∙ ap (λ vs. batch_over vs b) same in
    let rest = map (batch_over us) behind in
    record {
      batches = ap (λ xs. xs ++ rest) grown ∙ append_assoc done (c ∷ []) rest ∙ ap (λ x. done ++ x ∷ rest) own ∙ ap (λ xs. done ++ map (batch_over us) xs) (sym e) ∙ o.batches;
      large = ap (λ x. x || batches_large us behind) (sym none_large) ∙ large;
      may = may.2;
    }

pub record AllBatches (us : Lists) (all done : List Batch) : Type 0 where
  pub batches : done ≡ map (batch_over us) all
  pub large : batches_large us all ≡ false

pub batches_done : (us : Lists) (all done left : List Batch) → BatchesOver us all done left → left ≡ [] → AllBatches us all done
batches_done us all done left o e = record {
  batches = sym (append-nil done) ∙ ap (λ xs. done ++ map (batch_over us) xs) (sym e) ∙ o.batches;
  large = sym o.large ∙ ap (batches_large us) e;
}
