-- Steps of finishing lists, the last one first.
use Rattle.std.proofs.Common.{◌≡◌, ◌∙◌, sym, refl, ap, subst, ℕ, zero, suc, ◌+◌, ◌-◌, ◌<◌, ◌≤◌, List, [], ◌∷◌, ◌++◌, length, drop, get_or, map, Bool, true, false, ◌||◌, Some, None, slice_get, Result, Ok, Err, IfOk, Global, arith}
use Rattle.std.proofs.lemmas.List.{drop_all}
use Rattle.std.specs.declared.vec.Vec.{Vec}
use Rattle.arrow_spec.specs.Arrays.{from_on}
use Rattle.arrow_spec.specs.Kinds.{Kind}
use Rattle.arrow_types.specs.KindOf.{kind_of}
use Rattle.arrow_types.specs.declared.data_type.ArrowDataType.{ArrowDataType}
use Rattle.arrow_arrays.specs.EmptyParts.{empty_parts}
use Rattle.arrow_arrays.specs.Parts.{Forest, Parts, also, none, fault_each, forest, rows_each, rows_in}
use Rattle.arrow_arrays.specs.PartsOf.{all_parts_of, forest_of, parts_of}
use Rattle.arrow_arrays.specs.declared.array.Array.{Array}
use Rattle.arrow_arrays.proofs.EmptyParts.{rows-empty}
use Rattle.laws_unify.specs.Over.{Lists, over, over_parts, parts_large}
use Rattle.laws_unify.specs.Stands.{StandInParts}
use Rattle.laws_unify.specs.United.{finished, lists_large, put, some_part}
use Rattle.laws_unify.proofs.Finished.{parts_large_same, same_finished, untouched}
use Rattle.laws_unify.proofs.Over.{over_keeps_kinds_and_rows}
use Rattle.laws_unify.proofs.Sound.{parts_rows}
use Rattle.dictionary_places.specs.Lists.{parts_in}
use Rattle.dictionary_places.specs.Places.{place, places_from}
use Rattle.dictionary_places.specs.declared.list.DictionaryList.{DictionaryList}
use Rattle.ipc_unify.specs.Steps.{MayFinish, MayFinishAll, lists_of}
use Rattle.ipc_unify.proofs.ListSteps.{list_at}

-- ── the rows of a list whose parts are others ──

same_places : (k : ℕ) (xs ys : List Array) → rows_each (forest_of xs) ≡ rows_each (forest_of ys) → places_from k xs ≡ places_from k ys
same_places k [] [] e = refl
same_places k [] (y ∷ ys) e = cc
same_places k (x ∷ xs) [] e = cc
same_places k (x ∷ xs) (y ∷ ys) e =
    let own : rows_in (parts_of x) ≡ rows_in (parts_of y) = cc in
    let others : rows_each (forest_of xs) ≡ rows_each (forest_of ys) = cc in
    ap (λ n. from_on (place k) 0 n ++ places_from (suc k) xs) own ∙ ap (λ zs. from_on (place k) 0 (rows_in (parts_of y)) ++ zs) (same_places (suc k) xs ys others)

no_places : (k : ℕ) (xs : List Array) → rows_each (forest_of xs) ≡ 0 ∷ [] → places_from k xs ≡ []
no_places k [] e = refl
no_places k (x ∷ []) e = let own : rows_in (parts_of x) ≡ 0 = cc in ap (λ n. from_on (place k) 0 n ++ []) own
no_places k (x ∷ y ∷ xs) e = cc

pub filled_places : (us : Lists) (k : Kind) (id : ℕ) (old new : List Array) → forest_of new ≡ over_parts us (some_part k (forest_of old)) id → places_from 0 new ≡ places_from 0 old
filled_places us k id [] new e =
    let own : rows_in (over us (empty_parts k) id) ≡ 0 = (over_keeps_kinds_and_rows us (empty_parts k) id).1 ∙ rows-empty k k in
    no_places 0 new (ap rows_each e ∙ ap (λ n. n ∷ []) own)
filled_places us k id (x ∷ old) new e = same_places 0 new (x ∷ old) (ap rows_each e ∙ parts_rows us (forest_of (x ∷ old)) id)

-- ── one list more ──

opened : {A : Type 0} (xs : List A) (i : ℕ) (x : A) → slice_get xs i ≡ Some x → drop i xs ≡ x ∷ drop (suc i) xs
opened [] i x e = cc
opened (y ∷ ys) zero x e = let own : y ≡ x = cc in ap (λ z. z ∷ ys) own
opened (y ∷ ys) (suc i) x e = opened ys i x e

-- before the first step
pub none_finished : (ks : List Kind) (m : ℕ) (raw : Lists) → m ≡ length ks → raw ≡ finished (drop m ks) m raw
none_finished ks m raw e = ap (λ rest. finished rest m raw) (sym (drop_all m ks (omega (arith, e))))

pub none_large : (us : Lists) (ks : List Kind) (m : ℕ) (raw : Lists) → m ≡ length ks → lists_large us (drop m ks) m raw ≡ false
none_large us ks m raw e = ap (λ rest. lists_large us rest m raw) (drop_all m ks (omega (arith, e)))

-- a list that is too large is one of all
some_large : (us raw : Lists) (ks : List Kind) (id p : ℕ) (k : Kind) → slice_get ks p ≡ Some k → parts_large us (some_part k (raw (id + p))) (suc (id + p)) ≡ true → lists_large us ks id raw ≡ true
some_large us raw [] id p k e h = cc
some_large us raw (l ∷ ks) id zero k e h =
    let own : l ≡ k = cc in
    let here : id + 0 ≡ id = omega arith in
    let first : parts_large us (some_part l (raw id)) (suc id) ≡ true = ap (λ j. parts_large us (some_part j (raw id)) (suc id)) own ∙ ap (λ n. parts_large us (some_part k (raw n)) (suc n)) (sym here) ∙ h in
    ap (λ b. b || lists_large us ks (suc id) raw) first
some_large us raw (l ∷ ks) id (suc p) k e h =
    let there : suc id + p ≡ id + suc p = omega arith in
    let others = some_large us raw ks (suc id) p k e (ap (λ n. parts_large us (some_part k (raw n)) (suc n)) there ∙ h) in
    ap (λ b. parts_large us (some_part l (raw id)) (suc id) || b) others ∙ or_true (parts_large us (some_part l (raw id)) (suc id))
  where
    or_true : (b : Bool) → (b || true) ≡ true
    or_true true = refl
    or_true false = refl

-- the step of a number over the lists behind it
pub record NextFinished (ks : List Kind) (raw ws : Lists) (q : ℕ) (k : Kind) : Type 0 where
  pub lists : put q (over_parts ws (some_part k (ws q)) (suc q)) ws ≡ finished (drop q ks) q raw
  pub small : lists_large (finished ks 0 raw) (drop (suc q) ks) (suc q) raw ≡ false → parts_large ws (some_part k (ws q)) (suc q) ≡ false → lists_large (finished ks 0 raw) (drop q ks) q raw ≡ false
  pub large : parts_large ws (some_part k (ws q)) (suc q) ≡ true → lists_large (finished ks 0 raw) ks 0 raw ≡ true

next_at : (ks : List Kind) (raw : Lists) (q : ℕ) (k : Kind) → slice_get ks q ≡ Some k → NextFinished ks raw (finished (drop (suc q) ks) (suc q) raw) q k
next_at ks raw q k at =
    let ws = finished (drop (suc q) ks) (suc q) raw in
    let whole = finished ks 0 raw in
    let own : ws q ≡ raw q = untouched (drop (suc q) ks) (suc q) q raw (omega arith) in
    let here = opened ks q k at in
    let same = parts_large_same ws whole (some_part k (ws q)) (suc q) (λ r le. (let zero_on : 0 + suc q ≡ suc q = omega arith in
    ap (λ n. finished (drop (suc q) ks) n raw r) (sym zero_on) ∙ same_finished ks 0 (suc q) raw r (omega (arith, le)))) in
    let part : parts_large ws (some_part k (ws q)) (suc q) ≡ parts_large whole (some_part k (raw q)) (suc q) = same ∙ ap (λ ps. parts_large whole (some_part k ps) (suc q)) own in
    record {
      lists = ap (λ ps. put q (over_parts ws (some_part k ps) (suc q)) ws) own ∙ ap (λ rest. finished rest q raw) (sym here);
      small = λ others small.
          ap (λ rest. lists_large whole rest q raw) here ∙ ap (λ b. b || lists_large whole (drop (suc q) ks) (suc q) raw) (sym part ∙ small) ∙ others;
      large = λ t. (let zero_on : 0 + q ≡ q = omega arith in
          some_large whole raw ks 0 q k at (ap (λ n. parts_large whole (some_part k (raw n)) (suc n)) zero_on ∙ sym part ∙ t));
    }

pub finish_next : (ks : List Kind) (raw ws : Lists) (q m : ℕ) (k : Kind) → slice_get ks q ≡ Some k → m ≡ suc q → ws ≡ finished (drop m ks) m raw → NextFinished ks raw ws q k
finish_next ks raw ws q m k at next e = subst (λ vs. NextFinished ks raw vs q k) (sym (e ∙ ap (λ n. finished (drop n ks) n raw) next)) (next_at ks raw q k at)

pub may_next : (ks : List Kind) (raw ws : Lists) (q m : ℕ) (k : Kind) → slice_get ks q ≡ Some k → m ≡ suc q → ws ≡ finished (drop m ks) m raw → MayFinishAll ks raw → MayFinish k ws q
may_next ks raw ws q m k at next e may = subst (λ vs. MayFinish k vs q) (sym (e ∙ ap (λ n. finished (drop n ks) n raw) next)) (may q k at)

-- ── one list ──

pub none_filled : (k : Kind) (xs : List Array) → length xs ≡ 0 → also (empty_parts k) none ≡ some_part k (forest_of xs)
none_filled k [] e = refl
none_filled k (x ∷ xs) e = cc

pub some_filled : (k : Kind) (xs : List Array) → 0 < length xs → forest_of xs ≡ some_part k (forest_of xs)
some_filled k [] h = absurd (omega (arith, h))
some_filled k (x ∷ xs) h = refl

-- what is said of a list by its number
pub said_of : {X : Type 0} (F : Lists → Forest → ℕ → X) (us mid : Lists) (k : Kind) (number inner : ℕ) (ps : Forest) → mid ≡ us → ps ≡ some_part k (us number) → inner ≡ suc number → F mid ps inner ≡ F us (some_part k (us number)) (suc number)
said_of F us mid k number inner ps a b c = ap (λ ws. F ws ps inner) a ∙ ap (λ qs. F us qs inner) b ∙ ap (F us (some_part k (us number))) c

pub stands_of : (us mid : Lists) (k : Kind) (number inner : ℕ) (ps : Forest) → mid ≡ us → ps ≡ some_part k (us number) → inner ≡ suc number → MayFinish k us number → StandInParts mid ps inner
stands_of us mid k number inner ps a b c may = subst (λ ws. StandInParts ws ps inner) (sym a) (subst (λ qs. StandInParts us qs inner) (sym b) (subst (StandInParts us (some_part k (us number))) (sym c) may.stands))

pub sound_of : (us mid : Lists) (k : Kind) (number inner : ℕ) (ps : Forest) → mid ≡ us → ps ≡ some_part k (us number) → inner ≡ suc number → MayFinish k us number → fault_each (over_parts mid ps inner) ≡ None
sound_of us mid k number inner ps a b c may = said_of (λ ws qs i. fault_each (over_parts ws qs i)) us mid k number inner ps a b c ∙ may.sound

-- the kind of a type in its place
pub kind_there : (ts : List ArrowDataType) (i : ℕ) (t : ArrowDataType) → i < length ts → t ≡ get_or ts i t → slice_get (map kind_of ts) i ≡ Some (kind_of t)
kind_there [] i t h e = absurd (omega (arith, h))
kind_there (x ∷ ts) zero t h e = ap (λ y. Some (kind_of y)) (sym e)
kind_there (x ∷ ts) (suc i) t h e = kind_there ts i t (omega (arith, h)) e

pub forest_as : {E : Type 0} (r : Result (Vec Array Global) E) (xs : List Array) (ps : Forest) → forest_of xs ≡ ps → IfOk r (λ v. all_parts_of v.items ≡ all_parts_of xs) → IfOk r (λ v. forest_of v.items ≡ ps)
forest_as (Ok v) xs ps e h = ap forest h ∙ e
forest_as (Err x) xs ps e h = tt

-- the parts of a list that is there, as they are put over the lists
pub record Fills (us mid : Lists) (k : Kind) (number inner : ℕ) (ps : Forest) : Type 0 where
  pub same : mid ≡ us
  pub filled : ps ≡ some_part k (us number)
  pub next : inner ≡ suc number

pub fills : (us : Lists) (mid : List DictionaryList) (k : Kind) (number inner : ℕ) (l : DictionaryList) (xs ys zs : List Array) → lists_of mid ≡ us → number < length mid → l ≡ get_or mid number l → forest_of xs ≡ parts_in l → forest_of ys ≡ some_part k (forest_of xs) → zs ≡ ys → inner ≡ suc number
    → Fills us (lists_of mid) k number inner (forest_of zs)
fills us mid k number inner l xs ys zs same there is parts filled slice next =
    record { same = same; filled = ap forest_of slice ∙ filled ∙ ap (some_part k) (parts ∙ list_at mid number l there is ∙ ap (λ ws. ws number) same); next = next }

-- what is put over the lists, and what is said of its keys
pub record Put (us mid : Lists) (k : Kind) (number inner : ℕ) (ps : Forest) : Type 0 where
  pub stands : StandInParts mid ps inner
  pub sound : fault_each (over_parts mid ps inner) ≡ None
  pub parts : over_parts mid ps inner ≡ over_parts us (some_part k (us number)) (suc number)
  pub large : parts_large mid ps inner ≡ parts_large us (some_part k (us number)) (suc number)

pub puts : (us mid : Lists) (k : Kind) (number inner : ℕ) (ps : Forest) → Fills us mid k number inner ps → MayFinish k us number → Put us mid k number inner ps
puts us mid k number inner ps f may = record {
  stands = stands_of us mid k number inner ps f.same f.filled f.next may;
  sound = sound_of us mid k number inner ps f.same f.filled f.next may;
  parts = said_of over_parts us mid k number inner ps f.same f.filled f.next;
  large = said_of parts_large us mid k number inner ps f.same f.filled f.next;
}

-- the rows of the list are those that it had
pub places_stay : (us : Lists) (now : List DictionaryList) (k : Kind) (number : ℕ) (l : DictionaryList) (new : List Array) → lists_of now ≡ us → number < length now → l ≡ get_or now number l → forest_of new ≡ over_parts us (some_part k (us number)) (suc number) → places_from 0 new ≡ places_from 0 l.parts.items
places_stay us now k number l new same there is e =
    let own : parts_in l ≡ us number = list_at now number l there is ∙ ap (λ ws. ws number) same in
    filled_places us k (suc number) l.parts.items new (e ∙ ap (λ ps. over_parts us (some_part k ps) (suc number)) (sym own))
