-- Steps of a walk that puts arrays over lists.
use Rattle.std.proofs.Common.{◌≡◌, ◌∙◌, sym, refl, ap, subst, ℕ, suc, ◌+◌, ◌<◌, ◌≤◌, List, [], ◌∷◌, ◌++◌, length, drop, get_or, Bool, true, false, ◌||◌, None, Result, Ok, Err, IfOk, IfErr, inl, inr, ◌⊎◌}
use Rattle.std.proofs.lemmas.List.{at_drop_all, at_drop_more}
use Rattle.std.specs.Result.{IsErrAnd}
use Rattle.arrow_spec.specs.declared.error.IpcError.{IpcError}
use Rattle.arrow_spec.specs.declared.error.IpcError.TheVariants.{Memory}
use Rattle.arrow_spec.specs.Kinds.{dictionary_count}
use Rattle.arrow_arrays.specs.Parts.{Forest, Parts, also, nested, none, fault_each, fault_in, kind_in, kinds_each, rows_each}
use Rattle.arrow_arrays.specs.Heads.{Head, head_fault}
use Rattle.arrow_arrays.specs.PartsOf.{forest_of, only, parts_of}
use Rattle.arrow_arrays.specs.declared.array.Array.{Array}
use Rattle.arrow_arrays.specs.declared.array.Array.TheVariants as arrays
use Rattle.arrow_arrays.specs.declared.array.DictionaryArray.{DictionaryArray}
use Rattle.arrow_arrays.specs.declared.array.FixedSizeListArray.{FixedSizeListArray}
use Rattle.arrow_arrays.specs.declared.array.ListArray.{ListArray}
use Rattle.arrow_arrays.specs.declared.array.MapArray.{MapArray}
use Rattle.arrow_arrays.specs.declared.array.StructArray.{StructArray}
use Rattle.arrow_arrays.specs.declared.array.UnionArray.{UnionArray}
use Rattle.arrow_arrays.proofs.Sliced.{neither}
use Rattle.laws_unify.specs.Over.{Lists, are_large, is_large, over, over_each, over_parts, parts_large}
use Rattle.laws_unify.specs.Stands.{StandInParts, StandsIn, StandsInEach}
use Rattle.laws_unify.specs.United.{behind}
use Rattle.laws_unify.proofs.Goes.{behind-behind, behind-none}
use Rattle.dictionary_places.specs.declared.list.DictionaryList.{DictionaryList}
use Rattle.ipc_unify.specs.Steps.{AreKept, IsRefused, Same, lists_of}

-- ── refusals ──

pub refused_as : (a b : Bool) (e : IpcError) → (a ≡ true → b ≡ true) → IsRefused a e → IsRefused b e
refused_as a b e h (inl m) = inl m
refused_as a b e h (inr n) = inr (n.0, h n.1)

pub refusal_as : {A : Type 0} (r : Result A IpcError) (a b : Bool) → (a ≡ true → b ≡ true) → IfErr r (IsRefused a) → IfErr r (IsRefused b)
refusal_as (Ok x) a b h i = tt
refusal_as (Err x) a b h i = refused_as a b x h i

pub refused_by : {A : Type 0} (r : Result A IpcError) (e : IpcError) (a b : Bool) → IsErrAnd r (λ f. f ≡ e) → (a ≡ true → b ≡ true) → IsRefused a e → IfErr r (IsRefused b)
refused_by (Ok x) e a b h k i = tt
refused_by (Err f) e a b h k i = refused_as a b f k (subst (IsRefused a) (sym h) i)

pub refused_memory : {A : Type 0} (r : Result A IpcError) (b : Bool) → IfErr r (λ e. e ≡ Memory) → IfErr r (IsRefused b)
refused_memory (Ok x) b h = tt
refused_memory (Err e) b h = inl h

pub parts_as : {E : Type 0} (r : Result Array E) (p q : Parts) → p ≡ q → IfOk r (λ a. parts_of a ≡ p) → IfOk r (λ a. parts_of a ≡ q)
parts_as (Ok a) p q e h = h ∙ e
parts_as (Err x) p q e h = tt

pub ok_with : {A E : Type 0} (P : Type 0) (r : Result A E) → P → IfOk r (λ _. P)
ok_with P (Ok a) p = p
ok_with P (Err e) p = tt

pub fits_as : {A E : Type 0} (r : Result A E) (b : Bool) → b ≡ false → IfOk r (λ _. b ≡ false)
fits_as (Ok a) b h = h
fits_as (Err x) b h = tt

or_false : (b : Bool) → (b || false) ≡ b
or_false true = refl
or_false false = refl

-- ── the lists stay ──

pub same_itself : (ls : List DictionaryList) → AreKept ls → Same ls ls
same_itself ls k = record { count = refl; kept = k; lists = refl }

pub same_through : (a b c : List DictionaryList) → Same a b → Same b c → Same a c
same_through a b c s t = record { count = t.count ∙ s.count; kept = t.kept; lists = t.lists ∙ s.lists }

-- ── arrays behind one another ──

more_forest : (xs : List Array) (y : Array) → forest_of (xs ++ y ∷ []) ≡ behind (forest_of xs) (also (parts_of y) none)
more_forest [] y = refl
more_forest (x ∷ xs) y = ap (also (parts_of x)) (more_forest xs y)

-- an array that is put behind others
put_behind : (done new : List Array) (y : Array) (p : Parts) (ps : Forest) → new ≡ done ++ y ∷ [] → parts_of y ≡ p → behind (forest_of new) ps ≡ behind (forest_of done) (also p ps)
put_behind done new y p ps grown e =
    ap (λ ys. behind (forest_of ys) ps) grown ∙ ap (λ qs. behind qs ps) (more_forest done y) ∙ behind-behind (forest_of done) (also (parts_of y) none) ps ∙ ap (λ q. behind (forest_of done) (also q ps)) e

opened : (xs : List Array) (i : ℕ) (x : Array) → i < length xs → x ≡ get_or xs i x → forest_of (drop i xs) ≡ also (parts_of x) (forest_of (drop (i + 1) xs))
opened xs i x h e = at_drop_more forest_of xs i x h ∙ ap (λ y. also (parts_of y) (forest_of (drop (i + 1) xs))) (sym e)

closed : (xs : List Array) (i : ℕ) → length xs ≤ i → forest_of (drop i xs) ≡ none
closed xs i h = at_drop_all forest_of xs i h

-- what is over the lists, and what is left
pub record ArraysOver (us : Lists) (xs : List Array) (number : ℕ) (done : List Array) (i next : ℕ) : Type 0 where
  pub parts : behind (forest_of done) (over_each us (forest_of (drop i xs)) next) ≡ over_each us (forest_of xs) number
  pub large : are_large us (forest_of (drop i xs)) next ≡ are_large us (forest_of xs) number
  pub stands : StandsInEach us (forest_of (drop i xs)) next
  pub sound : fault_each (over_each us (forest_of (drop i xs)) next) ≡ None

pub arrays_begin : (us : Lists) (xs done : List Array) (number : ℕ) → done ≡ [] → StandsInEach us (forest_of xs) number → fault_each (over_each us (forest_of xs) number) ≡ None → ArraysOver us xs number done 0 number
arrays_begin us xs done number e s f = record { parts = ap (λ ys. behind (forest_of ys) (over_each us (forest_of xs) number)) e; large = refl; stands = s; sound = f }

-- what the next of them is asked, and what it says
pub record NextOver (us : Lists) (p : Parts) (id : ℕ) (all : Bool) : Type 0 where
  pub stands : StandsIn us p id
  pub sound : fault_in (over us p id) ≡ None
  pub large : is_large us p id ≡ true → all ≡ true

pub array_next : (us ws : Lists) (xs done : List Array) (number i next : ℕ) (x : Array) → ws ≡ us → ArraysOver us xs number done i next → i < length xs → x ≡ get_or xs i x → NextOver ws (parts_of x) next (are_large us (forest_of xs) number)
array_next us ws xs done number i next x same a h e =
    let here = opened xs i x h e in
    let after = next + dictionary_count (kind_in (parts_of x)) in
    let others = forest_of (drop (i + 1) xs) in
    let s : StandsInEach us (also (parts_of x) others) next = subst (λ ps. StandsInEach us ps next) here a.stands in
    let f : fault_each (also (over us (parts_of x) next) (over_each us others after)) ≡ None = ap (λ ps. fault_each (over_each us ps next)) (sym here) ∙ a.sound in
    let all : (is_large us (parts_of x) next || are_large us others after) ≡ are_large us (forest_of xs) number = ap (λ ps. are_large us ps next) (sym here) ∙ a.large in
    subst (λ vs. NextOver vs (parts_of x) next (are_large us (forest_of xs) number)) (sym same) (record {
      stands = s.0;
      sound = (neither (fault_in (over us (parts_of x) next)) (fault_each (over_each us others after)) f).0;
      large = λ t. sym all ∙ ap (λ b. b || are_large us others after) t;
    })

pub arrays_more : (us ws : Lists) (xs done new : List Array) (number i next after : ℕ) (x y : Array) → ws ≡ us → ArraysOver us xs number done i next → i < length xs → x ≡ get_or xs i x → parts_of y ≡ over ws (parts_of x) next → is_large ws (parts_of x) next ≡ false
    → new ≡ done ++ y ∷ [] → after ≡ next + dictionary_count (kind_in (parts_of x)) → ArraysOver us xs number new (i + 1) after
arrays_more us ws xs done new number i next after x y same a h e is small grown count =
    let here = opened xs i x h e in
    let behind_it = next + dictionary_count (kind_in (parts_of x)) in
    let others = forest_of (drop (i + 1) xs) in
    let s : StandsInEach us (also (parts_of x) others) next = subst (λ ps. StandsInEach us ps next) here a.stands in
    let f : fault_each (also (over us (parts_of x) next) (over_each us others behind_it)) ≡ None = ap (λ ps. fault_each (over_each us ps next)) (sym here) ∙ a.sound in
    let all : (is_large us (parts_of x) next || are_large us others behind_it) ≡ are_large us (forest_of xs) number = ap (λ ps. are_large us ps next) (sym here) ∙ a.large in
    let own : parts_of y ≡ over us (parts_of x) next = is ∙ ap (λ vs. over vs (parts_of x) next) same in
    let none_large : is_large us (parts_of x) next ≡ false = ap (λ vs. is_large vs (parts_of x) next) (sym same) ∙ small in
    subst (λ n. ArraysOver us xs number new (i + 1) n) (sym count) (record {
      parts = put_behind done new y (over us (parts_of x) next) (over_each us others behind_it) grown own ∙ ap (λ ps. behind (forest_of done) (over_each us ps next)) (sym here) ∙ a.parts;
      large = ap (λ b. b || are_large us others behind_it) (sym none_large) ∙ all;
      stands = s.1;
      sound = (neither (fault_in (over us (parts_of x) next)) (fault_each (over_each us others behind_it)) f).1;
    })

pub record AllOver (us : Lists) (xs : List Array) (number : ℕ) (done : List Array) : Type 0 where
  pub parts : forest_of done ≡ over_each us (forest_of xs) number
  pub large : are_large us (forest_of xs) number ≡ false

pub arrays_done : (us : Lists) (xs done : List Array) (number i next : ℕ) → ArraysOver us xs number done i next → length xs ≤ i → AllOver us xs number done
arrays_done us xs done number i next a h =
    let end = closed xs i h in
    record {
      parts = sym (behind-none (forest_of done)) ∙ ap (λ ps. behind (forest_of done) (over_each us ps next)) (sym end) ∙ a.parts;
      large = sym a.large ∙ ap (λ ps. are_large us ps next) end;
    }

-- ── parts of one dictionary ──

pub record PartsOver (us : Lists) (xs : List Array) (number : ℕ) (done : List Array) (i : ℕ) : Type 0 where
  pub parts : behind (forest_of done) (over_parts us (forest_of (drop i xs)) number) ≡ over_parts us (forest_of xs) number
  pub large : parts_large us (forest_of (drop i xs)) number ≡ parts_large us (forest_of xs) number
  pub stands : StandInParts us (forest_of (drop i xs)) number
  pub sound : fault_each (over_parts us (forest_of (drop i xs)) number) ≡ None

pub parts_begin : (us : Lists) (xs done : List Array) (number : ℕ) → done ≡ [] → StandInParts us (forest_of xs) number → fault_each (over_parts us (forest_of xs) number) ≡ None → PartsOver us xs number done 0
parts_begin us xs done number e s f = record { parts = ap (λ ys. behind (forest_of ys) (over_parts us (forest_of xs) number)) e; large = refl; stands = s; sound = f }

pub part_next : (us ws : Lists) (xs done : List Array) (number i : ℕ) (x : Array) → ws ≡ us → PartsOver us xs number done i → i < length xs → x ≡ get_or xs i x → NextOver ws (parts_of x) number (parts_large us (forest_of xs) number)
part_next us ws xs done number i x same a h e =
    let here = opened xs i x h e in
    let others = forest_of (drop (i + 1) xs) in
    let s : StandInParts us (also (parts_of x) others) number = subst (λ ps. StandInParts us ps number) here a.stands in
    let f : fault_each (also (over us (parts_of x) number) (over_parts us others number)) ≡ None = ap (λ ps. fault_each (over_parts us ps number)) (sym here) ∙ a.sound in
    let all : (is_large us (parts_of x) number || parts_large us others number) ≡ parts_large us (forest_of xs) number = ap (λ ps. parts_large us ps number) (sym here) ∙ a.large in
    subst (λ vs. NextOver vs (parts_of x) number (parts_large us (forest_of xs) number)) (sym same) (record {
      stands = s.0;
      sound = (neither (fault_in (over us (parts_of x) number)) (fault_each (over_parts us others number)) f).0;
      large = λ t. sym all ∙ ap (λ b. b || parts_large us others number) t;
    })

pub parts_more : (us ws : Lists) (xs done new : List Array) (number i : ℕ) (x y : Array) → ws ≡ us → PartsOver us xs number done i → i < length xs → x ≡ get_or xs i x → parts_of y ≡ over ws (parts_of x) number → is_large ws (parts_of x) number ≡ false
    → new ≡ done ++ y ∷ [] → PartsOver us xs number new (i + 1)
parts_more us ws xs done new number i x y same a h e is small grown =
    let here = opened xs i x h e in
    let others = forest_of (drop (i + 1) xs) in
    let s : StandInParts us (also (parts_of x) others) number = subst (λ ps. StandInParts us ps number) here a.stands in
    let f : fault_each (also (over us (parts_of x) number) (over_parts us others number)) ≡ None = ap (λ ps. fault_each (over_parts us ps number)) (sym here) ∙ a.sound in
    let all : (is_large us (parts_of x) number || parts_large us others number) ≡ parts_large us (forest_of xs) number = ap (λ ps. parts_large us ps number) (sym here) ∙ a.large in
    let own : parts_of y ≡ over us (parts_of x) number = is ∙ ap (λ vs. over vs (parts_of x) number) same in
    let none_large : is_large us (parts_of x) number ≡ false = ap (λ vs. is_large vs (parts_of x) number) (sym same) ∙ small in
    record {
      parts = put_behind done new y (over us (parts_of x) number) (over_parts us others number) grown own ∙ ap (λ ps. behind (forest_of done) (over_parts us ps number)) (sym here) ∙ a.parts;
      large = ap (λ b. b || parts_large us others number) (sym none_large) ∙ all;
      stands = s.1;
      sound = (neither (fault_in (over us (parts_of x) number)) (fault_each (over_parts us others number)) f).1;
    }

pub record AllPartsOver (us : Lists) (xs : List Array) (number : ℕ) (done : List Array) : Type 0 where
  pub parts : forest_of done ≡ over_parts us (forest_of xs) number
  pub large : parts_large us (forest_of xs) number ≡ false

pub parts_done : (us : Lists) (xs done : List Array) (number i : ℕ) → PartsOver us xs number done i → length xs ≤ i → AllPartsOver us xs number done
parts_done us xs done number i a h =
    let end = closed xs i h in
    record {
      parts = sym (behind-none (forest_of done)) ∙ ap (λ ps. behind (forest_of done) (over_parts us ps number)) (sym end) ∙ a.parts;
      large = sym a.large ∙ ap (λ ps. parts_large us ps number) end;
    }

-- ── arrays that stand under a top ──

-- what they are asked, and what comes of them
pub record UnderTop (us : Lists) (h : Head) (a : Array) (vs : List Array) (id : ℕ) : Type 0 where
  pub stands : StandsInEach us (forest_of vs) id
  pub sound : fault_each (over_each us (forest_of vs) id) ≡ None
  pub large : are_large us (forest_of vs) id ≡ is_large us (parts_of a) id
  pub new_sound : (ws : List Array) → forest_of ws ≡ over_each us (forest_of vs) id → fault_in (nested h (forest_of ws)) ≡ None
  pub new_parts : (ws : List Array) → forest_of ws ≡ over_each us (forest_of vs) id → nested h (forest_of ws) ≡ over us (parts_of a) id

pub under_top : (us : Lists) (h : Head) (a : Array) (cs : Forest) (vs : List Array) (id : ℕ) → parts_of a ≡ nested h cs → forest_of vs ≡ cs → (StandsIn us (nested h cs) id → StandsInEach us cs id) → nested h (over_each us cs id) ≡ over us (nested h cs) id → are_large us cs id ≡ is_large us (nested h cs) id
    → StandsIn us (parts_of a) id → fault_in (over us (parts_of a) id) ≡ None → UnderTop us h a vs id
under_top us h a cs vs id top e below opens large s f =
    let whole : fault_in (nested h (over_each us cs id)) ≡ None = ap fault_in opens ∙ ap (λ p. fault_in (over us p id)) (sym top) ∙ f in
    let each = (neither (head_fault h (kinds_each (over_each us cs id)) (rows_each (over_each us cs id))) (fault_each (over_each us cs id)) whole).1 in
    record {
      stands = subst (λ ps. StandsInEach us ps id) (sym e) (below (subst (λ p. StandsIn us p id) top s));
      sound = ap (λ ps. fault_each (over_each us ps id)) e ∙ each;
      large = ap (λ ps. are_large us ps id) e ∙ large ∙ ap (λ p. is_large us p id) (sym top);
      new_sound = λ ws is. ap (λ ps. fault_in (nested h ps)) (is ∙ ap (λ ps. over_each us ps id) e) ∙ whole;
      new_parts = λ ws is. ap (nested h) (is ∙ ap (λ ps. over_each us ps id) e) ∙ opens ∙ ap (λ p. over us p id) (sym top);
    }

-- one array alone
pub record OneUnderTop (us : Lists) (h : Head) (a v : Array) (id : ℕ) : Type 0 where
  pub stands : StandsIn us (parts_of v) id
  pub sound : fault_in (over us (parts_of v) id) ≡ None
  pub large : is_large us (parts_of v) id ≡ is_large us (parts_of a) id
  pub new_sound : (w : Array) → parts_of w ≡ over us (parts_of v) id → fault_in (nested h (only w)) ≡ None
  pub new_parts : (w : Array) → parts_of w ≡ over us (parts_of v) id → nested h (only w) ≡ over us (parts_of a) id

pub one_under_top : (us : Lists) (h : Head) (a : Array) (cs : Forest) (v : Array) (id : ℕ) → parts_of a ≡ nested h cs → only v ≡ cs → (StandsIn us (nested h cs) id → StandsInEach us cs id) → nested h (over_each us cs id) ≡ over us (nested h cs) id → are_large us cs id ≡ is_large us (nested h cs) id
    → StandsIn us (parts_of a) id → fault_in (over us (parts_of a) id) ≡ None → OneUnderTop us h a v id
one_under_top us h a cs v id top e below opens large s f =
    let u = under_top us h a cs (v ∷ []) id top e below opens large s f in
    record {
      stands = u.stands.0;
      sound = (neither (fault_in (over us (parts_of v) id)) None u.sound).0;
      large = sym (or_false (is_large us (parts_of v) id)) ∙ u.large;
      new_sound = λ w is. u.new_sound (w ∷ []) (ap (λ p. also p none) is);
      new_parts = λ w is. u.new_parts (w ∷ []) (ap (λ p. also p none) is);
    }

-- an array in which no arrays stand
pub record IsLeaf (us : Lists) (a : Array) (id : ℕ) : Type 0 where
  pub parts : parts_of a ≡ over us (parts_of a) id
  pub small : is_large us (parts_of a) id ≡ false

pub is_leaf : (us : Lists) (a : Array) (id : ℕ) → ((x : ListArray) → a ≡ arrays.List x → ⊥) → ((x : FixedSizeListArray) → a ≡ arrays.FixedSizeList x → ⊥) → ((x : MapArray) → a ≡ arrays.Map x → ⊥) → ((x : StructArray) → a ≡ arrays.Struct x → ⊥)
    → ((x : UnionArray) → a ≡ arrays.Union x → ⊥) → ((x : DictionaryArray) → a ≡ arrays.Dictionary x → ⊥) → IsLeaf us a id
is_leaf us (arrays.List x) id f g h i j k = absurd (f x refl)
is_leaf us (arrays.FixedSizeList x) id f g h i j k = absurd (g x refl)
is_leaf us (arrays.Map x) id f g h i j k = absurd (h x refl)
is_leaf us (arrays.Struct x) id f g h i j k = absurd (i x refl)
is_leaf us (arrays.Union x) id f g h i j k = absurd (j x refl)
is_leaf us (arrays.Dictionary x) id f g h i j k = absurd (k x refl)
is_leaf us a id f g h i j k = record { parts = refl; small = refl }
