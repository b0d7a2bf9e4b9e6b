-- Lists by their numbers, one of which is written.
use Rattle.std.proofs.Common.{◌≡◌, ◌∙◌, sym, refl, ap, subst, ℕ, zero, suc, ◌+◌, ◌<◌, ◌≤◌, List, [], ◌∷◌, ◌++◌, length, get_or, set, true, false, arith, inl, inr, ◌⊎◌, ◌≢◌}
use Rattle.std.specs.Prelude.{nat_eq}
use Rattle.std.proofs.Math.Path.{fun_ext}
use Rattle.std.proofs.lemmas.Bool.Decides.{eqb_tells}
use Rattle.std.proofs.lemmas.List.{length-set}
use Rattle.std.proofs.lemmas.List.Elements.{All-get_or, All-push, All-set}
use Rattle.arrow_arrays.specs.Parts.{Forest, none}
use Rattle.laws_unify.specs.Over.{Lists}
use Rattle.laws_unify.specs.United.{put}
use Rattle.dictionary_places.specs.Lists.{IsKept, parts_in}
use Rattle.dictionary_places.specs.declared.list.DictionaryList.{DictionaryList}
use Rattle.ipc_unify.specs.Steps.{AreKept, Same, lists_of}

-- a list without parts more
pub lists_more : (ls : List DictionaryList) (l : DictionaryList) → parts_in l ≡ none → lists_of (ls ++ l ∷ []) ≡ lists_of ls
lists_more ls l e = fun_ext (at ls l e)
  where
    at : (ls : List DictionaryList) (l : DictionaryList) → parts_in l ≡ none → (q : ℕ) → lists_of (ls ++ l ∷ []) q ≡ lists_of ls q
    at [] l e zero = e
    at [] l e (suc q) = refl
    at (x ∷ ls) l e zero = refl
    at (x ∷ ls) l e (suc q) = at ls l e q

-- the list of a number
pub list_at : (ls : List DictionaryList) (i : ℕ) (l : DictionaryList) → i < length ls → l ≡ get_or ls i l → parts_in l ≡ lists_of ls i
list_at [] i l h e = absurd (omega (arith, h))
list_at (x ∷ ls) zero l h e = ap parts_in e
list_at (x ∷ ls) (suc i) l h e = list_at ls i l (omega (arith, h)) e

pub no_list : (ls : List DictionaryList) (i : ℕ) → length ls ≤ i → lists_of ls i ≡ none
no_list [] i h = refl
no_list (x ∷ ls) zero h = absurd (omega (arith, h))
no_list (x ∷ ls) (suc i) h = no_list ls i (omega (arith, h))

-- a list that was written
set_there : (ls : List DictionaryList) (i : ℕ) (l : DictionaryList) → i < length ls → lists_of (set ls i l) i ≡ parts_in l
set_there [] i l h = absurd (omega (arith, h))
set_there (x ∷ ls) zero l h = refl
set_there (x ∷ ls) (suc i) l h = set_there ls i l (omega (arith, h))

set_elsewhere : (ls : List DictionaryList) (i q : ℕ) (l : DictionaryList) → i ≢ q → lists_of (set ls i l) q ≡ lists_of ls q
set_elsewhere [] i q l h = refl
set_elsewhere (x ∷ ls) zero zero l h = absurd (h refl)
set_elsewhere (x ∷ ls) zero (suc q) l h = refl
set_elsewhere (x ∷ ls) (suc i) zero l h = refl
set_elsewhere (x ∷ ls) (suc i) (suc q) l h = set_elsewhere ls i q l (λ e. h (ap suc e))

pub lists_set : (ls : List DictionaryList) (i : ℕ) (l : DictionaryList) → i < length ls → lists_of (set ls i l) ≡ put i (parts_in l) (lists_of ls)
lists_set ls i l h = fun_ext (λ q. by q (eqb_tells i q))
  where
    by : (q : ℕ) → ((nat_eq i q ≡ true) × (i ≡ q)) ⊎ ((nat_eq i q ≡ false) × (i ≢ q)) → lists_of (set ls i l) q ≡ put i (parts_in l) (lists_of ls) q
    by q (inl t) = ap (lists_of (set ls i l)) (sym t.1) ∙ set_there ls i l h ∙ sym (rw t.0 refl)
    by q (inr f) = set_elsewhere ls i q l f.1 ∙ sym (rw f.0 refl)

-- a list that was written with the parts that it had
pub lists_kept : (ls : List DictionaryList) (i : ℕ) (l : DictionaryList) → i < length ls → parts_in l ≡ lists_of ls i → lists_of (set ls i l) ≡ lists_of ls
lists_kept ls i l h e = fun_ext (λ q. by q (eqb_tells i q))
  where
    by : (q : ℕ) → ((nat_eq i q ≡ true) × (i ≡ q)) ⊎ ((nat_eq i q ≡ false) × (i ≢ q)) → lists_of (set ls i l) q ≡ lists_of ls q
    by q (inl t) = ap (lists_of (set ls i l)) (sym t.1) ∙ set_there ls i l h ∙ e ∙ ap (lists_of ls) t.1
    by q (inr f) = set_elsewhere ls i q l f.1

-- ── a list that a call writes ──

pub kept_at : (ls : List DictionaryList) (i : ℕ) (l : DictionaryList) → i < length ls → l ≡ get_or ls i l → AreKept ls → IsKept l
kept_at ls i l h e k = subst IsKept (sym e) (All-get_or IsKept ls i l h k)

pub kept_more : (ls new : List DictionaryList) (l : DictionaryList) → AreKept ls → IsKept l → new ≡ ls ++ l ∷ [] → AreKept new
kept_more ls new l k one grown = subst AreKept (sym grown) (All-push IsKept ls l k one)

pub kept_set : (ls : List DictionaryList) (i : ℕ) (l : DictionaryList) → AreKept ls → IsKept l → AreKept (set ls i l)
kept_set ls i l k one = All-set IsKept ls i l one k

-- the same parts, as they were before a call
pub same_set : (ls : List DictionaryList) (i : ℕ) (old new : DictionaryList) → i < length ls → old ≡ get_or ls i old → AreKept ls → IsKept new → parts_in new ≡ parts_in old → Same ls (set ls i new)
same_set ls i old new h e k one parts = record { count = length-set ls i new; kept = kept_set ls i new k one; lists = lists_kept ls i new h (parts ∙ list_at ls i old h e) }

pub lists_put : (ls : List DictionaryList) (i : ℕ) (l : DictionaryList) (ps : Forest) (us : Lists) → i < length ls → parts_in l ≡ ps → lists_of ls ≡ us → lists_of (set ls i l) ≡ put i ps us
lists_put ls i l ps us h own same = lists_set ls i l h ∙ ap (λ qs. put i qs (lists_of ls)) own ∙ ap (put i ps) same
