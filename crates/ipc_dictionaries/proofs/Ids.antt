-- Ids that are the same, and ids that are used.
use Rattle.std.proofs.Common.{◌≡◌, ◌++◌, ◌||◌, ◌&&◌, ℤ, pos, negsuc, List, [], ◌∷◌, Bool, true, false, not, refl, sym, ap, ◌∙◌, cond}
use Rattle.std.specs.Ordering.{int_cmp, ordering_reverse, is_eq}
use Rattle.std.specs.Cmp.{int_cmp_total}
use Rattle.std.specs.declared.cmp.Ordering.{Ordering}
use Rattle.std.specs.declared.cmp.Ordering.TheVariants.{Less, Equal, Greater}
use Rattle.std.specs.BTreeMap.{is_at}
use Rattle.std.proofs.lemmas.Bool.{eqb-true, eq-eqb}
use Rattle.std.proofs.lemmas.Map.Lookups.{exact_signed}
use Rattle.arrow_spec.specs.Kinds.{same}
use Rattle.ipc_dictionaries.specs.Used.{is_among}

pub same_is : (x y : ℤ) → same x y ≡ true → x ≡ y
same_is (pos a) (pos b) h = ap pos (eqb-true a b h)
same_is (negsuc a) (negsuc b) h = ap negsuc (eqb-true a b h)
same_is (pos a) (negsuc b) h = cc
same_is (negsuc a) (pos b) h = cc

pub same_self : (x : ℤ) → same x x ≡ true
same_self (pos a) = eq-eqb a a refl
same_self (negsuc a) = eq-eqb a a refl

-- a map's order of its keys tells the same ids
unturned : (r : Ordering) → r ≡ ordering_reverse r → is_eq r ≡ true
unturned Less h = cc
unturned Equal h = refl
unturned Greater h = cc

told : (r : Ordering) → is_eq r ≡ true → r ≡ Equal
told Less h = cc
told Equal h = refl
told Greater h = cc

at_self : (x : ℤ) → is_at (int_cmp x) x ≡ true
at_self x = unturned (int_cmp x x) (int_cmp_total.antisymm x x)

one_truth : (a b : Bool) → (a ≡ true → b ≡ true) → (b ≡ true → a ≡ true) → a ≡ b
one_truth true b f g = sym (f refl)
one_truth false true f g = g refl
one_truth false false f g = refl

pub at_same : (x y : ℤ) → is_at (int_cmp x) y ≡ same x y
at_same x y = one_truth (is_at (int_cmp x) y) (same x y)
    (λ h. ap (same x) (sym (exact_signed x y (told (int_cmp x y) h))) ∙ same_self x)
    (λ h. ap (λ z. is_at (int_cmp x) z) (sym (same_is x y h)) ∙ at_self x)

pub among-append : (q : ℤ) (xs ys : List ℤ) → is_among q (xs ++ ys) ≡ (is_among q xs || is_among q ys)
among-append q [] ys = refl
among-append q (x ∷ xs) ys = by (same x q) (is_among q (xs ++ ys)) (is_among q xs) (is_among q ys) (among-append q xs ys)
  where
    by : (b r s t : Bool) → r ≡ (s || t) → (b || r) ≡ ((b || s) || t)
    by true r s t e = refl
    by false r s t e = e

-- ── truth values of what is used and what came ──

pub or_nothing : (u : Bool) → (u || false) ≡ u
or_nothing true = refl
or_nothing false = refl

-- what came, taken off, leaves what was
pub released : (u m : Bool) → (m ≡ true → u ≡ false) → ((u || m) && not m) ≡ u
released true true f = sym (f refl)
released true false f = refl
released false true f = refl
released false false f = refl

-- what came at first and then
pub both_came : (u a b : Bool) → ((u || a) || (u || b)) ≡ (u || (a || b))
both_came true a b = refl
both_came false a b = refl

pub came_more : (u a b : Bool) → ((u || a) || b) ≡ (u || (a || b))
came_more true a b = refl
came_more false a b = refl

pub none_of_both : (u a b : Bool) → (a ≡ true → u ≡ false) → (b ≡ true → (u || a) ≡ false) → (a || b) ≡ true → u ≡ false
none_of_both u true b f g h = f refl
none_of_both true false b f g h = g h
none_of_both false false b f g h = refl

-- ── ids that are taken off and put back, one by one ──

-- what a map's key tells of an id: there where it is the same
pub taken : (x q : ℤ) (u m : Bool) → (cond (is_at (int_cmp x) q) false u && not m) ≡ (u && not (same x q || m))
taken x q u m = ap (λ b. cond b false u && not m) (at_same x q) ∙ by (same x q) u m
  where
    by : (b u m : Bool) → (cond b false u && not m) ≡ (u && not (b || m))
    by true true m = refl
    by true false m = refl
    by false u m = refl

pub put : (x q : ℤ) (u m : Bool) → (cond (is_at (int_cmp x) q) true u || m) ≡ (u || (same x q || m))
put x q u m = ap (λ b. cond b true u || m) (at_same x q) ∙ by (same x q) u m
  where
    by : (b u m : Bool) → (cond b true u || m) ≡ (u || (b || m))
    by true true m = refl
    by true false m = refl
    by false u m = refl

pub put_one : (x q : ℤ) (u : Bool) → cond (is_at (int_cmp x) q) true u ≡ (u || same x q)
put_one x q u = ap (λ b. cond b true u) (at_same x q) ∙ by (same x q) u
  where
    by : (b u : Bool) → cond b true u ≡ (u || b)
    by true true = refl
    by true false = refl
    by false true = refl
    by false false = refl

-- an id that is used already
pub already : (u : ℤ → Bool) (id q : ℤ) → u id ≡ true → u q ≡ (u q || same id q)
already u id q h = by (same id q) refl
  where
    by : (b : Bool) → same id q ≡ b → u q ≡ (u q || b)
    by true e = let t : u q ≡ true = ap u (sym (same_is id q e)) ∙ h in rw t refl
    by false e = sym (or_nothing (u q))
