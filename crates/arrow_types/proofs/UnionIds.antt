-- The ids of unions, one after another.
use Rattle.std.proofs.Common.{◌≡◌, ◌≢◌, ℕ, zero, suc, ◌+◌, ◌-◌, ◌<◌, ◌≤◌, List, [], ◌∷◌, length, take, drop, get_or, Bool, true, false, not, ◌&&◌, ◌||◌, ℤ, pos, refl, sym, ◌∙◌, ap, arith, subst, le-leb, leb-true}
use Rattle.std.proofs.Common.{length-drop}
use Rattle.std.proofs.Math.Seq.{take-length}
use Rattle.std.proofs.lemmas.List.{drop_more}
use Rattle.std.specs.Prelude.{nat_eq, nat_le, nat_lt}
use Rattle.std.proofs.lemmas.Bool.{and_parts}
use Rattle.arrow_spec.specs.Kinds.{same}
use Rattle.arrow_spec.specs.Schema.{counted_ids, is_id_behind, is_id, are_ids}
use Rattle.arrow_spec.proofs.SameIds.{id_self, id_true}
use Rattle.arrow_types.specs.UnionIds.{are_right}

-- ── ids that are stated ──

pub same_when : (x y : ℤ) → x ≡ y → same x y ≡ true
same_when x y h = ap (same x) (sym h) ∙ id_self x

pub not_true : (x : Bool) → (x ≡ true → ⊥) → x ≡ false
not_true true h = absurd (h refl)
not_true false h = refl

item_front : {A : Type 0} (xs : List A) (i : ℕ) (x d : A) → i < length xs → x ≡ get_or xs i d → drop i xs ≡ x ∷ drop (i + 1) xs
item_front xs i x d h e = drop_more xs i d h ∙ ap (λ y. y ∷ drop (i + 1) xs) (sym e)

-- one of those that are left is the id
pub among_found : (xs : List ℤ) (i : ℕ) (x id : ℤ) (whole : Bool) → i < length xs → x ≡ get_or xs i x → is_id_behind (drop i xs) id ≡ whole → id ≡ x → whole ≡ true
among_found xs i x id whole h e g s = sym g ∙ ap (λ ys. is_id_behind ys id) (item_front xs i x x h e) ∙ ap (λ b. b || is_id_behind (drop (i + 1) xs) id) (same_when id x s)

pub among_next : (xs : List ℤ) (i : ℕ) (x id : ℤ) (whole : Bool) → i < length xs → x ≡ get_or xs i x → is_id_behind (drop i xs) id ≡ whole → id ≢ x → is_id_behind (drop (i + 1) xs) id ≡ whole
among_next xs i x id whole h e g s = sym (ap (λ ys. is_id_behind ys id) (item_front xs i x x h e) ∙ ap (λ b. b || is_id_behind (drop (i + 1) xs) id) (not_true (same id x) (λ k. s (id_true id x k)))) ∙ g

pub among_none : (xs : List ℤ) (i : ℕ) (id : ℤ) (whole : Bool) → length xs ≤ i → is_id_behind (drop i xs) id ≡ whole → whole ≡ false
among_none [] zero id whole h g = sym g
among_none [] (suc i) id whole h g = sym g
among_none (x ∷ xs) zero id whole h g = absurd (omega (arith, h))
among_none (x ∷ xs) (suc i) id whole h g = among_none xs i id whole (omega (arith, h)) g

-- the ids from a place on are not right: then neither are all
pub later_wrong : (xs : List ℤ) (i : ℕ) → are_ids (drop i xs) ≡ false → are_ids xs ≡ false
later_wrong xs zero h = h
later_wrong [] (suc i) h = h
later_wrong (x ∷ xs) (suc i) h = rw (later_wrong xs i h) (and_false (is_id x && not (is_id_behind xs x)))
  where
    and_false : (b : Bool) → (b && false) ≡ false
    and_false true = refl
    and_false false = refl

pub rest_is : (n : ℕ) (xs : List ℤ) → take (length xs - n) (drop n xs) ≡ drop n xs
rest_is n xs = ap (λ k. take k (drop n xs)) (sym (length-drop n xs)) ∙ take-length (drop n xs)

drop_back : (xs : List ℤ) (i k : ℕ) (x d : ℤ) → k ≡ i - 1 → 0 < i → i ≤ length xs → x ≡ get_or xs k d → drop k xs ≡ x ∷ drop i xs
drop_back xs i k x d e some within h =
    let n : k + 1 ≡ i = omega (arith, e) in
    let l : k < length xs = omega (arith, e) in
    item_front xs k x d l h ∙ ap (λ j. x ∷ drop j xs) n

pub one_right : (xs : List ℤ) (i k : ℕ) (x d : ℤ) → k ≡ i - 1 → 0 < i → i ≤ length xs → x ≡ get_or xs k d → are_ids (drop i xs) ≡ true → (is_id x && not (is_id_behind (drop (k + 1) xs) x)) ≡ true → are_ids (drop k xs) ≡ true
one_right xs i k x d e some within h right one =
    let n : k + 1 ≡ i = omega (arith, e) in
    let o : (is_id x && not (is_id_behind (drop i xs) x)) ≡ true = subst (λ j. (is_id x && not (is_id_behind (drop j xs) x)) ≡ true) n one in
    ap are_ids (drop_back xs i k x d e some within h) ∙ rw (o, right) refl

pub one_wrong : (xs : List ℤ) (i k : ℕ) (x d : ℤ) → k ≡ i - 1 → 0 < i → i ≤ length xs → x ≡ get_or xs k d → (is_id x && not (is_id_behind (drop (k + 1) xs) x)) ≡ false → are_ids xs ≡ false
one_wrong xs i k x d e some within h one =
    let n : k + 1 ≡ i = omega (arith, e) in
    let o : (is_id x && not (is_id_behind (drop i xs) x)) ≡ false = subst (λ j. (is_id x && not (is_id_behind (drop j xs) x)) ≡ false) n one in
    later_wrong xs k (ap are_ids (drop_back xs i k x d e some within h) ∙ rw o refl)

-- ── ids that are counted ──

not_behind : (i n k : ℕ) → k < i → is_id_behind (counted_ids i n) (pos k) ≡ false
not_behind i zero k h = refl
not_behind i (suc n) k h = rw (not_behind (suc i) n k (omega (arith, h))) (other k i h)
  where
    other : (k i : ℕ) → k < i → (nat_eq k i || false) ≡ false
    other k i h = grind (arith, h)

pub counted_length : (i n : ℕ) → length (counted_ids i n) ≡ n
counted_length i zero = refl
counted_length i (suc n) = ap suc (counted_length (suc i) n)

pub same_test : (b c : Bool) → (b ≡ true → c ≡ true) → (c ≡ true → b ≡ true) → b ≡ c
same_test true true f g = refl
same_test true false f g = sym (f refl)
same_test false true f g = g refl
same_test false false f g = refl

last_is : (i : ℕ) → ((nat_le i 127 && true) && true) ≡ nat_le (i + 1) 128
last_is i = same_test _ _ (λ h. le-leb _ _ (let k : i ≤ 127 = leb-true _ _ (and_parts _ _ (and_parts _ _ h).0).0 in omega arith)) (λ h. let k : i + 1 ≤ 128 = leb-true _ _ h in rw (le-leb i 127 (omega arith)) refl)

more_are : (i k : ℕ) → ((nat_le i 127 && true) && nat_le (suc i + suc k) 128) ≡ nat_le (i + suc (suc k)) 128
more_are i k = same_test _ _ (λ h. let l : suc i + suc k ≤ 128 = leb-true _ _ (and_parts _ _ h).1 in le-leb _ _ (omega arith)) (λ h. let l : i + suc (suc k) ≤ 128 = leb-true _ _ h in rw (le-leb i 127 (omega arith), le-leb (suc i + suc k) 128 (omega arith)) refl)

pub counted_are : (i n : ℕ) → are_ids (counted_ids i (suc n)) ≡ nat_le (i + suc n) 128
counted_are i zero = last_is i
counted_are i (suc k) =
    rw (not_behind (suc i) (suc k) i (omega arith), counted_are (suc i) k) (more_are i k)

pub counted_right : (n : ℕ) → 0 < n → n ≤ 128 → are_right (counted_ids 0 n) n ≡ true
counted_right zero some few = absurd (omega (arith, some))
counted_right (suc n) some few =
    let z : 0 + suc n ≡ suc n = omega arith in
    let a : are_ids (counted_ids 0 (suc n)) ≡ true = counted_are 0 n ∙ ap (λ k. nat_le k 128) z ∙ le-leb _ _ few in
    rw (a, counted_length 0 (suc n)) (self (suc n))
  where
    self : (k : ℕ) → ((true && nat_eq (suc n) (suc n)) && nat_lt 0 (suc n)) ≡ true
    self k = grind arith

pub counted_none : are_right (counted_ids 0 0) 0 ≡ false
counted_none = refl

pub counted_wrong : (n : ℕ) → 128 < n → are_right (counted_ids 0 n) n ≡ false
counted_wrong zero many = absurd (omega (arith, many))
counted_wrong (suc n) many =
    let z : 0 + suc n ≡ suc n = omega arith in
    let a : are_ids (counted_ids 0 (suc n)) ≡ false = counted_are 0 n ∙ ap (λ k. nat_le k 128) z ∙ not_le (suc n) many in
    rw a refl
  where
    not_le : (k : ℕ) → 128 < k → nat_le k 128 ≡ false
    not_le k h = grind (arith, h)

-- so many ids that are counted are right
some_lt : (n : ℕ) → nat_lt 0 (suc n) ≡ true
some_lt n = grind arith

many : (n : ℕ) → false ≡ nat_le n 128 → 128 < n
many n h = grind (arith, h)

counted_cases : (n : ℕ) (b : Bool) → b ≡ nat_le n 128 → (nat_lt 0 n && b) ≡ are_right (counted_ids 0 n) n
counted_cases zero b h = refl
counted_cases (suc n) true h = ap (λ x. x && true) (some_lt n) ∙ sym (counted_right (suc n) (omega arith) (leb-true _ _ (sym h)))
counted_cases (suc n) false h = ap (λ x. x && false) (some_lt n) ∙ sym (counted_wrong (suc n) (many (suc n) h))

pub counted_few : (n : ℕ) (r : Bool) → r ≡ (nat_lt 0 n && nat_le n 128) → r ≡ are_right (counted_ids 0 n) n
counted_few n r h = h ∙ counted_cases n (nat_le n 128) refl
