-- Parts of lists, and lists that are made of lists of one length.
use Rattle.std.proofs.Common.{◌≡◌, ℕ, zero, suc, ◌+◌, ◌*◌, ◌≤◌, ◌<◌, List, [], ◌∷◌, ◌++◌, length, take, drop, get_or, sym, ap, ◌∙◌, arith, length-append, length-drop, ◌-◌}
use Rattle.std.specs.List.{flat_map}
use Rattle.std.proofs.Math.Nat.{mul-suc}
use Rattle.std.proofs.Math.Seq.{take-add, drop-append_seam}
use Rattle.std.proofs.lemmas.List.{drop-drop, take_all, take_more, drop_all, drop_more, get_or-drop, take-append-le}
use Rattle.arrow_buffers.specs.Rows.{part}

pub seam_take : {A : Type 0} (xs ys : List A) (n : ℕ) → length xs ≡ n → take n (xs ++ ys) ≡ xs
seam_take xs ys n e = take-append-le n xs ys (omega (arith, e)) ∙ take_all n xs (omega (arith, e))

pub seam_drop : {A : Type 0} (xs ys : List A) (n : ℕ) → length xs ≡ n → drop n (xs ++ ys) ≡ ys
seam_drop xs ys n e = ap (λ k. drop k (xs ++ ys)) (sym e) ∙ drop-append_seam xs ys

-- a part, and the items behind it
pub part_more : {A : Type 0} (xs : List A) (at n m : ℕ) → part at n xs ++ take m (drop (at + n) xs) ≡ part at (n + m) xs
part_more xs at n m = ap (λ l. take n (drop at xs) ++ take m l) (sym (drop-drop n at xs)) ∙ sym (take-add n m (drop at xs))

pub mul_next : (w k : ℕ) → w * suc k ≡ w + w * k
mul_next w k = let m : w * suc k ≡ w * k + w = mul-suc w k in omega (arith, m)

pub length_flat : {A : Type 0} (f : A → List ℕ) (w : ℕ) → ((x : A) → length (f x) ≡ w) → (xs : List A) → length (flat_map f xs) ≡ w * length xs
length_flat f w law [] = omega arith
length_flat f w law (x ∷ xs) = omega (arith, length-append (f x) (flat_map f xs), law x, length_flat f w law xs, mul_next w (length xs))

-- the list of an item
pub flat_at : {A : Type 0} (f : A → List ℕ) (w : ℕ) → ((x : A) → length (f x) ≡ w) → (xs : List A) (i : ℕ) (d : A) → i < length xs → take w (drop (w * i) (flat_map f xs)) ≡ f (get_or xs i d)
flat_at f w law [] i d h = absurd (omega (arith, h))
flat_at f w law (x ∷ xs) zero d h =
    let none : w * 0 ≡ 0 = omega arith in
    ap (λ k. take w (drop k (f x ++ flat_map f xs))) none ∙ seam_take (f x) (flat_map f xs) w (law x)
flat_at f w law (x ∷ xs) (suc i) d h =
    ap (λ k. take w (drop k (f x ++ flat_map f xs))) (mul_next w i)
    ∙ ap (take w) (sym (drop-drop (w * i) w (f x ++ flat_map f xs)) ∙ ap (drop (w * i)) (seam_drop (f x) (flat_map f xs) w (law x)))
    ∙ flat_at f w law xs i d (omega (arith, h))

-- an item more of a part
pub part_next : (xs : List ℕ) (at i x : ℕ) → at ≤ i → i < length xs → x ≡ get_or xs i 0 → part at (i - at) xs ++ x ∷ [] ≡ part at (i + 1 - at) xs
part_next xs at i x h k e =
    let n = i - at in
    let place : at + n ≡ i = omega (arith, h) in
    let more : n + 1 ≡ i + 1 - at = omega (arith, h) in
    let there : get_or (drop at xs) n 0 ≡ x = get_or-drop at xs n 0 ∙ ap (λ j. get_or xs j 0) place ∙ sym e in
    let one = take_more (drop at xs) n 0 (omega (arith, h, k, length-drop at xs)) in
    ap (λ y. take n (drop at xs) ++ y ∷ []) (sym there) ∙ sym one ∙ ap (λ j. take j (drop at xs)) more

-- the last item alone
pub last_item : (xs : List ℕ) (at x : ℕ) → at < length xs → length xs ≤ at + 1 → x ≡ get_or xs at 0 → x ∷ [] ≡ drop at xs
last_item xs at x h k e =
    let none : drop (at + 1) xs ≡ [] = drop_all (at + 1) xs k in
    ap (λ y. y ∷ []) e ∙ ap (λ l. get_or xs at 0 ∷ l) (sym none) ∙ sym (drop_more xs at 0 h)
