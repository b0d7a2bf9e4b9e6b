-- Parts of two files of one length that agree: what is read of them is the same.
use Rattle.std.proofs.Common.{◌≡◌, ℕ, zero, suc, ◌+◌, ◌-◌, ◌≤◌, List, [], ◌∷◌, length, take, drop, refl, sym, ◌∙◌, ap, arith, min, inl, inr}
use Rattle.std.proofs.lemmas.List.{drop-drop, drop-take, length-take, take_all, drop_all}
use Rattle.std.proofs.lemmas.Bool.{cases_lt}

-- a part inside one that is the same
pub take-take_less : (k m : ℕ) (xs : List ℕ) → k ≤ m → take k (take m xs) ≡ take k xs
take-take_less zero m xs less = refl
take-take_less (suc k) zero xs less = absurd (omega (arith, less))
take-take_less (suc k) (suc m) [] less = refl
take-take_less (suc k) (suc m) (x ∷ xs) less = ap (λ ys. x ∷ ys) (take-take_less k m xs (omega (arith, less)))

-- a part of the part from p on
part_inside : (x : List ℕ) (p n j k : ℕ) → j + k ≤ n → take k (drop (p + j) x) ≡ take k (drop j (take n (drop p x)))
part_inside x p n j k fits =
    let e : j + (n - j) ≡ n = omega (arith, fits) in
    let inner : drop j (take n (drop p x)) ≡ take (n - j) (drop j (drop p x)) = rw e at (drop-take j (n - j) (drop p x)) in
    ap (λ ys. take k ys) (sym (drop-drop j p x)) ∙ sym (take-take_less k (n - j) (drop j (drop p x)) (omega (arith, fits))) ∙ ap (λ ys. take k ys) (sym inner)

pub part_within : (x y : List ℕ) (p n q k : ℕ) → take n (drop p y) ≡ take n (drop p x) → p ≤ q → q + k ≤ p + n → take k (drop q y) ≡ take k (drop q x)
part_within x y p n q k same above fits =
    let e : p + (q - p) ≡ q = omega (arith, above) in
    let inside : q - p + k ≤ n = omega (arith, above, fits) in
    let first : take k (drop q y) ≡ take k (drop (q - p) (take n (drop p y))) = rw e at (part_inside y p n (q - p) k inside) in
    let last : take k (drop q x) ≡ take k (drop (q - p) (take n (drop p x))) = rw e at (part_inside x p n (q - p) k inside) in
    first ∙ ap (λ ys. take k (drop (q - p) ys)) same ∙ sym last

abbrev nothing : List ℕ
nothing = []

take_nil : (l : ℕ) → take l nothing ≡ nothing
take_nil zero = refl
take_nil (suc l) = refl

part_cut_short : (xs : List ℕ) (l n : ℕ) → take l (take n xs) ≡ take (min l n) xs
part_cut_short xs l n = elim (cases_lt n l) [
  | inl more ↦ let short : length (take n xs) ≤ l = omega (arith, length-take n xs, more) in let e : min l n ≡ n = omega (arith, more) in take_all l (take n xs) short ∙ ap (λ k. take k xs) (sym e)
  | inr less ↦ let e : min l n ≡ l = omega (arith, less) in take-take_less l n xs less ∙ ap (λ k. take k xs) (sym e)
]

-- a part of the first bytes
pub part_of_front : (xs : List ℕ) (n o l : ℕ) → take l (drop o (take n xs)) ≡ take (min l (n - o)) (drop o xs)
part_of_front xs n o l = elim (cases_lt n o) [
  | inl past ↦
      let short : length (take n xs) ≤ o = omega (arith, length-take n xs, past) in
      let gone : drop o (take n xs) ≡ [] = drop_all o (take n xs) short in
      let e : min l (n - o) ≡ 0 = omega (arith, past) in
      ap (λ ys. take l ys) gone ∙ take_nil l ∙ ap (λ k. take k (drop o xs)) (sym e)
  | inr inside ↦
      let e : o + (n - o) ≡ n = omega (arith, inside) in
      let whole : drop o (take n xs) ≡ take (n - o) (drop o xs) = rw e at (drop-take o (n - o) xs) in
      ap (λ ys. take l ys) whole ∙ part_cut_short (drop o xs) l (n - o)
]
