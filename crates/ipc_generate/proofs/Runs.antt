-- Runs of items, one after another.
use Rattle.std.proofs.Common.{◌≡◌, ℕ, zero, suc, ◌+◌, ◌<◌, List, [], ◌∷◌, ◌++◌, length, map, get_or, refl, sym, ap, ◌∙◌, arith}
use Rattle.arrow_spec.specs.Arrays.{from_on}
use Rattle.ipc_generate.specs.Arrays.{by_rows}

-- one item more
pub from_on_more : {A : Type 0} (f : ℕ → A) (i n : ℕ) → from_on f i (suc n) ≡ from_on f i n ++ f (i + n) ∷ []
from_on_more f i zero = ap (λ k. f k ∷ []) (omega arith)
from_on_more f i (suc n) =
    let e : suc i + n ≡ i + suc n = omega arith in
    ap (λ l. f i ∷ l) (from_on_more f (suc i) n ∙ ap (λ k. from_on f (suc i) n ++ f k ∷ []) e)

pub map_from_on : {A B : Type 0} (g : A → B) (f : ℕ → A) (i n : ℕ) → map g (from_on f i n) ≡ from_on (λ j. g (f j)) i n
map_from_on g f i zero = refl
map_from_on g f i (suc n) = ap (λ l. g (f i) ∷ l) (map_from_on g f (suc i) n)

-- rows by what they are given, where that is given by their number
pub by_rows_from_on : {A : Type 0} (f : ℕ → ℕ → A) (states : ℕ → ℕ) (i n : ℕ) → by_rows f i (from_on states i n) ≡ from_on (λ row. f row (states row)) i n
by_rows_from_on f states i zero = refl
by_rows_from_on f states i (suc n) = ap (λ l. f i (states i) ∷ l) (by_rows_from_on f states (suc i) n)

pub length-by_rows : {A : Type 0} (f : ℕ → ℕ → A) (i : ℕ) (xs : List ℕ) → length (by_rows f i xs) ≡ length xs
length-by_rows f i [] = refl
length-by_rows f i (x ∷ xs) = ap suc (length-by_rows f (suc i) xs)

pub by_rows_more : {A : Type 0} (f : ℕ → ℕ → A) (i : ℕ) (xs : List ℕ) (x : ℕ) → by_rows f i (xs ++ x ∷ []) ≡ by_rows f i xs ++ f (i + length xs) x ∷ []
by_rows_more f i [] x = ap (λ k. f k x ∷ []) (omega arith)
by_rows_more f i (y ∷ ys) x =
    let e : suc i + length ys ≡ i + suc (length ys) = omega arith in
    ap (λ l. f i y ∷ l) (by_rows_more f (suc i) ys x ∙ ap (λ k. by_rows f (suc i) ys ++ f k x ∷ []) e)

later : {A : Type 0} (f : ℕ → A) (i n : ℕ) → from_on (λ j. f (suc j)) i n ≡ from_on f (suc i) n
later f i zero = refl
later f i (suc n) = ap (λ l. f (suc i) ∷ l) (later f (suc i) n)

-- what is told of each item by its place is told of the items
pub map_told : {A B : Type 0} (f : A → B) (xs : List A) (d : A) → from_on (λ row. f (get_or xs row d)) 0 (length xs) ≡ map f xs
map_told f [] d = refl
map_told f (x ∷ xs) d = ap (λ l. f x ∷ l) (sym (later (λ row. f (get_or (x ∷ xs) row d)) 0 (length xs)) ∙ map_told f xs d)

-- runs that agree at each place
pub same_run : {A : Type 0} (f g : ℕ → A) (i n : ℕ) → ((j : ℕ) → j < i + n → f j ≡ g j) → from_on f i n ≡ from_on g i n
same_run f g i zero h = refl
same_run f g i (suc n) h =
    ap (λ x. x ∷ from_on f (suc i) n) (h i (omega arith)) ∙ ap (λ l. g i ∷ l) (same_run f g (suc i) n (λ j l. h j (omega arith)))
