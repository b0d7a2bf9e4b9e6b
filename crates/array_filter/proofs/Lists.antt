-- Items at some numbers: how many they are, and which.
use Rattle.std.proofs.Common.{◌≡◌, ◌∙◌, sym, refl, ap, append_assoc, arith, ℕ, zero, suc, ◌+◌, ◌<◌, ◌≤◌, List, [], ◌∷◌, ◌++◌, length, map, drop, get_or, Bool, true, Some, slice_get, length-append, length-drop}
use Rattle.std.specs.List.{AllByRecursion, flat_map, list_all}
use Rattle.std.proofs.lemmas.Bool.{and_parts, and_from}
use Rattle.std.proofs.lemmas.Grind.{flat_map-append}
use Rattle.std.proofs.lemmas.List.{map-append, get_or-drop, take_more}
use Rattle.std.proofs.lemmas.List.Folds.{list_all-append}
use Rattle.arrow_spec.specs.Needed.{numbers_from}
use Rattle.arrow_buffers.specs.Rows.{part}
use Rattle.arrow_buffers.proofs.Counts.{found, get_there}
use Rattle.array_filter.specs.Rows.{AreBelow, if_any, taken}
use Rattle.array_filter.specs.Offsets.{items_of}

-- ── what holds of each number ──

pub all_at : (P : ℕ → Type 0) (rows : List ℕ) (i : ℕ) → AllByRecursion P rows → i < length rows → P (get_or rows i 0)
all_at P [] i a h = absurd (omega arith)
all_at P (row ∷ rows) zero a h = a.0
all_at P (row ∷ rows) (suc i) a h = all_at P rows i a.1 (omega arith)

pub all_from : (P Q : ℕ → Type 0) (rows : List ℕ) → ((row : ℕ) → P row → Q row) → AllByRecursion P rows → AllByRecursion Q rows
all_from P Q [] f a = tt
all_from P Q (row ∷ rows) f a = (f row a.0, all_from P Q rows f a.1)

pub all_append : (P : ℕ → Type 0) (rows others : List ℕ) → AllByRecursion P rows → AllByRecursion P others → AllByRecursion P (rows ++ others)
all_append P [] others a b = b
all_append P (row ∷ rows) others a b = (a.0, all_append P rows others a.1 b)

pub below_run : (i n m : ℕ) → i + n ≤ m → AreBelow m (numbers_from i n)
below_run i zero m h = tt
below_run i (suc n) m h = (omega arith, below_run (suc i) n m (omega arith))

pub below_items : (place count : ℕ → ℕ) (rows : List ℕ) (m : ℕ) → AllByRecursion (λ row. place row + count row ≤ m) rows → AreBelow m (items_of place count rows)
below_items place count [] m a = tt
below_items place count (row ∷ rows) m a =
    all_append (λ k. k < m) (numbers_from (place row) (count row)) (items_of place count rows) (below_run (place row) (count row) m a.0) (below_items place count rows m a.1)

pub length-numbers : (i n : ℕ) → length (numbers_from i n) ≡ n
length-numbers i zero = refl
length-numbers i (suc n) = ap suc (length-numbers (suc i) n)

-- ── items ──

pub there : {A : Type 0} (xs : List A) (row : ℕ) (d : A) → row < length xs → if_any (slice_get xs row) ≡ get_or xs row d ∷ []
there xs row d h = ap if_any (get_there xs row d h)

one_there : {A : Type 0} (xs : List A) (row : ℕ) → row < length xs → length (if_any (slice_get xs row)) ≡ 1
one_there [] row h = absurd (omega arith)
one_there (x ∷ xs) zero h = refl
one_there (x ∷ xs) (suc row) h = one_there xs row (omega arith)

pub length-taken : {A : Type 0} (rows : List ℕ) (xs : List A) → AreBelow (length xs) rows → length (taken rows xs) ≡ length rows
length-taken [] xs a = refl
length-taken (row ∷ rows) xs a = length-append (if_any (slice_get xs row)) (taken rows xs) ∙ omega (arith, one_there xs row a.0, length-taken rows xs a.1)

pub taken_at : {A : Type 0} (d : A) (rows : List ℕ) (xs : List A) (i : ℕ) → AreBelow (length xs) rows → i < length rows → get_or (taken rows xs) i d ≡ get_or xs (get_or rows i 0) d
taken_at d [] xs i a h = absurd (omega arith)
taken_at d (row ∷ rows) xs zero a h = ap (λ ys. get_or (ys ++ taken rows xs) 0 d) (there xs row d a.0)
taken_at d (row ∷ rows) xs (suc i) a h = ap (λ ys. get_or (ys ++ taken rows xs) (suc i) d) (there xs row d a.0) ∙ taken_at d rows xs i a.1 (omega arith)

pub none-taken : {A : Type 0} (rows : List ℕ) (xs : List A) → xs ≡ [] → taken rows xs ≡ []
none-taken [] xs e = refl
none-taken (row ∷ rows) [] e = none-taken rows [] refl
none-taken (row ∷ rows) (x ∷ xs) e = cc

pub taken-append : {A : Type 0} (rows others : List ℕ) (xs : List A) → taken (rows ++ others) xs ≡ taken rows xs ++ taken others xs
taken-append rows others xs = flat_map-append (λ row. if_any (slice_get xs row)) rows others

shifted : {A : Type 0} (x : A) (xs : List A) (i n : ℕ) → taken (numbers_from (suc i) n) (x ∷ xs) ≡ taken (numbers_from i n) xs
shifted x xs i zero = refl
shifted x xs i (suc n) = ap (λ ys. if_any (slice_get xs i) ++ ys) (shifted x xs (suc i) n)

-- the items of a run stand one behind another
pub run_taken : {A : Type 0} (xs : List A) (i n : ℕ) → i + n ≤ length xs → taken (numbers_from i n) xs ≡ part i n xs
run_taken xs zero zero h = refl
run_taken [] (suc i) zero h = refl
run_taken (x ∷ xs) (suc i) zero h = refl
run_taken [] i (suc n) h = absurd (omega arith)
run_taken (x ∷ xs) zero (suc n) h = ap (λ ys. x ∷ ys) (shifted x xs 0 n ∙ run_taken xs 0 n (omega arith))
run_taken (x ∷ xs) (suc i) (suc n) h = shifted x xs i (suc n) ∙ run_taken xs i (suc n) (omega arith)

pub items-taken : {A : Type 0} (place count : ℕ → ℕ) (rows : List ℕ) (xs : List A) → AllByRecursion (λ row. place row + count row ≤ length xs) rows
    → taken (items_of place count rows) xs ≡ flat_map (λ row. part (place row) (count row) xs) rows
items-taken place count [] xs a = refl
items-taken place count (row ∷ rows) xs a =
    taken-append (numbers_from (place row) (count row)) (items_of place count rows) xs
    ∙ ap (λ ys. ys ++ taken (items_of place count rows) xs) (run_taken xs (place row) (count row) a.0)
    ∙ ap (λ ys. part (place row) (count row) xs ++ ys) (items-taken place count rows xs a.1)

-- ── what is told of each item ──

one-map : {A B : Type 0} (f : A → B) (xs : List A) (row : ℕ) → map f (if_any (slice_get xs row)) ≡ if_any (slice_get (map f xs) row)
one-map f [] row = refl
one-map f (x ∷ xs) zero = refl
one-map f (x ∷ xs) (suc row) = one-map f xs row

pub map-taken : {A B : Type 0} (f : A → B) (rows : List ℕ) (xs : List A) → map f (taken rows xs) ≡ taken rows (map f xs)
map-taken f [] xs = refl
map-taken f (row ∷ rows) xs =
    map-append f (if_any (slice_get xs row)) (taken rows xs)
    ∙ ap (λ ys. ys ++ map f (taken rows xs)) (one-map f xs row)
    ∙ ap (λ ys. if_any (slice_get (map f xs) row) ++ ys) (map-taken f rows xs)

one-passes : {A : Type 0} (p : A → Bool) (xs : List A) (row : ℕ) → list_all p xs ≡ true → list_all p (if_any (slice_get xs row)) ≡ true
one-passes p [] row e = refl
one-passes p (x ∷ xs) zero e = and_from (p x) true (and_parts (p x) (list_all p xs) e).0 refl
one-passes p (x ∷ xs) (suc row) e = one-passes p xs row (and_parts (p x) (list_all p xs) e).1

pub passes-taken : {A : Type 0} (p : A → Bool) (rows : List ℕ) (xs : List A) → list_all p xs ≡ true → list_all p (taken rows xs) ≡ true
passes-taken p [] xs e = refl
passes-taken p (row ∷ rows) xs e =
    list_all-append p (if_any (slice_get xs row)) (taken rows xs)
    ∙ and_from (list_all p (if_any (slice_get xs row))) (list_all p (taken rows xs)) (one-passes p xs row e) (passes-taken p rows xs e)

-- one item more of a run
pub part_more : {A : Type 0} (xs : List A) (from i : ℕ) (x : A) → slice_get xs (from + i) ≡ Some x → part from (i + 1) xs ≡ part from i xs ++ x ∷ []
part_more xs from i x e =
    let f = found xs (from + i) x e in
    take_more (drop from xs) i x (omega (arith, length-drop from xs, f.below)) ∙ ap (λ y. part from i xs ++ y ∷ []) (get_or-drop from xs i x ∙ f.at x)

-- one item more at the end of what was added
pub pushed : {A : Type 0} (new old start p q : List A) (x : A) → new ≡ old ++ x ∷ [] → old ≡ start ++ p → q ≡ p ++ x ∷ [] → new ≡ start ++ q
pushed new old start p q x e f g = e ∙ ap (λ ys. ys ++ x ∷ []) f ∙ append_assoc start p (x ∷ []) ∙ ap (λ ys. start ++ ys) (sym g)
