-- Pieces of rows that stand one behind another: where each stands, and what it is.
use Rattle.std.proofs.Common.{◌≡◌, ◌∙◌, sym, refl, ap, arith, ℕ, zero, suc, ◌+◌, ◌*◌, ◌<◌, ◌≤◌, List, [], ◌∷◌, ◌++◌, length, take, drop, get_or, length-append}
use Rattle.std.specs.List.{AllByRecursion, flat_map}
use Rattle.std.proofs.lemmas.List.{take_at, drop_at, drop-drop}
use Rattle.std.proofs.Math.Nat.{mul-suc}
use Rattle.arrow_buffers.specs.Rows.{part}
use Rattle.array_filter.specs.Offsets.{items_of}
use Rattle.array_filter.proofs.Lists.{length-numbers}

-- how many items the first so many rows have
abbrev pub ahead : (ℕ → ℕ) → List ℕ → ℕ → ℕ
ahead count [] i = 0
ahead count (row ∷ rows) zero = 0
ahead count (row ∷ rows) (suc i) = count row + ahead count rows i

pub ahead-none : (count : ℕ → ℕ) (rows : List ℕ) → ahead count rows 0 ≡ 0
ahead-none count [] = refl
ahead-none count (row ∷ rows) = refl

pub ahead-next : (count : ℕ → ℕ) (rows : List ℕ) (i : ℕ) → i < length rows → ahead count rows (suc i) ≡ ahead count rows i + count (get_or rows i 0)
ahead-next count [] i h = absurd (omega arith)
ahead-next count (row ∷ rows) zero h = omega (arith, ahead-none count rows)
ahead-next count (row ∷ rows) (suc i) h = omega (arith, ahead-next count rows i (omega arith))

-- rows of one size
pub ahead-even : (size : ℕ) (rows : List ℕ) (i : ℕ) → i ≤ length rows → ahead (λ row. size) rows i ≡ size * i
ahead-even size [] zero h = omega arith
ahead-even size [] (suc i) h = absurd (omega arith)
ahead-even size (row ∷ rows) zero h = omega arith
ahead-even size (row ∷ rows) (suc i) h = let m : size * suc i ≡ size * i + size = mul-suc size i in omega (arith, m, ahead-even size rows i (omega arith))

-- a row's piece is found behind those of the rows before it
pub piece : {A : Type 0} (g : ℕ → List A) (count : ℕ → ℕ) (rows : List ℕ) (i : ℕ) → AllByRecursion (λ row. length (g row) ≡ count row) rows → i < length rows
    → part (ahead count rows i) (count (get_or rows i 0)) (flat_map g rows) ≡ g (get_or rows i 0)
piece g count [] i a h = absurd (omega arith)
piece g count (row ∷ rows) zero a h = take_at (g row) (flat_map g rows) (count row) a.0
piece g count (row ∷ rows) (suc i) a h =
    ap (take (count (get_or rows i 0)))
    (sym (drop-drop (ahead count rows i) (count row) (g row ++ flat_map g rows)) ∙ ap (drop (ahead count rows i)) (drop_at (g row) (flat_map g rows) (count row) a.0))
    ∙ piece g count rows i a.1 (omega arith)

pub length-pieces : {A : Type 0} (g : ℕ → List A) (count : ℕ → ℕ) (rows : List ℕ) → AllByRecursion (λ row. length (g row) ≡ count row) rows
    → length (flat_map g rows) ≡ ahead count rows (length rows)
length-pieces g count [] a = refl
length-pieces g count (row ∷ rows) a = length-append (g row) (flat_map g rows) ∙ omega (arith, a.0, length-pieces g count rows a.1)

pub length-items : (place count : ℕ → ℕ) (rows : List ℕ) → length (items_of place count rows) ≡ ahead count rows (length rows)
length-items place count [] = refl
length-items place count (row ∷ rows) = length-append _ (items_of place count rows) ∙ omega (arith, length-numbers (place row) (count row), length-items place count rows)
