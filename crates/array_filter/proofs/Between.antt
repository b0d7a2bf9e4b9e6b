-- The offsets of rows at some numbers, and the items between them; rows of one size.
use Rattle.std.proofs.Common.{◌≡◌, ◌∙◌, sym, refl, ap, arith, ℕ, zero, suc, ◌+◌, ◌*◌, ◌/◌, ◌<◌, ◌≤◌, ◌&&◌, List, [], ◌∷◌, length, map, get_or, nat_le, true, ℤ, pos}
use Rattle.std.specs.List.{AllByRecursion, flat_map}
use Rattle.std.proofs.lemmas.Bool.{le-leb}
use Rattle.std.proofs.lemmas.List.{length-map}
use Rattle.std.proofs.Math.Nat.{mul-le-mul_left, mul-suc}
use Rattle.arrow_buffers.specs.Rows.{part}
use Rattle.arrow_buffers.specs.Variable.{place_at, rise_from, are_offsets, variable_rows}
use Rattle.arrow_buffers.proofs.Parts.{length-part}
use Rattle.arrow_buffers.proofs.Rising.{offset_risen, offset_climbs}
use Rattle.arrow_buffers.proofs.Fixed.{rows_inside}
use Rattle.array_filter.specs.Rows.{AreBelow}
use Rattle.array_filter.specs.Offsets.{offsets_on, offsets_taken, row_length}
use Rattle.array_filter.proofs.Lists.{all_from}
use Rattle.array_filter.proofs.Pieces.{ahead, ahead-next, ahead-even, piece, length-pieces}

-- ── offsets ──

pub place_on : (count : ℕ → ℕ) (rows : List ℕ) (at i : ℕ) → i ≤ length rows → place_at (offsets_on at (map count rows)) i ≡ at + ahead count rows i
place_on count [] at zero h = let e : at ≡ at + 0 = omega arith in e
place_on count [] at (suc i) h = absurd (omega arith)
place_on count (row ∷ rows) at zero h = let e : at ≡ at + 0 = omega arith in e
place_on count (row ∷ rows) at (suc i) h =
    let e : (at + count row) + ahead count rows i ≡ at + (count row + ahead count rows i) = omega arith in
    place_on count rows (at + count row) i (omega arith) ∙ e

rise_on : (low n limit : ℕ) (rest : List ℤ) → low ≤ n → n ≤ limit → rise_from low (pos n ∷ rest) limit ≡ rise_from n rest limit
rise_on low n limit rest h k = ap (λ b. b && nat_le n limit && rise_from n rest limit) (le-leb low n h) ∙ ap (λ b. b && rise_from n rest limit) (le-leb n limit k)

pub length-offsets_on : (at : ℕ) (ns : List ℕ) → length (offsets_on at ns) ≡ suc (length ns)
length-offsets_on at [] = refl
length-offsets_on at (n ∷ ns) = ap suc (length-offsets_on (at + n) ns)

pub rows-offsets : (rows : List ℕ) (os : List ℤ) → variable_rows (offsets_taken rows os) ≡ length rows
rows-offsets rows os = omega (arith, length-offsets_on 0 (map (row_length os) rows), length-map rows (row_length os))

rises_on : (count : ℕ → ℕ) (rows : List ℕ) (low at limit : ℕ) → low ≤ at → at + ahead count rows (length rows) ≤ limit → rise_from low (offsets_on at (map count rows)) limit ≡ true
rises_on count [] low at limit h k = rise_on low at limit [] h (omega arith)
rises_on count (row ∷ rows) low at limit h k = rise_on low at limit (offsets_on (at + count row) (map count rows)) h (omega arith) ∙ rises_on count rows at (at + count row) limit (omega arith) (omega arith)

pub offsets_rise : (count : ℕ → ℕ) (rows : List ℕ) (limit : ℕ) → ahead count rows (length rows) ≤ limit → are_offsets (offsets_on 0 (map count rows)) limit ≡ true
offsets_rise count rows limit h = rises_on count rows 0 0 limit (omega arith) (omega arith)

-- a row's items lie within the limit
pub row_inside : (os : List ℤ) (limit row : ℕ) → are_offsets os limit ≡ true → row < variable_rows os → place_at os row + row_length os row ≤ limit
row_inside os limit row e h =
    let lt : suc row < length os = omega arith in
    omega (arith, offset_climbs os limit row e lt, (offset_risen os limit (suc row) e lt).within)

pub rows_inside_all : (os : List ℤ) (limit : ℕ) (rows : List ℕ) → are_offsets os limit ≡ true → AreBelow (variable_rows os) rows → AllByRecursion (λ row. place_at os row + row_length os row ≤ limit) rows
rows_inside_all os limit rows e a = all_from (λ row. row < variable_rows os) (λ row. place_at os row + row_length os row ≤ limit) rows (λ row h. row_inside os limit row e h) a

-- the items of a row, as long as its offsets say
pub between_lengths : {A : Type 0} (os : List ℤ) (xs : List A) (rows : List ℕ) → are_offsets os (length xs) ≡ true → AreBelow (variable_rows os) rows
    → AllByRecursion (λ row. length (part (place_at os row) (row_length os row) xs) ≡ row_length os row) rows
between_lengths os xs rows e a =
    all_from (λ row. row < variable_rows os) (λ row. length (part (place_at os row) (row_length os row) xs) ≡ row_length os row) rows
    (λ row h. length-part xs (place_at os row) (row_length os row) (row_inside os (length xs) row e h)) a

-- between the new offsets stands what stood between the old ones
pub between-taken : {A : Type 0} (os : List ℤ) (xs : List A) (rows : List ℕ) (i : ℕ) → are_offsets os (length xs) ≡ true → AreBelow (variable_rows os) rows → i < length rows
    → part (place_at (offsets_taken rows os) i) (row_length (offsets_taken rows os) i) (flat_map (λ row. part (place_at os row) (row_length os row) xs) rows)
    ≡ part (place_at os (get_or rows i 0)) (row_length os (get_or rows i 0)) xs
between-taken {A} os xs rows i e a h =
    let count : ℕ → ℕ = row_length os in
    let g : ℕ → List A = λ row. part (place_at os row) (row_length os row) xs in
    let from : place_at (offsets_taken rows os) i ≡ ahead count rows i = omega (arith, place_on count rows 0 i (omega arith)) in
    let to : place_at (offsets_taken rows os) (suc i) ≡ ahead count rows (suc i) = omega (arith, place_on count rows 0 (suc i) (omega arith)) in
    let long : row_length (offsets_taken rows os) i ≡ count (get_or rows i 0) = omega (arith, from, to, ahead-next count rows i h) in
    ap (λ k. part k (row_length (offsets_taken rows os) i) (flat_map g rows)) from ∙ ap (λ k. part (ahead count rows i) k (flat_map g rows)) long ∙ piece g count rows i (between_lengths os xs rows e a) h

-- ── rows of one size ──

-- a row of so many items, where there are so many rows
pub even_inside : (size m row : ℕ) → row < m → size * row + size ≤ size * m
even_inside size m row h = let e : suc row ≤ m = omega arith in let s : size * suc row ≡ size * row + size = mul-suc size row in omega (arith, mul-le-mul_left size e, s)

pub even_all : (size m n : ℕ) (rows : List ℕ) → size * m ≤ n → AreBelow m rows → AllByRecursion (λ row. size * row + size ≤ n) rows
even_all size m n rows h a = all_from (λ row. row < m) (λ row. size * row + size ≤ n) rows (λ row lt. omega (arith, even_inside size m row lt)) a

pub even_lengths : {A : Type 0} (size : ℕ) (xs : List A) (rows : List ℕ) → AllByRecursion (λ row. size * row + size ≤ length xs) rows → AllByRecursion (λ row. length (part (size * row) size xs) ≡ size) rows
even_lengths size xs rows a = all_from (λ row. size * row + size ≤ length xs) (λ row. length (part (size * row) size xs) ≡ size) rows (λ row h. length-part xs (size * row) size h) a

pub even-piece : {A : Type 0} (size : ℕ) (xs : List A) (rows : List ℕ) (i : ℕ) → AllByRecursion (λ row. size * row + size ≤ length xs) rows → i < length rows
    → part (size * i) size (flat_map (λ row. part (size * row) size xs) rows) ≡ part (size * get_or rows i 0) size xs
even-piece {A} size xs rows i a h =
    let g : ℕ → List A = λ row. part (size * row) size xs in
    ap (λ k. part k size (flat_map g rows)) (sym (ahead-even size rows i (omega arith))) ∙ piece g (λ row. size) rows i (even_lengths size xs rows a) h

pub length-even : {A : Type 0} (size : ℕ) (xs : List A) (rows : List ℕ) → AllByRecursion (λ row. size * row + size ≤ length xs) rows → length (flat_map (λ row. part (size * row) size xs) rows) ≡ size * length rows
length-even size xs rows a = length-pieces (λ row. part (size * row) size xs) (λ row. size) rows (even_lengths size xs rows a) ∙ ahead-even size rows (length rows) (omega arith)

-- rows that bytes are
pub whole_rows : (size m : ℕ) (rows : List ℕ) → 0 < size → AreBelow (m / size) rows → AllByRecursion (λ row. size * row + size ≤ m) rows
whole_rows size m rows p a = all_from (λ row. row < m / size) (λ row. size * row + size ≤ m) rows (λ row h. omega (arith, rows_inside size m row 1 p (omega arith))) a
