-- Cells with some rows null: how many there are, and a part of them.
use Rattle.std.proofs.Common.{◌≡◌, ℕ, zero, suc, ◌+◌, ◌≤◌, ◌<◌, List, [], ◌∷◌, Bool, true, Option, Some, None, map, length, take, drop, cond, refl, sym, ap, ◌∙◌, arith}
use Rattle.std.proofs.lemmas.List.{length-map, take-map, drop-map, get_or-take, get_or-drop}
use Rattle.std.proofs.lemmas.Bool.{eqb-true, eq-eqb}
use Rattle.std.specs.Option.{option_map, ForSome}
use Rattle.arrow_spec.specs.Cells.{Cell, null}
use Rattle.arrow_buffers.specs.Rows.{masked, masked_by, has_rows, is_valid, part}
use Rattle.arrow_buffers.proofs.Parts.{length-part}

length-masked_by : (bits : List Bool) (cells : List Cell) → length bits ≡ length cells → length (masked_by bits cells) ≡ length cells
length-masked_by [] [] e = refl
length-masked_by [] (x ∷ xs) e = absurd (omega arith)
length-masked_by (b ∷ bits) [] e = absurd (omega arith)
length-masked_by (b ∷ bits) (x ∷ xs) e = ap suc (length-masked_by bits xs (omega arith))

pub length-masked : (v : Option (List Bool)) (cells : List Cell) → has_rows v (length cells) ≡ true → length (masked v cells) ≡ length cells
length-masked None cells h = refl
length-masked (Some bits) cells h = length-masked_by bits cells (eqb-true (length bits) (length cells) h)

take-masked_by : (n : ℕ) (bits : List Bool) (cells : List Cell) → take n (masked_by bits cells) ≡ masked_by (take n bits) (take n cells)
take-masked_by zero bits cells = refl
take-masked_by (suc n) [] cells = refl
take-masked_by (suc n) (b ∷ bits) [] = refl
take-masked_by (suc n) (b ∷ bits) (x ∷ xs) = ap (λ r. cond b x null ∷ r) (take-masked_by n bits xs)

masked_by-nil : (bits : List Bool) → masked_by bits [] ≡ []
masked_by-nil [] = refl
masked_by-nil (b ∷ bits) = refl

drop-masked_by : (n : ℕ) (bits : List Bool) (cells : List Cell) → drop n (masked_by bits cells) ≡ masked_by (drop n bits) (drop n cells)
drop-masked_by zero bits cells = refl
drop-masked_by (suc n) [] cells = refl
drop-masked_by (suc n) (b ∷ bits) [] = sym (masked_by-nil (drop n bits))
drop-masked_by (suc n) (b ∷ bits) (x ∷ xs) = drop-masked_by n bits xs

-- a part of the cells has a part of the validity
pub part-masked : (o n : ℕ) (v : Option (List Bool)) (cells : List Cell) → part o n (masked v cells) ≡ masked (option_map (part o n) v) (part o n cells)
part-masked o n None cells = refl
part-masked o n (Some bits) cells = ap (take n) (drop-masked_by o bits cells) ∙ take-masked_by n (drop o bits) (drop o cells)

pub length-leaf : {A : Type 0} (cell : A → Cell) (xs : List A) (v : Option (List Bool)) → has_rows v (length xs) ≡ true → length (masked v (map cell xs)) ≡ length xs
length-leaf cell xs v h =
    let e : length (map cell xs) ≡ length xs = length-map xs cell in
    length-masked v (map cell xs) (rw e h) ∙ e

pub leaf_cells-part : {A : Type 0} (cell : A → Cell) (o n : ℕ) (xs : List A) (v : Option (List Bool)) → masked (option_map (part o n) v) (map cell (part o n xs)) ≡ part o n (masked v (map cell xs))
leaf_cells-part cell o n xs v =
    let e : part o n (map cell xs) ≡ map cell (part o n xs) = ap (take n) (drop-map cell o xs) ∙ take-map cell n (drop o xs) in
    ap (masked (option_map (part o n) v)) (sym e) ∙ sym (part-masked o n v (map cell xs))

-- a part of the validity can be taken where a part of the rows can
pub fits_rows : (o n m : ℕ) (v : Option (List Bool)) → has_rows v m ≡ true → o + n ≤ m → ForSome v (λ bits. o + n ≤ length bits)
fits_rows o n m None h le = λ x q. cc
fits_rows o n m (Some bits) h le =
    let e : length bits ≡ m = eqb-true (length bits) m h in
    λ x q. let s : bits ≡ x = cc in
    let l : length bits ≡ length x = ap length s in omega arith

-- a row of as many has a bit
pub row_fits : (row m : ℕ) (v : Option (List Bool)) → has_rows v m ≡ true → row < m → ForSome v (λ bits. row < length bits)
row_fits row m None h le = λ x q. cc
row_fits row m (Some bits) h le =
    let e : length bits ≡ m = eqb-true (length bits) m h in
    λ x q. let s : bits ≡ x = cc in
    let l : length bits ≡ length x = ap length s in omega arith

-- a part of the validity has as many bits as the part of the rows
pub has_rows-part : (o n m : ℕ) (v : Option (List Bool)) → has_rows v m ≡ true → o + n ≤ m → has_rows (option_map (part o n) v) n ≡ true
has_rows-part o n m None h le = refl
has_rows-part o n m (Some bits) h le =
    let e : length bits ≡ m = eqb-true (length bits) m h in
    eq-eqb (length (part o n bits)) n (length-part bits o n (omega arith))

-- a row of a part is valid where the row of the whole is
pub is_valid-part : (o n k : ℕ) (v : Option (List Bool)) → k < n → is_valid (option_map (part o n) v) k ≡ is_valid v (o + k)
is_valid-part o n k None h = refl
is_valid-part o n k (Some bits) h = get_or-take n (drop o bits) k true h ∙ get_or-drop o bits k true
