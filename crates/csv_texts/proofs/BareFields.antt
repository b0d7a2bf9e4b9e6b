-- What is printed does not ask for the ids of dictionaries.
use Rattle.std.proofs.Common.{◌≡◌, refl, ap, ℕ, zero, suc, List, [], ◌∷◌, Bool}
use Rattle.std.specs.Prelude.{slice_get}
use Rattle.arrow_spec.specs.Arrays.{cell_or_null}
use Rattle.csv.specs.Writing.{default_writer, row_text}
use Rattle.arrow_spec.specs.Kinds.{Kind, Fields, bare, bare_kind, dictionary, extension, none, field}
use Rattle.arrow_spec.specs.Cells as cells
use Rattle.arrow_spec.specs.Cells.{Cell}
use Rattle.arrow_spec.specs.Files.{TableBatch}
use Rattle.csv_texts.specs.Texts.{batch_text, batches_text, cell_text, header_text, interval_text, is_day_time, are_nested, is_nested, names_in, row_cells, rows_text, scale_in, scaled}

-- kinds of one scale, whose intervals are alike, print alike
pub print_alike : (k j : Kind) → scale_in k ≡ scale_in j → is_day_time k ≡ is_day_time j → (c : Cell) → cell_text k c ≡ cell_text j c
print_alike k j s d (cells.number x) = ap (λ n. scaled n x) s
print_alike k j s d (cells.interval a b c) = ap (λ t. interval_text t a b c) d
print_alike k j s d (cells.bool b) = refl
print_alike k j s d x = refl

-- what a field is printed by: its name, the scale and the form of its cells, and whether they are no text
abbrev pub Printed : Type 0
Printed = List ℕ × ℕ × Bool × Bool

abbrev pub print_forms : Fields → List Printed
print_forms none = []
print_forms (field name nullable metadata k others) = (name, scale_in k, is_day_time k, is_nested k) ∷ print_forms others

bare_scale : (k : Kind) → scale_in (bare_kind k) ≡ scale_in k
bare_scale (dictionary t ordered id k) = bare_scale k
bare_scale (extension name metadata k) = bare_scale k
bare_scale k = refl

bare_day_time : (k : Kind) → is_day_time (bare_kind k) ≡ is_day_time k
bare_day_time (dictionary t ordered id k) = bare_day_time k
bare_day_time (extension name metadata k) = bare_day_time k
bare_day_time k = refl

bare_nested : (k : Kind) → is_nested (bare_kind k) ≡ is_nested k
bare_nested (dictionary t ordered id k) = bare_nested k
bare_nested (extension name metadata k) = bare_nested k
bare_nested k = refl

pub bare_forms : (fs : Fields) → print_forms (bare fs) ≡ print_forms fs
bare_forms none = refl
bare_forms (field name nullable metadata k others) = rw (bare_scale k, bare_day_time k, bare_nested k, bare_forms others) refl

-- the first forms are the same, and the others
first_form : (p q : Printed) (ps qs : List Printed) → p ∷ ps ≡ q ∷ qs → p ≡ q
first_form p q ps qs h = cc

other_forms : (p q : Printed) (ps qs : List Printed) → p ∷ ps ≡ q ∷ qs → ps ≡ qs
other_forms p q ps qs h = cc

-- ── fields of one form are printed alike ──

pub same_names : (fs gs : Fields) → print_forms fs ≡ print_forms gs → names_in fs ≡ names_in gs
same_names none none h = refl
same_names none (field m b v j gs) h = cc
same_names (field n a u k fs) none h = cc
same_names (field n a u k fs) (field m b v j gs) h =
    let name : n ≡ m = ap (λ (p : Printed). p.0) (first_form (n, scale_in k, is_day_time k, is_nested k) (m, scale_in j, is_day_time j, is_nested j) (print_forms fs) (print_forms gs) h) in
    let others : print_forms fs ≡ print_forms gs = other_forms (n, scale_in k, is_day_time k, is_nested k) (m, scale_in j, is_day_time j, is_nested j) (print_forms fs) (print_forms gs) h in
    let rest = same_names fs gs others in
    rw (name, rest) refl

same_cells : (fs gs : Fields) → print_forms fs ≡ print_forms gs → (columns : List (List Cell)) (i : ℕ) → row_cells fs columns i ≡ row_cells gs columns i
same_cells none none h columns i = refl
same_cells none (field m b v j gs) h columns i = cc
same_cells (field n a u k fs) none h columns i = cc
same_cells (field n a u k fs) (field m b v j gs) h [] i = refl
same_cells (field n a u k fs) (field m b v j gs) h (x ∷ xs) i =
    let first = first_form (n, scale_in k, is_day_time k, is_nested k) (m, scale_in j, is_day_time j, is_nested j) (print_forms fs) (print_forms gs) h in
    let scale : scale_in k ≡ scale_in j = ap (λ (p : Printed). p.1) first in
    let form : is_day_time k ≡ is_day_time j = ap (λ (p : Printed). p.2) first in
    let others : print_forms fs ≡ print_forms gs = other_forms (n, scale_in k, is_day_time k, is_nested k) (m, scale_in j, is_day_time j, is_nested j) (print_forms fs) (print_forms gs) h in
    let one = print_alike k j scale form (cell_or_null (slice_get x i)) in
    let rest = same_cells fs gs others xs i in
    rw (one, rest) refl

same_rows : (fs gs : Fields) → print_forms fs ≡ print_forms gs → (columns : List (List Cell)) (i n : ℕ) → rows_text fs columns i n ≡ rows_text gs columns i n
same_rows fs gs h columns i zero = refl
same_rows fs gs h columns i (suc n) = rw (same_cells fs gs h columns i, same_rows fs gs h columns (suc i) n) refl

pub same_batch : (fs gs : Fields) → print_forms fs ≡ print_forms gs → (x : TableBatch) → batch_text fs x ≡ batch_text gs x
same_batch none none h x = refl
same_batch none (field m b v j gs) h x = cc
same_batch (field n a u k fs) none h x = cc
same_batch (field n a u k fs) (field m b v j gs) h x = same_rows (field n a u k fs) (field m b v j gs) h x.columns 0 x.rows

pub same_batches : (fs gs : Fields) → print_forms fs ≡ print_forms gs → (xs : List TableBatch) → batches_text fs xs ≡ batches_text gs xs
same_batches fs gs h [] = refl
same_batches fs gs h (x ∷ xs) = rw (same_batch fs gs h x, same_batches fs gs h xs) refl

pub same_header : (fs gs : Fields) → print_forms fs ≡ print_forms gs → header_text fs ≡ header_text gs
same_header none none h = refl
same_header none (field m b v j gs) h = cc
same_header (field n a u k fs) none h = cc
same_header (field n a u k fs) (field m b v j gs) h = ap (row_text default_writer) (same_names (field n a u k fs) (field m b v j gs) h)

pub same_nested : (fs gs : Fields) → print_forms fs ≡ print_forms gs → are_nested fs ≡ are_nested gs
same_nested none none h = refl
same_nested none (field m b v j gs) h = cc
same_nested (field n a u k fs) none h = cc
same_nested (field n a u k fs) (field m b v j gs) h =
    let first = first_form (n, scale_in k, is_day_time k, is_nested k) (m, scale_in j, is_day_time j, is_nested j) (print_forms fs) (print_forms gs) h in
    let here : is_nested k ≡ is_nested j = ap (λ (p : Printed). p.3) first in
    let rest = same_nested fs gs (other_forms (n, scale_in k, is_day_time k, is_nested k) (m, scale_in j, is_day_time j, is_nested j) (print_forms fs) (print_forms gs) h) in
    rw (here, rest) refl
