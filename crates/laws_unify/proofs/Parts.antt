-- Parts behind others, and from a row of them on, hold the values that they should.
use Rattle.std.proofs.Common.{◌≡◌, ◌∙◌, sym, refl, ap, ℕ, ◌+◌, ◌-◌, ◌≤◌, ◌++◌, length, drop, None, arith}
use Rattle.std.specs.Prelude.{nat_le}
use Rattle.std.proofs.lemmas.List.{append_assoc, drop-append-le, length-drop, take_all}
use Rattle.std.proofs.Math.Seq.{drop-append-add, drop-nil}
use Rattle.arrow_arrays.specs.Parts.{Forest, Parts, none, also, cells_in, fault_each, fault_in, rows_in}
use Rattle.arrow_arrays.proofs.Sliced.{cells-part, length-cells, neither}
use Rattle.laws_unify.specs.Laws.{PartsAreTheList}
use Rattle.laws_unify.specs.Over.{values_of}
use Rattle.laws_unify.specs.United.{behind, held_in, parts_from, rows_from}
use Rattle.laws_unify.proofs.Fits.{Says, above_or, below_or, no, says, yes}

pub values_behind : (ps qs : Forest) → values_of (behind ps qs) ≡ values_of ps ++ values_of qs
values_behind none qs = refl
values_behind (also p ps) qs = ap (λ xs. cells_in p ++ xs) (values_behind ps qs) ∙ sym (append_assoc (cells_in p) (values_of ps) (values_of qs))

-- a part from a row on
pub cells_from : (n : ℕ) (p : Parts) → fault_in p ≡ None → n ≤ rows_in p → cells_in (rows_from n p) ≡ drop n (cells_in p)
cells_from n p f le =
    let rows = length-cells p f in
    cells-part n (rows_in p - n) p f (omega (arith, le)) ∙ take_all (rows_in p - n) (drop n (cells_in p)) (omega (arith, rows, length-drop n (cells_in p)))

pub values_from : (n : ℕ) (ps : Forest) → fault_each ps ≡ None → values_of (parts_from n ps) ≡ drop n (values_of ps)
values_from n none f = sym (drop-nil n)
values_from n (also p ps) f = by (says (nat_le (rows_in p) n)) (values_from (n - rows_in p) ps sound.1) (values_from 0 ps sound.1)
  where
    sound : (fault_in p ≡ None) × (fault_each ps ≡ None)
    sound = neither (fault_in p) (fault_each ps) f

    rows : length (cells_in p) ≡ rows_in p
    rows = length-cells p sound.0

    by : Says (nat_le (rows_in p) n) → values_of (parts_from (n - rows_in p) ps) ≡ drop (n - rows_in p) (values_of ps) → values_of (parts_from 0 ps) ≡ values_of ps
        → values_of (parts_from n (also p ps)) ≡ drop n (cells_in p ++ values_of ps)
    by (yes h) e g =
        let le = below_or (rows_in p) n h in
        let m : length (cells_in p) + (n - rows_in p) ≡ n = omega (arith, le, rows) in
        rw (parts_from, h) (e ∙ sym (drop-append-add (cells_in p) (values_of ps) (n - rows_in p)) ∙ ap (λ i. drop i (cells_in p ++ values_of ps)) m)
    by (no h) e g =
        let lt = above_or (rows_in p) n h in
        rw (parts_from, h) (ap (λ xs. xs ++ values_of (parts_from 0 ps)) (cells_from n p sound.0 (omega (arith, lt))) ∙ ap (λ xs. drop n (cells_in p) ++ xs) g ∙ sym (drop-append-le n (cells_in p) (values_of ps) (omega (arith, lt, rows))))

pub parts_are_the_list : PartsAreTheList
parts_are_the_list list parts f = values_behind list (parts_from (held_in list parts) parts) ∙ ap (λ xs. values_of list ++ xs) (values_from (held_in list parts) parts f)
