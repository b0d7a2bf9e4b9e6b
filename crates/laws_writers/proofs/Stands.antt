-- What it says that values stand so to those that are held.
use Rattle.std.proofs.Common.{◌≡◌, ℕ, ◌++◌, List, Bool, true, false, Option, Some, None, length, take, drop, refl, sym, ap, ◌∙◌, arith}
use Rattle.std.specs.Prelude.{nat_lt, if◌then◌else◌}
use Rattle.std.proofs.lemmas.Bool.{ltb-false}
use Rattle.std.proofs.lemmas.List.{take_all, take-append-drop}
use Rattle.arrow_spec.specs.Kinds.{Kind, null}
use Rattle.arrow_spec.specs.Cells.{Cell}
use Rattle.laws_columns.specs.Below.{by_tree_sound}
use Rattle.ipc_messages.specs.Below.{Content, content_eq, content_from, content_from-content_to, content_to, each_of, joined, Forest, cells_each, kinds_each, Standing, Absent, Same, Longer, Other, allowed, are_same_cells, by_cells, delta_start, standing}
use Rattle.laws_writers.specs.Heard.{GoesOn, cells_held}

content_sound : (p q : Content) → content_eq p q ≡ true → p ≡ q
unfolding content_eq
content_sound p q h = by_tree_sound content_to content_from content_from-content_to p q h

same_cells : (xs ys : List Cell) → are_same_cells xs ys ≡ true → xs ≡ ys
same_cells xs ys h = ap (λ (c : Content). c.1) (content_sound (null, xs) (null, ys) h)

-- values that stand so to the cells of those that are held
by_longer : (old new : List Cell) (n : ℕ) → by_cells old new ≡ Longer n → old ≡ take n new
by_longer old new n e = by (are_same_cells old (take (length old) new)) (nat_lt (length old) (length new)) refl e
  where
    by : (b c : Bool) → are_same_cells old (take (length old) new) ≡ b → (if b then (if c then Longer (length old) else Same) else Other) ≡ Longer n → old ≡ take n new
    by true true h k = let count : length old ≡ n = cc in same_cells old (take (length old) new) h ∙ ap (λ m. take m new) count
    by true false h k = cc
    by false c h k = cc

by_same : (old new : List Cell) → by_cells old new ≡ Same → old ≡ new
by_same old new e = by (are_same_cells old (take (length old) new)) (nat_lt (length old) (length new)) refl refl e
  where
    by : (b c : Bool) → are_same_cells old (take (length old) new) ≡ b → nat_lt (length old) (length new) ≡ c → (if b then (if c then Longer (length old) else Same) else Other) ≡ Same → old ≡ new
    by true true h l k = cc
    by true false h l k = same_cells old (take (length old) new) h ∙ take_all (length old) new (omega (arith, ltb-false (length old) (length new) l))
    by false c h l k = cc

-- longer values begin with those that are held
pub longer_begins : (held : Option Forest) (k : Kind) (parts : Forest) (n : ℕ) → standing held k parts ≡ Longer n → cells_held held ≡ Some (take n (joined (cells_each parts)))
longer_begins None k parts n e = cc
longer_begins (Some old) k parts n e = by (each_of k (kinds_each old)) e
  where
    by : (b : Bool) → (if b then by_cells (joined (cells_each old)) (joined (cells_each parts)) else Other) ≡ Longer n → cells_held (Some old) ≡ Some (take n (joined (cells_each parts)))
    by true h = ap Some (by_longer (joined (cells_each old)) (joined (cells_each parts)) n h)
    by false h = cc

-- the same values are those that are held
pub same_are_held : (held : Option Forest) (k : Kind) (parts : Forest) → standing held k parts ≡ Same → cells_held held ≡ Some (joined (cells_each parts))
same_are_held None k parts e = cc
same_are_held (Some old) k parts e = by (each_of k (kinds_each old)) e
  where
    by : (b : Bool) → (if b then by_cells (joined (cells_each old)) (joined (cells_each parts)) else Other) ≡ Same → cells_held (Some old) ≡ Some (joined (cells_each parts))
    by true h = ap Some (by_same (joined (cells_each old)) (joined (cells_each parts)) h)
    by false h = cc

-- a delta begins where longer values do
pub begun_longer : (deltas : Bool) (st : Standing) (n : ℕ) → delta_start deltas st ≡ Some n → st ≡ Longer n
begun_longer true (Longer m) n e = let count : m ≡ n = cc in ap Longer count
begun_longer true Absent n e = cc
begun_longer true Same n e = cc
begun_longer true Other n e = cc
begun_longer false Absent n e = cc
begun_longer false Same n e = cc
begun_longer false (Longer m) n e = cc
begun_longer false Other n e = cc

-- values that are not put are there already
pub kept_same : (fixed deltas : Bool) (st : Standing) → allowed fixed deltas st ≡ Some false → st ≡ Same
kept_same fixed deltas Same e = refl
kept_same fixed deltas Absent e = cc
kept_same fixed true (Longer n) e = cc
kept_same true false (Longer n) e = cc
kept_same false false (Longer n) e = cc
kept_same true deltas Other e = cc
kept_same false deltas Other e = cc

pub never_absent : (old parts : Forest) (k : Kind) → standing (Some old) k parts ≡ Absent → ⊥
never_absent old parts k e = by (each_of k (kinds_each old)) (are_same_cells xs (take (length xs) ys)) (nat_lt (length xs) (length ys)) e
  where
    xs : List Cell
    xs = joined (cells_each old)

    ys : List Cell
    ys = joined (cells_each parts)

    by : (a b c : Bool) → (if a then (if b then (if c then Longer (length xs) else Same) else Other) else Other) ≡ Absent → ⊥
    by true true true h = absurd (let no : Longer (length xs) ≡ Absent = h in cc)
    by true true false h = absurd (let no : Same ≡ Absent = h in cc)
    by true false c h = absurd (let no : Other ≡ Absent = h in cc)
    by false b c h = absurd (let no : Other ≡ Absent = h in cc)

-- values that are put where an id is fixed go on with what is held
pub put_goes_on : (fixed deltas : Bool) (held : Option Forest) (k : Kind) (parts : Forest) → fixed ≡ true → allowed fixed deltas (standing held k parts) ≡ Some true → GoesOn (cells_held held) deltas (Some (joined (cells_each parts)))
put_goes_on fixed deltas None k parts f e = tt
put_goes_on false deltas (Some old) k parts f e = absurd (let no : false ≡ true = f in cc)
put_goes_on true deltas (Some old) k parts f e = by deltas (standing (Some old) k parts) refl e
  where
    by : (d : Bool) (st : Standing) → standing (Some old) k parts ≡ st → allowed true d st ≡ Some true → GoesOn (Some (joined (cells_each old))) d (Some (joined (cells_each parts)))
    by d Absent g h = absurd (never_absent old parts k g)
    by d Same g h = absurd (let no : Some false ≡ Some true = h in cc)
    by true (Longer n) g h =
        let begins : Some (joined (cells_each old)) ≡ Some (take n (joined (cells_each parts))) = longer_begins (Some old) k parts n g in
        let front : joined (cells_each old) ≡ take n (joined (cells_each parts)) = cc in (
          drop n (joined (cells_each parts)),
          ap (λ (z : List Cell). Some z) (sym (take-append-drop n (joined (cells_each parts))) ∙ ap (λ (z : List Cell). z ++ drop n (joined (cells_each parts))) (sym front)),
        )
    by false (Longer n) g h = absurd (let no : None ≡ Some true = h in cc)
    by d Other g h = absurd (let no : None ≡ Some true = h in cc)
