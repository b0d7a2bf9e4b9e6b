-- The rows of a child to which a row leads are what its cell holds.
use Rattle.std.proofs.Common.{◌≡◌, ℕ, ◌-◌, List, ◌∷◌, Bool, true, false, refl, ap, ◌∙◌}
use Rattle.std.specs.Prelude.{nat_lt}
use Rattle.arrow_spec.specs.Cells.{Cell}
use Rattle.arrow_spec.specs.Counts.{magnitude}
use Rattle.view_types.specs.declared.layout.Layout.{Layout}
use Rattle.view_types.specs.declared.layout.Layout.TheVariants.{Null, Boolean, Number, DayTime, MonthDayNano, Bytes, Views as Viewed, FixedBytes, Lists, FixedLists, Struct, Union, Dictionary}
use Rattle.view_types.specs.Views.{Top, Views, array, none, also, cell_among, cell_of, cells_each, child_cell, held_in, if_set, number_in, rows_each, rows_of}
use Rattle.view_types.specs.Spans.{SpansAreCells, has_spans, part_among, span_cell, span_in, tag_of}
use Rattle.arrow_spec.specs.Arrays.{from_on}

part_step : (m n : ℕ) (ns : List ℕ) (f : ℕ → Cell) (fs : List (ℕ → Cell)) (b : Bool) → nat_lt n m ≡ b → cell_among fs ns (n - m) ≡ child_cell fs (part_among ns (n - m)).0 (part_among ns (n - m)).1
    → cell_among (f ∷ fs) (m ∷ ns) n ≡ child_cell (f ∷ fs) (part_among (m ∷ ns) n).0 (part_among (m ∷ ns) n).1
part_step m n ns f fs true e h = rw e refl
part_step m n ns f fs false e h = rw e h

-- a row among those of several parts is one of its part
pub among : (cs : Views) (n : ℕ) → cell_among (cells_each cs) (rows_each cs) n ≡ child_cell (cells_each cs) (part_among (rows_each cs) n).0 (part_among (rows_each cs) n).1
among none n = refl
among (also v vs) n = part_step (rows_of v) n (rows_each vs) (cell_of v) (cells_each vs) (nat_lt n (rows_of v)) refl (among vs (n - rows_of v))

held_is : (l : Layout) (t : Top) (cs : Views) (row : ℕ) → has_spans l ≡ true
    → held_in l t (cells_each cs) (rows_each cs) row ≡ span_cell l (tag_of (array t cs) row) (from_on (λ j. child_cell (cells_each cs) (span_in l t (rows_each cs) row).child j) (span_in l t (rows_each cs) row).first (span_in l t (rows_each cs) row).count)
held_is (Lists is_large) t cs row h = refl
held_is (FixedLists n) t cs row h = refl
held_is (Union mode) t cs row h = refl
held_is (Dictionary i) t cs row h = among cs (magnitude (number_in t i row))
held_is Null t cs row h = cc
held_is Boolean t cs row h = cc
held_is (Number i) t cs row h = cc
held_is DayTime t cs row h = cc
held_is MonthDayNano t cs row h = cc
held_is (Bytes is_large is_text) t cs row h = cc
held_is (Viewed is_text) t cs row h = cc
held_is (FixedBytes n) t cs row h = cc
held_is Struct t cs row h = cc

pub spans_are_cells : SpansAreCells
spans_are_cells (array t cs) row r h = ap (λ b. if_set b (held_in t.layout t (cells_each cs) (rows_each cs) row)) r.valid ∙ held_is t.layout t cs row h
