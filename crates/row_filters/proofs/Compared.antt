-- What is answered of a row's number beside a filter's.
use Rattle.std.proofs.Common.{◌≡◌, ◌∙◌, refl, sym, ap, ℤ, Bool, true, false, cond}
use Rattle.std.specs.Prelude.{int_lt, if◌then◌else◌}
use Rattle.std.specs.declared.cmp.Ordering.TheVariants.{Less, Equal, Greater}
use Rattle.arrow_spec.specs.Cells.{Cell, number}
use Rattle.filter_types.specs.Comparisons.{holds}
use Rattle.filter_types.specs.declared.filter.Filter.{Filter}
use Rattle.filter_types.specs.declared.filter.FilterOp.{FilterOp}
use Rattle.row_filters.specs.Compared.{answer_of}
use Rattle.row_filters.specs.Filters.{meets, number_in}
use Rattle.row_filters.specs.declared.marks.Answers.{Answers}

picked : (op : FilterOp) (less greater : Bool) → (if less then holds op Less else if greater then holds op Greater else holds op Equal) ≡ holds op (cond less Less (cond greater Greater Equal))
picked op true greater = refl
picked op false true = refl
picked op false false = refl

-- the answer is whether the cell meets the filter
pub answer_meets : (f : Filter) (x : Cell) (z n : ℤ) (a : Answers) → number z ≡ x → n ≡ f.number → a ≡ record { less = holds f.op Less; equal = holds f.op Equal; greater = holds f.op Greater } → answer_of (number_in x) n a ≡ meets f x
answer_meets f x z n a is same answers =
    ap (λ y. answer_of (number_in y) n a) (sym is) ∙ ap (λ m. answer_of z m a) same ∙ ap (answer_of z f.number) answers
    ∙ picked f.op (int_lt z f.number) (int_lt f.number z) ∙ ap (meets f) is
