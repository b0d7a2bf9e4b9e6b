use Rattle.std.proofs.Common.{◌≡◌, ◌∙◌, sym, ap, true≢false}
use Rattle.arrow_arrays.specs.Parts.{kind_in, cells_in}
use Rattle.arrow_arrays.specs.PartsOf.{parts_of}
use Rattle.arrow_arrays.specs.CellCode.{content_eq_told}
use Rattle.arrow_arrays.specs.Contents.{content_of}
use Rattle.arrow_arrays.proofs.same.ArrayPartialEq.eq.Goals as goal

pub returns-then-eq-clause-eq : goal.returns-then-eq-clause-eq
returns-then-eq-clause-eq c =
    let kind : kind_in (parts_of c.args.self.now) ≡ kind_in (parts_of c.args.other.now) = sym c.dtype.ensures ∙ c.eq.ensures.same.0 c.if-eq.true ∙ c.dtype-2.ensures in
    content_eq_told c.have_same_cells.result (content_of c.args.self.now) (content_of c.args.other.now) (
      λ h. ap (λ k. (k, cells_in (parts_of c.args.self.now))) kind ∙ ap (λ cs. (kind_in (parts_of c.args.other.now), cs)) (c.have_same_cells.ensures.0 h),
      λ e. c.have_same_cells.ensures.1 (ap (λ p. p.1) e),
    )

pub returns-else-eq-clause-eq : goal.returns-else-eq-clause-eq
returns-else-eq-clause-eq c =
    content_eq_told c.eq.result (content_of c.args.self.now) (content_of c.args.other.now) (
      λ h. absurd (true≢false (sym h ∙ c.if-eq.false)),
      λ e. c.eq.ensures.same.1 (c.dtype.ensures ∙ ap (λ p. p.0) e ∙ sym c.dtype-2.ensures),
    )
