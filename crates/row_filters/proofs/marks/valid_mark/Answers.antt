use Rattle.std.proofs.Common.{◌≡◌, ◌∙◌, sym, ap, true, length}
use Rattle.arrow_spec.specs.Arrays.{cell_or_null}
use Rattle.arrow_spec.specs.Flat.{little}
use Rattle.arrow_types.specs.Physical.{physical_of}
use Rattle.arrow_buffers.specs.Layouts.{is_primitive}
use Rattle.arrow_buffers.specs.Rows.{is_valid}
use Rattle.arrow_arrays.proofs.NumberParts.{leaf_suits}
use Rattle.arrow_arrays.proofs.CellRows.{valid_number}
use Rattle.row_filters.specs.Filters.{meets, number_in}
use Rattle.row_filters.proofs.Compared.{answer_meets}
use Rattle.row_filters.proofs.marks.valid_mark.Goals as goal

pub returns : goal.returns
returns g c =
    let a = c.args.array.now in
    let f = c.args.filter in
    let x = c.value-value.result in
    let valid : is_valid a.validity c.args.row ≡ true = c.requires.valid in
    let suits = leaf_suits (is_primitive g.T.NativeType.PRIMITIVE (physical_of a.kind)) (length a.values) a.validity c.len.ensures.sound in
    c.answer.ensures
    ∙ answer_meets f (g.T.NativeType.cell x) c.number-held.result (number_in (g.T.NativeType.cell c.args.number)) c.args.answers c.number-held.ensures.cell c.requires.same c.requires.answers
    ∙ ap (meets f) (sym (g.met.T.FilterNumber.cell_under a.kind x c.number-held.ensures.fits suits))
    ∙ ap (λ o. meets f (cell_or_null o)) (sym (valid_number (g.T.NativeType.written little) a c.args.row x c.validity-bits.ensures.rows valid c.value-value.ensures))
