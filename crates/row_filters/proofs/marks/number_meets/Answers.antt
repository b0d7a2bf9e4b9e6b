use Rattle.std.proofs.Common.{◌≡◌, ◌∙◌, sym, ap, Bool, true, false, List, Bor, length, rules, to_z, of_z}
use Rattle.std.specs.Int.{w128}
use Rattle.std.proofs.lemmas.Int.{to_z-of_z}
use Rattle.arrow_spec.specs.Cells.{number}
use Rattle.std.specs.Option.{option_map}
use Rattle.arrow_buffers.specs.Rows.{is_valid}
use Rattle.arrow_spec.specs.Arrays.{cell_or_null}
use Rattle.arrow_spec.specs.Flat.{little}
use Rattle.arrow_types.specs.Physical.{physical_of}
use Rattle.arrow_buffers.specs.Layouts.{is_primitive}
use Rattle.arrow_arrays.proofs.NumberParts.{leaf_suits}
use Rattle.arrow_arrays.proofs.CellRows.{read_valid, null_number, valid_number}
use Rattle.row_filters.specs.Filters.{meets}
use Rattle.row_filters.proofs.marks.number_meets.Goals as goal

pub returns-then-is_valid_in : goal.returns-then-is_valid_in
returns-then-is_valid_in g c =
    let a = c.args.array.now in
    let f = c.args.filter in
    let valid : is_valid a.validity c.args.row ≡ true = read_valid a.validity (option_map (λ (bits : Bor (List Bool)). bits.now) c.validity.result) c.args.row c.is_valid_in.result true c.validity.ensures.bits c.is_valid_in.ensures c.if-is_valid_in.true in
    let suits = leaf_suits (is_primitive g.T.NativeType.PRIMITIVE (physical_of a.kind)) (length a.values) a.validity c.len.ensures.sound in
    let z : to_z w128 (of_z w128 c.number.result) ≡ c.number.result = to_z-of_z w128 c.number.result (search rules) in
    c.is_met_by.ensures
    ∙ ap (λ n. meets f (number n)) z
    ∙ ap (meets f) (c.number.ensures.cell ∙ sym (g.met.T.FilterNumber.cell_under a.kind c.value.result c.number.ensures.fits suits))
    ∙ ap (λ o. meets f (cell_or_null o)) (sym (valid_number (g.T.NativeType.written little) a c.args.row c.value.result c.validity.ensures.rows valid c.value.ensures))

pub returns-else-is_valid_in : goal.returns-else-is_valid_in
returns-else-is_valid_in g c =
    let a = c.args.array.now in
    let valid : is_valid a.validity c.args.row ≡ false = read_valid a.validity (option_map (λ (bits : Bor (List Bool)). bits.now) c.validity.result) c.args.row c.is_valid_in.result false c.validity.ensures.bits c.is_valid_in.ensures c.if-is_valid_in.false in
    ap (λ o. meets c.args.filter (cell_or_null o)) (sym (null_number (g.T.NativeType.written little) a c.args.row c.validity.ensures.rows c.requires valid))
