use Rattle.std.proofs.Common.{◌≡◌, ◌∙◌, sym, ap, Bool, true, false, List, Some, Bor, length}
use Rattle.std.specs.Option.{option_map}
use Rattle.arrow_buffers.specs.Rows.{is_valid}
use Rattle.arrow_spec.specs.Flat.{little}
use Rattle.arrow_types.specs.Physical.{physical_of}
use Rattle.arrow_buffers.specs.Layouts.{is_primitive}
use Rattle.arrow_arrays.proofs.NumberParts.{leaf_suits}
use Rattle.arrow_arrays.proofs.CellRows.{read_valid, null_number, valid_number}
use Rattle.csv_rows.proofs.cells.number_in.Goals as goal

pub returns-then-is_valid_in : goal.returns-then-is_valid_in
returns-then-is_valid_in g c =
    let valid : is_valid c.args.array.now.validity c.args.row ≡ true = read_valid c.args.array.now.validity (option_map (λ (bits : Bor (List Bool)). bits.now) c.validity.result) c.args.row c.is_valid_in.result true c.validity.ensures.bits c.is_valid_in.ensures c.if-is_valid_in.true in
    let suits = leaf_suits (is_primitive g.T.NativeType.PRIMITIVE (physical_of c.args.array.now.kind)) (length c.args.array.now.values) c.args.array.now.validity c.len.ensures.sound in
    valid_number (g.T.NativeType.written little) c.args.array.now c.args.row c.value.result c.validity.ensures.rows valid c.value.ensures ∙ ap Some (g.met.T.RowNumber.cell_under c.args.array.now.kind c.value.result c.row_value.ensures.fits suits ∙ sym c.row_value.ensures.cell)

pub returns-else-is_valid_in : goal.returns-else-is_valid_in
returns-else-is_valid_in g c =
    let valid : is_valid c.args.array.now.validity c.args.row ≡ false = read_valid c.args.array.now.validity (option_map (λ (bits : Bor (List Bool)). bits.now) c.validity.result) c.args.row c.is_valid_in.result false c.validity.ensures.bits c.is_valid_in.ensures c.if-is_valid_in.false in
    null_number (g.T.NativeType.written little) c.args.array.now c.args.row c.validity.ensures.rows c.requires valid
