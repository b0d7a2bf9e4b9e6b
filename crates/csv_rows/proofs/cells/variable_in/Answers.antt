use Rattle.std.proofs.Common.{◌≡◌, ◌∙◌, sym, ap, Bool, true, false, List, Some, Bor}
use Rattle.std.specs.Option.{option_map}
use Rattle.arrow_buffers.specs.Rows.{is_valid, bytes_cell}
use Rattle.arrow_buffers.specs.Variable.{row_bytes, variable_rows}
use Rattle.arrow_arrays.proofs.CellRows.{read_valid, null_told, valid_told}
use Rattle.csv_rows.proofs.cells.variable_in.Goals as goal

pub returns-then-is_valid_in : goal.returns-then-is_valid_in
returns-then-is_valid_in g c =
    let valid : is_valid c.args.array.now.validity c.args.row ≡ true = read_valid c.args.array.now.validity (option_map (λ (bits : Bor (List Bool)). bits.now) c.validity.result) c.args.row c.is_valid_in.result true c.validity.ensures.bits c.is_valid_in.ensures c.if-is_valid_in.true in
    valid_told (λ row. bytes_cell g.V.ViewType.IS_TEXT (row_bytes c.args.array.now.offsets c.args.array.now.values row)) c.args.array.now.validity c.args.row (variable_rows c.args.array.now.offsets) c.validity.ensures.rows c.requires valid ∙ ap (λ x. Some (bytes_cell g.V.ViewType.IS_TEXT x)) (sym c.value.ensures) ∙ ap Some (sym c.bytes_value.ensures)

pub returns-else-is_valid_in : goal.returns-else-is_valid_in
returns-else-is_valid_in g c =
    let valid : is_valid c.args.array.now.validity c.args.row ≡ false = read_valid c.args.array.now.validity (option_map (λ (bits : Bor (List Bool)). bits.now) c.validity.result) c.args.row c.is_valid_in.result false c.validity.ensures.bits c.is_valid_in.ensures c.if-is_valid_in.false in
    null_told (λ row. bytes_cell g.V.ViewType.IS_TEXT (row_bytes c.args.array.now.offsets c.args.array.now.values row)) c.args.array.now.validity c.args.row (variable_rows c.args.array.now.offsets) c.validity.ensures.rows c.requires valid
