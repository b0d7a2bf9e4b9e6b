use Rattle.std.proofs.Common.{◌≡◌, Bool, true, false, List, Bor, map, length}
use Rattle.std.specs.Option.{option_map}
use Rattle.std.proofs.lemmas.List.{length-map}
use Rattle.arrow_spec.specs.Cells as cells
use Rattle.arrow_buffers.specs.Rows.{is_valid}
use Rattle.arrow_arrays.proofs.CellRows.{read_valid, null_row, valid_row, get-map}
use Rattle.csv_rows.proofs.cells.bit_in.Goals as goal

pub returns-then-is_valid_in : goal.returns-then-is_valid_in
returns-then-is_valid_in c =
    let valid : is_valid c.args.array.now.validity c.args.row ≡ true = read_valid c.args.array.now.validity (option_map (λ (bits : Bor (List Bool)). bits.now) c.validity.result) c.args.row c.is_valid_in.result true c.validity.ensures.bits c.is_valid_in.ensures c.if-is_valid_in.true in
    valid_row c.args.array.now.validity (map cells.bool c.args.array.now.values) c.args.row (length c.args.array.now.values) (cells.bool c.value.result) (length-map c.args.array.now.values cells.bool) c.validity.ensures.rows valid (get-map cells.bool c.args.array.now.values c.args.row c.value.result c.value.ensures)

pub returns-else-is_valid_in : goal.returns-else-is_valid_in
returns-else-is_valid_in c =
    let valid : is_valid c.args.array.now.validity c.args.row ≡ false = read_valid c.args.array.now.validity (option_map (λ (bits : Bor (List Bool)). bits.now) c.validity.result) c.args.row c.is_valid_in.result false c.validity.ensures.bits c.is_valid_in.ensures c.if-is_valid_in.false in
    null_row c.args.array.now.validity (map cells.bool c.args.array.now.values) c.args.row (length c.args.array.now.values) (length-map c.args.array.now.values cells.bool) c.validity.ensures.rows c.requires valid
