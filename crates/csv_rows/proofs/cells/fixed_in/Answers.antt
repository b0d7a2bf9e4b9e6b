use Rattle.std.proofs.Common.{◌≡◌, ◌∙◌, sym, ap, Bool, true, false, List, Some, Bor}
use Rattle.std.specs.Option.{option_map}
use Rattle.arrow_spec.specs.Cells as cells
use Rattle.arrow_buffers.specs.Rows.{is_valid}
use Rattle.arrow_buffers.specs.Layouts.{binary_size}
use Rattle.arrow_buffers.specs.Leaf.{fixed_row, fixed_rows}
use Rattle.arrow_arrays.proofs.CellRows.{read_valid, null_told, valid_told}
use Rattle.csv_rows.proofs.cells.fixed_in.Goals as goal

pub returns-then-is_valid_in : goal.returns-then-is_valid_in
returns-then-is_valid_in c =
    let valid : is_valid c.args.array.now.validity c.args.row ≡ true = read_valid c.args.array.now.validity (option_map (λ (bits : Bor (List Bool)). bits.now) c.validity.result) c.args.row c.is_valid_in.result true c.validity.ensures.bits c.is_valid_in.ensures c.if-is_valid_in.true in
    valid_told (λ row. cells.bytes (fixed_row (binary_size c.args.array.now.kind) c.args.array.now.values row)) c.args.array.now.validity c.args.row (fixed_rows c.args.array.now) c.validity.ensures.rows c.requires valid ∙ ap (λ x. Some (cells.bytes x)) (sym c.value.ensures)

pub returns-else-is_valid_in : goal.returns-else-is_valid_in
returns-else-is_valid_in c =
    let valid : is_valid c.args.array.now.validity c.args.row ≡ false = read_valid c.args.array.now.validity (option_map (λ (bits : Bor (List Bool)). bits.now) c.validity.result) c.args.row c.is_valid_in.result false c.validity.ensures.bits c.is_valid_in.ensures c.if-is_valid_in.false in
    null_told (λ row. cells.bytes (fixed_row (binary_size c.args.array.now.kind) c.args.array.now.values row)) c.args.array.now.validity c.args.row (fixed_rows c.args.array.now) c.validity.ensures.rows c.requires valid
