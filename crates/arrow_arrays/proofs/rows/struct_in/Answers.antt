use Rattle.std.proofs.Common.{◌≡◌, ◌∙◌, ◌+◌, ◌≤◌, sym, ap, subst, Bool, true, false, List, Some, Bor, arith}
use Rattle.std.specs.Option.{option_map}
use Rattle.arrow_spec.specs.Cells as cells
use Rattle.arrow_spec.specs.Cells.{cells_of}
use Rattle.arrow_buffers.specs.Rows.{is_valid}
use Rattle.arrow_arrays.specs.Heads.{structured, head_cell, across, Reaches, run}
use Rattle.arrow_arrays.specs.Parts.{Forest, cells_each, rows_each, trees_size}
use Rattle.arrow_arrays.proofs.CellRows.{read_valid, null_told, valid_told}
use Rattle.arrow_arrays.proofs.HeadSliced.{head_reaches}
use Rattle.arrow_arrays.proofs.Sliced.{top_sound}
use Rattle.arrow_arrays.proofs.rows.struct_in.Goals as goal

pub returns-then-is_valid_in-clause-cell : goal.returns-then-is_valid_in-clause-cell
returns-then-is_valid_in-clause-cell c =
    let h = c.args.array.now.head in
    let cs = c.args.array.now.children in
    let valid : is_valid h.validity c.args.row ≡ true = read_valid h.validity (option_map (λ (bits : Bor (List Bool)). bits.now) c.validity.result) c.args.row c.is_valid_in.result true c.validity.ensures.bits c.is_valid_in.ensures c.if-is_valid_in.true in
    valid_told (head_cell (structured h) (cells_each cs)) h.validity c.args.row h.rows c.validity.ensures.rows c.requires valid
    ∙ ap (λ t. Some (cells.struct (cells_of (across (cells_each t) c.args.row)))) (sym c.values.ensures)

pub returns-then-is_valid_in-clause-inside : goal.returns-then-is_valid_in-clause-inside
returns-then-is_valid_in-clause-inside c =
    let h = c.args.array.now.head in
    let cs = c.args.array.now.children in
    let le : c.args.row + 1 ≤ h.rows = omega (arith, c.requires) in
    subst (λ (t : Forest). Reaches (run c.args.row 1) (rows_each t)) (sym c.values.ensures) (head_reaches c.args.row 1 (structured h) (rows_each cs) (top_sound (structured h) cs c.len.ensures.sound).0.rows le)

pub returns-then-is_valid_in-clause-smaller : goal.returns-then-is_valid_in-clause-smaller
returns-then-is_valid_in-clause-smaller c = omega (arith, ap trees_size c.values.ensures)

pub returns-else-is_valid_in-clause-cell : goal.returns-else-is_valid_in-clause-cell
returns-else-is_valid_in-clause-cell c =
    let h = c.args.array.now.head in
    let valid : is_valid h.validity c.args.row ≡ false = read_valid h.validity (option_map (λ (bits : Bor (List Bool)). bits.now) c.validity.result) c.args.row c.is_valid_in.result false c.validity.ensures.bits c.is_valid_in.ensures c.if-is_valid_in.false in
    null_told (head_cell (structured h) (cells_each c.args.array.now.children)) h.validity c.args.row h.rows c.validity.ensures.rows c.requires valid
