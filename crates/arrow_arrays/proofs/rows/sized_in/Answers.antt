use Rattle.std.proofs.Common.{◌≡◌, ◌∙◌, ◌*◌, sym, ap, Bool, true, false, List, Some, Bor, arith}
use Rattle.std.specs.Option.{option_map}
use Rattle.arrow_spec.specs.Cells as cells
use Rattle.arrow_spec.specs.Cells.{cells_of}
use Rattle.arrow_buffers.specs.Rows.{is_valid, part}
use Rattle.arrow_arrays.specs.Heads.{sized, head_cell, first_of, first_or_0, list_size}
use Rattle.arrow_arrays.specs.Parts.{rows_in, cells_in, cells_each, rows_each, trees_size}
use Rattle.arrow_arrays.specs.PartsOf.{parts_of}
use Rattle.arrow_arrays.proofs.CellRows.{read_valid, null_told, valid_told}
use Rattle.arrow_arrays.proofs.rows.sized_in.Goals as goal

pub returns-then-is_valid_in-clause-cell : goal.returns-then-is_valid_in-clause-cell
returns-then-is_valid_in-clause-cell c =
    let h = c.args.array.now.head in
    let cs = c.args.array.now.children in
    let valid : is_valid h.validity c.args.row ≡ true = read_valid h.validity (option_map (λ (bits : Bor (List Bool)). bits.now) c.validity.result) c.args.row c.is_valid_in.result true c.validity.ensures.bits c.is_valid_in.ensures c.if-is_valid_in.true in
    let size = list_size h.kind in
    let items : first_of (cells_each cs) ≡ cells_in (parts_of c.values.result.now) = sym (ap (λ t. first_of (cells_each t)) c.values.ensures) in
    valid_told (head_cell (sized h) (cells_each cs)) h.validity c.args.row h.rows c.validity.ensures.rows c.requires valid
    ∙ ap (λ xs. Some (cells.«list» (cells_of (part (size * c.args.row) size xs)))) items
    ∙ ap (λ n. Some (cells.«list» (cells_of (part n size (cells_in (parts_of c.values.result.now)))))) (sym c.range-from.ensures.from)
    ∙ ap (λ n. Some (cells.«list» (cells_of (part c.range-from.result.0 n (cells_in (parts_of c.values.result.now)))))) (sym c.range-from.ensures.count)

pub returns-then-is_valid_in-clause-inside : goal.returns-then-is_valid_in-clause-inside
returns-then-is_valid_in-clause-inside c =
    let e : first_or_0 (rows_each c.args.array.now.children) ≡ rows_in (parts_of c.values.result.now) = sym (ap (λ t. first_or_0 (rows_each t)) c.values.ensures) in
    omega (arith, c.range-from.ensures.within)

pub returns-then-is_valid_in-clause-smaller : goal.returns-then-is_valid_in-clause-smaller
returns-then-is_valid_in-clause-smaller c = omega (arith, ap trees_size c.values.ensures)

pub returns-else-is_valid_in-clause-cell : goal.returns-else-is_valid_in-clause-cell
returns-else-is_valid_in-clause-cell c =
    let h = c.args.array.now.head in
    let valid : is_valid h.validity c.args.row ≡ false = read_valid h.validity (option_map (λ (bits : Bor (List Bool)). bits.now) c.validity.result) c.args.row c.is_valid_in.result false c.validity.ensures.bits c.is_valid_in.ensures c.if-is_valid_in.false in
    null_told (head_cell (sized h) (cells_each c.args.array.now.children)) h.validity c.args.row h.rows c.validity.ensures.rows c.requires valid
