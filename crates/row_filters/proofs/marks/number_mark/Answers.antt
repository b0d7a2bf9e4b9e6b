use Rattle.std.proofs.Common.{◌≡◌, sym, ap, Bool, true, false, List, Bor}
use Rattle.std.specs.Option.{option_map}
use Rattle.arrow_spec.specs.Arrays.{cell_or_null}
use Rattle.arrow_spec.specs.Flat.{little}
use Rattle.arrow_buffers.specs.Rows.{is_valid}
use Rattle.arrow_arrays.proofs.CellRows.{read_valid, null_number}
use Rattle.row_filters.specs.Filters.{meets}
use Rattle.row_filters.proofs.marks.number_mark.Goals as goal

pub valid_mark-requires-clause-valid : goal.valid_mark-requires-clause-valid
valid_mark-requires-clause-valid g c =
    let a = c.args.array.now in
    read_valid a.validity (option_map (λ (bits : Bor (List Bool)). bits.now) c.validity.result) c.args.row c.is_valid_in.result true c.validity.ensures.bits c.is_valid_in.ensures c.if-is_valid_in.true

pub returns-else-is_valid_in : goal.returns-else-is_valid_in
returns-else-is_valid_in g c =
    let a = c.args.array.now in
    let valid : is_valid a.validity c.args.row ≡ false = read_valid a.validity (option_map (λ (bits : Bor (List Bool)). bits.now) c.validity.result) c.args.row c.is_valid_in.result false c.validity.ensures.bits c.is_valid_in.ensures c.if-is_valid_in.false in
    ap (λ o. meets c.args.filter (cell_or_null o)) (sym (null_number (g.T.NativeType.written little) a c.args.row c.validity.ensures.rows c.requires.below valid))
