use Rattle.std.proofs.Common.{◌∙◌, ap, sym}
use Rattle.std.specs.Option.{option_map}
use Rattle.arrow_types.specs.Schemas.{entry_of}
use Rattle.arrow_types.proofs.DataTypes.{kind_of_child}
use Rattle.row_filters.specs.Filters.{is_of_numbers}
use Rattle.ipc_scan.proofs.TestedColumns.{tested_at}
use Rattle.ipc_scan.proofs.scanner.is_tested.Goals as goal

pub returns : goal.returns
returns c =
    let f = c.in-Some.field.now in
    c.are_numbers.ensures ∙ ap is_of_numbers (sym (kind_of_child f)) ∙ sym (tested_at c.args.schema.now c.args.index _ (sym c.get_at_index.ensures ∙ ap (option_map entry_of) c.in-Some.is))
