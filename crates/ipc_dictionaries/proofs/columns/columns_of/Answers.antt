use Rattle.std.proofs.Common.{◌≤◌, map, length, ap, ◌∙◌, arith}
use Rattle.std.proofs.lemmas.List.{take_all}
use Rattle.arrow_types.specs.Child.{fields_from}
use Rattle.ipc_dictionaries.proofs.ColumnSteps.{column, columns_are}
use Rattle.ipc_dictionaries.proofs.columns.columns_of.Goals as goal

pub returns : goal.returns
returns c =
    let xs = c.args.arrays.now in
    let le : length xs ≤ c.loop-array.array-index = omega (arith, c.loop-array-test.false) in
    ap fields_from (c.loop-array.invariant ∙ ap (map column) (take_all c.loop-array.array-index xs le)) ∙ columns_are xs
