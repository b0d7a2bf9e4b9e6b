use Rattle.std.proofs.Common.{◌≡◌, false}
use Rattle.arrow_spec.specs.Faults.{some_row}
use Rattle.view_types.specs.Tops.{top_in}
use Rattle.ipc_view.specs.Dictionaries.{is_bad_key}
use Rattle.ipc_view.proofs.dictionaries.keys_fit.Given as goal

abbrev pub invariant-loop-row : goal.invariant-loop-row
invariant-loop-row l = some_row (is_bad_key (top_in l.parts) l.keys l.held) l.row ≡ false
