use Rattle.std.proofs.Common.{◌≡◌, ◌++◌, take}
use Rattle.ipc_dictionaries.specs.Standing.{all_cells, cells_from, IsPlace}
use Rattle.ipc_dictionaries.proofs.comparison.begin.Given as goal

abbrev pub invariant-loop-part : goal.invariant-loop-part
invariant-loop-part l = (all_cells l.parts ≡ all_cells (take l.part-index l.held) ++ cells_from l.parts l.at) × IsPlace l.parts l.at
