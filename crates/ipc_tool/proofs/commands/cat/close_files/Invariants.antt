use Rattle.std.proofs.Common.{◌≡◌, ◌≤◌, ◌⊎◌, map, vec_len}
use Rattle.ipc_io.specs.Outside.{Rose}
use Rattle.ipc_tool.specs.Commands.Cat.{OneHasFailed}
use Rattle.ipc_tool.proofs.commands.cat.close_files.Given as goal

abbrev pub invariant-loop-file : goal.invariant-loop-file
invariant-loop-file g l = record {
  held : g.H.Shelf.held l.shelf ≡ g.H.Shelf.held l.fn.shelf;
  later : g.H.Shelf.faults l.fn.shelf ≤ g.H.Shelf.faults l.shelf;
  rose : OneHasFailed (map g.H.File.Source.faults l.initial.files.items) → OneHasFailed (map g.H.File.Source.faults l.files.items) ⊎ Rose (g.H.Shelf.faults l.fn.shelf) (g.H.Shelf.faults l.shelf);
}

abbrev pub decreases-loop-file : goal.decreases-loop-file
decreases-loop-file g l = vec_len l.files
