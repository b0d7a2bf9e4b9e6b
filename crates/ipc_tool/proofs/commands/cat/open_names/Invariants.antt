use Rattle.std.proofs.Common.{◌≡◌, ◌≤◌, map, take}
use Rattle.ipc_words.specs.Views.{texts}
use Rattle.ipc_tool.specs.Commands.Cat.{AreHeld, NoneHasFailed}
use Rattle.ipc_tool.proofs.commands.cat.open_names.Given as goal

abbrev pub invariant-loop-name : goal.invariant-loop-name
invariant-loop-name g l = record {
  opened : AreHeld (g.H.Shelf.held l.fn.shelf) (texts (take l.name-index l.names)) (map g.H.File.Source.content l.files.items);
  sound : NoneHasFailed (map g.H.File.Source.faults l.files.items);
  held : g.H.Shelf.held l.shelf ≡ g.H.Shelf.held l.fn.shelf;
  later : g.H.Shelf.faults l.fn.shelf ≤ g.H.Shelf.faults l.shelf;
}
