use Rattle.std.proofs.Common.{map, take}
use Rattle.ipc_concat.specs.Concat.{EachKept}
use Rattle.ipc_concat.specs.Files.{AreAlike, AreUnread}
use Rattle.ipc_concat.proofs.opening.open_files.Given as goal

abbrev pub invariant-loop-i : goal.invariant-loop-i
invariant-loop-i g l = record {
  opened : AreUnread (take l.i (map g.S.Source.content l.initial.sources)) l.readers.items;
  alike : AreAlike l.readers.items;
  kept : EachKept g.S.Source.content g.S.Source.faults g.S.Source.references l.initial.sources l.sources;
}
