use Rattle.std.proofs.Common.{◌≡◌, true, map, take}
use Rattle.std.specs.List.{list_all}
use Rattle.std.specs.Str.{is_utf8}
use Rattle.arrow_columns.specs.Strings.{bytes_each}
use Rattle.arrow_columns.proofs.Laid.{Laid}
use Rattle.arrow_columns.proofs.strings.texts.Given as goal

abbrev pub invariant-loop-row : goal.invariant-loop-row
invariant-loop-row g l = record {
  laid : Laid g.O.Offset.limit (bytes_each (take l.row-index l.rows)) (map g.O.Offset.number l.offsets.items) l.values.items;
  texts : list_all is_utf8 (bytes_each (take l.row-index l.rows)) ≡ true;
}
