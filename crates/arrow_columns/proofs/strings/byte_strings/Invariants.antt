use Rattle.std.proofs.Common.{map, take}
use Rattle.arrow_columns.specs.Strings.{bytes_each}
use Rattle.arrow_columns.proofs.Laid.{Laid}
use Rattle.arrow_columns.proofs.strings.byte_strings.Given as goal

abbrev pub invariant-loop-row : goal.invariant-loop-row
invariant-loop-row g l = Laid g.O.Offset.limit (bytes_each (take l.row-index l.rows)) (map g.O.Offset.number l.offsets.items) l.values.items
