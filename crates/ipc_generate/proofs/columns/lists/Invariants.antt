use Rattle.std.proofs.Common.{◌≡◌, ◌*◌, ◌≤◌, length, map, take}
use Rattle.std.specs.Prelude.{pos}
use Rattle.std.specs.List.{concat}
use Rattle.arrow_columns.proofs.Laid.{Laid}
use Rattle.ipc_generate.specs.Arrays.{by_rows, items_of}
use Rattle.ipc_generate.proofs.columns.lists.Given as goal

abbrev pub invariant-loop-i : goal.invariant-loop-i
invariant-loop-i l = record {
  laid : Laid 2147483648 (by_rows items_of 0 (take l.i l.states)) l.offsets.items (concat (by_rows items_of 0 (take l.i l.states)));
  items : l.items.items ≡ map pos (concat (by_rows items_of 0 (take l.i l.states)));
  size : length l.items.items ≤ 2 * l.i;
}
