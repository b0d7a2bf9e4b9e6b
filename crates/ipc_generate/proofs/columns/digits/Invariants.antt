use Rattle.std.proofs.Common.{◌≡◌, ◌*◌, true, length, map, take}
use Rattle.std.specs.List.{list_all}
use Rattle.std.specs.Str.{is_utf8}
use Rattle.arrow_columns.proofs.Laid.{Laid}
use Rattle.ipc_generate.specs.Arrays.{digits_of}
use Rattle.ipc_generate.proofs.columns.digits.Given as goal

abbrev pub invariant-loop-x : goal.invariant-loop-x
invariant-loop-x l = record {
  laid : Laid 2147483648 (map digits_of (take l.x-index l.states)) l.offsets.items l.values.items;
  texts : list_all is_utf8 (map digits_of (take l.x-index l.states)) ≡ true;
  size : length l.values.items ≡ 4 * l.x-index;
}
