use Rattle.std.proofs.Common.{◌≡◌, ◌-◌, drop, false, length, map}
use Rattle.arrow_types.specs.KindOf.{kind_of}
use Rattle.laws_unify.specs.United.{finished, lists_large}
use Rattle.ipc_unify.specs.Steps.{AreKept, lists_of}
use Rattle.ipc_unify.proofs.finished.finish_lists.Given as goal

abbrev pub invariant-loop-turn : goal.invariant-loop-turn
invariant-loop-turn l = record {
  lists : lists_of l.lists.items ≡ finished (drop (length l.types - l.turn) (map kind_of l.types)) (length l.types - l.turn) (lists_of l.fn.lists.items);
  kept : AreKept l.lists.items;
  small : lists_large (finished (map kind_of l.types) 0 (lists_of l.fn.lists.items)) (drop (length l.types - l.turn) (map kind_of l.types)) (length l.types - l.turn) (lists_of l.fn.lists.items) ≡ false;
}
