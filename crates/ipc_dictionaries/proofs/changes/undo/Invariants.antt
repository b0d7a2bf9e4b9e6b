use Rattle.std.proofs.Common.{◌≡◌, ◌+◌, ℤ, length}
use Rattle.ipc_dictionaries.specs.Changes.{undone, CanUndo}
use Rattle.ipc_dictionaries.specs.Tracker.{held_in}
use Rattle.ipc_dictionaries.proofs.changes.undo.Given as goal

abbrev pub invariant-loop-turn : goal.invariant-loop-turn
invariant-loop-turn l = record {
  can : CanUndo l.changes.items (held_in l.dictionaries);
  given : (q : ℤ) → undone l.changes.items (held_in l.dictionaries) q ≡ undone l.fn.changes.items (held_in l.fn.dictionaries) q;
  left : length l.changes.items + l._turn ≡ length l.fn.changes.items;
}
