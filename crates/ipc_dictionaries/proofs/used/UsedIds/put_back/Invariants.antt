use Rattle.std.proofs.Common.{◌≡◌, ◌||◌, ℤ, drop}
use Rattle.ipc_dictionaries.specs.Used.{used_by, is_among}
use Rattle.ipc_dictionaries.proofs.used.UsedIds.put_back.Given as goal

abbrev pub invariant-loop-i : goal.invariant-loop-i
invariant-loop-i l = record {
  used : (q : ℤ) → (used_by l.self q || is_among q (drop l.i l.self.trail.items)) ≡ (used_by l.fn.self q || is_among q (drop l.count l.fn.self.trail.items));
  trail : l.self.trail.items ≡ l.fn.self.trail.items;
}
