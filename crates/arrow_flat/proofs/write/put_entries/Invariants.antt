use Rattle.std.proofs.Common.{◌≡◌, ◌+◌, ◌-◌, ◌*◌, ◌≤◌, ◌++◌, length, drop}
use Rattle.arrow_spec.specs.Layout.{entries, inline_end}
use Rattle.arrow_flat.specs.Nodes.{slots_of}
use Rattle.arrow_flat.proofs.write.put_entries.Given as goal

abbrev pub invariant-loop-i : goal.invariant-loop-i
invariant-loop-i l =
    let rest = slots_of (drop l.i l.slots) in
    record {
      bytes : l.out.items ++ entries rest l.place l.at (l.count - l.i) ≡ l.initial.out.items ++ entries (slots_of l.slots) l.place (l.place + 4) l.count;
      end : inline_end rest l.at ≡ inline_end (slots_of l.slots) (l.place + 4);
      behind : l.place + 4 ≤ l.at;
      len : length l.out.items ≡ length l.initial.out.items + 2 * l.i;
    }
