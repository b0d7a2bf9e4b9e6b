use Rattle.std.proofs.Common.{◌≡◌, true, get_or, string_bytes, bytes_eq, ap, sym, subst, ◌∙◌, ◌++◌, length, take, drop}
use Rattle.std.proofs.lemmas.List.{length-set, get_or_default}
use Rattle.ipc_disk.specs.Shelves.{with_bytes}
use Rattle.ipc_disk.proofs.Shelves.{stored_at}
use Rattle.ipc_disk.proofs.shelf.store.Goals as goal

pub returns-then-eq : goal.returns-then-eq
returns-then-eq c =
    let text : c.as_str.result.now ≡ string_bytes (get_or c.loop-at.entries c.loop-at.at c.index-entries-at.result).name = c.as_str.ensures.value in
    let entry = get_or_default c.loop-at.entries c.loop-at.at c.index-entries-at.result c.index-entries-at-then-eq.result c.loop-at-test.true in
    let is : bytes_eq (string_bytes (get_or c.loop-at.entries c.loop-at.at c.index-entries-at-then-eq.result).name) c.args.name.now ≡ true = subst (λ x. bytes_eq (string_bytes x.name) c.args.name.now ≡ true) entry (subst (λ t. bytes_eq t c.args.name.now ≡ true) text (sym c.if-eq.ensures)) in
    let inv = c.loop-at.invariant in
    let same : c.loop-at.entries ≡ c.args.entries.now = inv.0 in
    record {
      stored = stored_at c.loop-at.entries c.loop-at.at c.index-entries-at-then-eq.result c.args.name.now c.args.bytes c.loop-at-test.true is (subst (λ es. with_bytes es c.args.name.now c.args.bytes ≡ take c.loop-at.at es ++ with_bytes (drop c.loop-at.at es) c.args.name.now c.args.bytes) (sym same) inv.2) ∙ ap (λ es. with_bytes es c.args.name.now c.args.bytes) same;
      length = length-set c.loop-at.entries c.loop-at.at _ ∙ ap length same;
    }
