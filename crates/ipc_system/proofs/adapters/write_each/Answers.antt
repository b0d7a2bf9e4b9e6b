use Rattle.std.proofs.Common.{◌≡◌, ◌-◌, ◌+◌, ◌++◌, ℕ, List, length, take, drop, ap, sym, ◌∙◌, arith, subst, length-drop}
use Rattle.std.proofs.lemmas.List.{take_all}
use Rattle.std.proofs.Math.Seq.{take-add}
use Rattle.std.proofs.lemmas.Grind.{common_steps}
use Rattle.std.proofs.KnownBytes.{Appends-trans}
use Rattle.std.specs.Io.KnownBytes.{Appends}
use Rattle.ipc_system.proofs.adapters.write_each.Goals as goal

-- the next m after the first n
take_more : (xs : List ℕ) (n m : ℕ) → take n xs ++ take m (take (length xs - n) (drop n xs)) ≡ take (n + m) xs
take_more xs n m = ap (λ l. take n xs ++ take m l) (take_all (length xs - n) (drop n xs) (omega (arith, length-drop n xs))) ∙ sym (take-add n m xs)

pub loop-done-preserved : goal.loop-done-preserved
loop-done-preserved g c =
    let i = c.loop-done.invariant in record {
      within = grind (arith, common_steps);
      written = subst (Appends (g.W.Write.contents c.args.writer.now) (g.W.Write.contents c.write_once.new.writer)) (take_more c.args.bytes.now c.loop-done.done c.in_ok-count.count) (Appends-trans _ _ _ _ _ i.written c.in_ok-count.ensures.bytes);
    }
