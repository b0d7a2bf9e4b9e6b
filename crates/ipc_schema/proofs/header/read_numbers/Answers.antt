use Rattle.std.proofs.Common.{◌≡◌, [], ◌∷◌, ◌++◌, arith, rules}
use Rattle.ipc_schema.proofs.Items.{more_read, all_read}
use Rattle.ipc_schema.proofs.header.read_numbers.Goals as goal

pub loop-i-preserved : goal.loop-i-preserved
loop-i-preserved c =
    let grown : c.push.new.self.items ≡ c.loop-i.numbers.items ++ c.in_ok-number.number ∷ [] = search rules in
    more_read _ _ _ _ _ _ _ (omega arith) c.loop-i.invariant c.in_ok-number.ensures.gives grown

pub returns : goal.returns
returns c = record { gives = all_read _ _ _ _ _ (omega arith) c.loop-i.invariant }
