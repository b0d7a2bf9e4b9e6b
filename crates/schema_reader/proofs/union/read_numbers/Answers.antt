use Rattle.std.proofs.Common.{arith, rules, ◌++◌, ◌∷◌, [], SFits, ◌∙◌, ap}
use Rattle.std.specs.Int.{w32}
use Rattle.std.proofs.lemmas.Int.{to_z-of_z}
use Rattle.ipc_fields.proofs.UnionSteps.{numbers_more, numbers_done}
use Rattle.schema_reader.proofs.union.read_numbers.Goals as goal

pub loop-i-preserved : goal.loop-i-preserved
loop-i-preserved c =
    let x = c.number_at-number.result in
    let fits : SFits w32 x = search rules in
    numbers_more c.args.numbers.now c.loop-i.i c.loop-i.read.items c.push.new.self.items x _ (omega arith) c.loop-i.invariant c.number_at-number.ensures (c.in_ok-push.ensures.items ∙ ap (λ y. c.loop-i.read.items ++ y ∷ []) (to_z-of_z w32 x fits))

pub returns : goal.returns
returns c = record { gives = numbers_done c.args.numbers.now c.loop-i.i c.loop-i.read.items _ (omega arith) c.loop-i.invariant }
