use Rattle.std.proofs.Common.{◌++◌, ◌∙◌, ap}
use Rattle.std.proofs.Math.Nat.{sub-zero}
use Rattle.arrow_spec.specs.Schema.{counted_ids}
use Rattle.ipc_text.specs.Ids.{ids_from}
use Rattle.ipc_text.proofs.IdSteps.{ids_all, counted_more}
use Rattle.ipc_text.proofs.numbers.push_counted.Goals as goal

pub loop-id-init : goal.loop-id-init
loop-id-init c = ap (λ n. c.args.out.now.items ++ ids_from 0 (counted_ids 0 n)) (sub-zero c.args.count) ∙ ap (λ s. c.args.out.now.items ++ s) (ids_all (counted_ids 0 c.args.count))

pub loop-id-preserved : goal.loop-id-preserved
loop-id-preserved c = counted_more c.args.count c.loop-id.id c.loop-id.out.items c.push_comma.new.out.items c.push_number.new.out.items _ c.loop-id-test.true c.in_ok-push_comma.ensures c.in_ok-push_number.ensures c.loop-id.invariant
