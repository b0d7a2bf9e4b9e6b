use Rattle.std.proofs.Common.{◌≡◌, ◌∙◌, None, false, ap, subst, arith, rules, to_z, of_z, w64}
use Rattle.std.proofs.lemmas.Int.{to_z-of_z}
use Rattle.arrow_spec.specs.Flat.{little}
use Rattle.arrow_arrays.specs.PartsOf.{parts_of}
use Rattle.ipc_write_arrays.specs.Outputs.{written_behind}
use Rattle.ipc_write_arrays.specs.OutputsOf.{outputs_of}
use Rattle.ipc_write_arrays.proofs.Adding.{if_ok}
use Rattle.ipc_write.specs.Encoding.{no_outputs}
use Rattle.ipc_write.specs.Planned.{MakesMessage, is_short, planned_message}
use Rattle.ipc_write.specs.Values.{values_message}
use Rattle.ipc_write.specs.declared.metadata.Content.TheVariants.{DictionaryBatch}
use Rattle.ipc_write.proofs.Meanings.{may_little}
use Rattle.ipc_write.proofs.PlannedMessages.{long_rows}
use Rattle.ipc_write.proofs.DictionaryValues.{values_planned}
use Rattle.ipc_write.proofs.ViewCounts.{values_fit}
use Rattle.ipc_write.proofs.values.plan_any_values.Goals as goal

pub plan-requires-clause-order : goal.plan-requires-clause-order
plan-requires-clause-order c = may_little (parts_of c.args.array.now)

pub returns-then-rows-gt-MOST_ROWS-clause-plans : goal.returns-then-rows-gt-MOST_ROWS-clause-plans
returns-then-rows-gt-MOST_ROWS-clause-plans c =
    let none : c.args.options.now.compression ≡ None = search rules in
    let p = parts_of c.args.array.now in
    let large = long_rows c.args.options.now.metadata_limit c.len-rows.result (values_message c.args.id c.args.is_delta p) (omega (arith, c.if-rows-gt-MOST_ROWS.true)) in
    (none, subst (λ n. is_short c.args.options.now.metadata_limit n (values_message c.args.id c.args.is_delta p) ≡ false) c.len-rows.ensures.rows large)

pub returns-clause-plans : goal.returns-clause-plans
returns-clause-plans c =
    let none : c.args.options.now.compression ≡ None = search rules in
    let p = parts_of c.args.array.now in
    let planned : outputs_of c.plan.new.out ≡ written_behind little p no_outputs = c.in_ok-plan.ensures.ok ∙ ap (written_behind little p) c.new-column.ensures in
    let e : to_z w64 (of_z w64 c.args.id) ≡ c.args.id = to_z-of_z w64 c.args.id c.ranges.id in
    values_planned c.message_plan.result c.args.options.now c.args.id c.args.is_delta p c.len-rows.result (outputs_of c.plan.new.out) c.len-rows.ensures.sound c.len-rows.ensures.rows planned none (subst (λ z. MakesMessage c.message_plan.result c.args.options.now.metadata_limit c.len-rows.result (planned_message (DictionaryBatch z c.args.is_delta) c.len-rows.result (outputs_of c.plan.new.out)) (outputs_of c.plan.new.out).pieces) e c.message_plan.ensures.makes)

pub returns-clause-may : goal.returns-clause-may
returns-clause-may c =
    let p = parts_of c.args.array.now in
    let planned : outputs_of c.plan.new.out ≡ written_behind little p no_outputs = c.in_ok-plan.ensures.ok ∙ ap (written_behind little p) c.new-column.ensures in
    if_ok c.message_plan.result (λ fit. record { means = c.in_ok-plan.ensures.means; nodes = values_fit p (outputs_of c.plan.new.out) planned fit }) c.message_plan.ensures.fit
