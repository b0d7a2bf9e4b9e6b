use Rattle.std.proofs.Common.{◌≤◌, drop, length, map, arith}
use Rattle.std.proofs.lemmas.List.{at_drop_all}
use Rattle.arrow_types.specs.KindOf.{child_of}
use Rattle.arrow_types.specs.Schemas.{Keyed}
use Rattle.ipc_fields.specs.IpcFields.{ids_of}
use Rattle.ipc_fields.specs.Uses.{use_in}
use Rattle.ipc_fields.proofs.Steps.{mapped_found}
use Rattle.ipc_fields.proofs.UseSteps.{next_uses, uses_done}
use Rattle.schema_writer.proofs.write.uses.uses_of.Goals as goal

pub loop-i-preserved : goal.loop-i-preserved
loop-i-preserved c =
    let x = child_of c.field_at.result.now in
    next_uses _ _ x c.args.ipc_fields.now c.loop-i.i (map use_in c.loop-i.uses.items) (map use_in c.push_child.new.uses.items) _ (mapped_found (λ (p : Keyed). p.1) c.args.schema.now c.loop-i.i x c.field_at.ensures) c.loop-i.invariant c.in_ok-push_child.ensures.ok

pub returns-clause-ok : goal.returns-clause-ok
returns-clause-ok c =
    let le : length c.args.schema.now ≤ c.loop-i.i = omega (arith, c.loop-i-test.false) in
    uses_done _ (ids_of (drop c.loop-i.i c.args.ipc_fields.now)) (map use_in c.loop-i.uses.items) _ (at_drop_all (map (λ (p : Keyed). p.1)) c.args.schema.now c.loop-i.i le) c.loop-i.invariant
