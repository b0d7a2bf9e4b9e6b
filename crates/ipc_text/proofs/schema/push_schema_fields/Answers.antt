use Rattle.arrow_types.specs.KindOf.{child_of}
use Rattle.arrow_types.specs.Schemas.{Keyed}
use Rattle.ipc_fields.proofs.Steps.{mapped_found}
use Rattle.ipc_text.proofs.LineSteps.{next_lines}
use Rattle.ipc_text.proofs.schema.push_schema_fields.Goals as goal

pub loop-i-preserved : goal.loop-i-preserved
loop-i-preserved c =
    let x = child_of c.field_at.result.now in
    next_lines 0 _ _ x c.args.ipc_fields.now c.loop-i.i c.loop-i.out.items c.push_field.new.out.items _ (mapped_found (λ (p : Keyed). p.1) c.args.schema.now c.loop-i.i x c.field_at.ensures) c.in_ok-push_field.ensures c.loop-i.invariant
