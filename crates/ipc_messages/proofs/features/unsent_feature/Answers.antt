use Rattle.std.proofs.Common.{◌+◌, drop, map, sym, ◌∙◌, arith}
use Rattle.std.proofs.lemmas.List.{length-map}
use Rattle.arrow_spec.specs.Features.{float_faults, floats_in}
use Rattle.arrow_types.specs.Child.{fields_from}
use Rattle.arrow_types.specs.KindOf.{child_of}
use Rattle.arrow_types.specs.Schemas.{fields_in}
use Rattle.ipc_messages.proofs.Columns.{child_in}
use Rattle.ipc_messages.proofs.Floats.{floats_left, found_in, none_in, none_left}
use Rattle.ipc_messages.proofs.features.unsent_feature.Goals as goal

pub returns-then-is_some : goal.returns-then-is_some
returns-then-is_some c =
    let cs = map child_in c.args.schema.now in
    let i = c.loop-i.i in
    let x = child_of c.field_at.result.now in
    found_in c.field_feature-found.result (floats_in (fields_in c.args.schema.now)) (floats_in (fields_from (drop i cs))) (float_faults x.kind) (floats_in (fields_from (drop (i + 1) cs)))
    c.loop-i.invariant.left (floats_left cs i x c.field_at.ensures) c.field_feature-found.ensures (sym c.if-is_some.true ∙ c.is_some.ensures)

pub loop-i-preserved : goal.loop-i-preserved
loop-i-preserved c =
    let cs = map child_in c.args.schema.now in
    let i = c.loop-i.i in
    let x = child_of c.field_at.result.now in
    record {
      left = none_in c.field_feature-found.result (floats_in (fields_in c.args.schema.now)) (floats_in (fields_from (drop i cs))) (float_faults x.kind) (floats_in (fields_from (drop (i + 1) cs)))
          c.loop-i.invariant.left (floats_left cs i x c.field_at.ensures) c.field_feature-found.ensures (sym c.if-is_some.false ∙ c.is_some.ensures);
    }

pub returns : goal.returns
returns c =
    let cs = map child_in c.args.schema.now in
    none_left cs c.loop-i.i (floats_in (fields_in c.args.schema.now)) (omega (arith, length-map c.args.schema.now child_in)) c.loop-i.invariant.left
