use Rattle.std.proofs.Common.{◌≡◌, length, map, ap, subst, ◌∙◌, arith}
use Rattle.std.specs.List.{AllByRecursion}
use Rattle.std.proofs.lemmas.List.{length-map}
use Rattle.arrow_spec.specs.Bodies.{NodeFits}
use Rattle.arrow_spec.proofs.MessagesFit.{length-placed}
use Rattle.arrow_spec.specs.Layout.{size, layout}
use Rattle.ipc_write_arrays.specs.OutputsOf.{outputs_of}
use Rattle.ipc_write.specs.Planned.{planned_message}
use Rattle.ipc_write.proofs.PlannedMessages.{is_in, long_metadata, metadata_err, node_same, places_err}
use Rattle.ipc_write.proofs.planned.message_plan.Goals as goal

pub returns-in_err-body-clause-makes : goal.returns-in_err-body-clause-makes
returns-in_err-body-clause-makes c = places_err c.from_residual.result c.in_err-body.field-0.0 c.args.limit c.args.rows c.args.content (outputs_of c.args.planned) c.from_residual.ensures.1 c.in_err-body.ensures

pub returns-in_err-metadata-clause-makes : goal.returns-in_err-metadata-clause-makes
returns-in_err-metadata-clause-makes c =
    let o = outputs_of c.args.planned in
    let m = planned_message c.args.content c.args.rows o in
    metadata_err c.from_residual-in_err-metadata.result c.in_err-metadata.field-0.0 c.args.limit c.args.rows m o.pieces _ c.from_residual-in_err-metadata.ensures.1 (node_same c.args.content c.args.rows o c.in_ok-body.body c.as_slice-node_list.result.now c.as_slice-place_list.result.now c.in_ok-body.ensures c.as_slice-node_list.ensures.value c.as_slice-place_list.ensures.value) c.in_err-metadata.ensures.builds

pub returns-then-next_multiple_of-min-clause-makes : goal.returns-then-next_multiple_of-min-clause-makes
returns-then-next_multiple_of-min-clause-makes c =
    let o = outputs_of c.args.planned in
    let m = planned_message c.args.content c.args.rows o in
    let same = node_same c.args.content c.args.rows o c.in_ok-body.body c.as_slice-node_list.result.now c.as_slice-place_list.result.now c.in_ok-body.ensures c.as_slice-node_list.ensures.value c.as_slice-place_list.ensures.value in
    let count : length c.in_ok-metadata.metadata.items ≡ size m.node = c.in_ok-metadata.ensures.builds.1 ∙ ap size same in
    long_metadata c.args.limit c.args.rows (length c.in_ok-metadata.metadata.items) m count (omega arith)

pub returns-clause-makes : goal.returns-clause-makes
returns-clause-makes c =
    let o = outputs_of c.args.planned in
    let m = planned_message c.args.content c.args.rows o in
    let p = c.in_ok-body.ensures in
    let same = node_same c.args.content c.args.rows o c.in_ok-body.body c.as_slice-node_list.result.now c.as_slice-place_list.result.now p c.as_slice-node_list.ensures.value c.as_slice-place_list.ensures.value in
    let count : length c.in_ok-metadata.metadata.items ≡ size m.node = c.in_ok-metadata.ensures.builds.1 ∙ ap size same in
    (is_in c.args.limit c.args.rows (length c.in_ok-metadata.metadata.items) m count (omega arith) (omega (arith, p.short, p.length)) (omega (arith, c.requires)), c.in_ok-metadata.ensures.builds.0 ∙ ap layout same, p.pieces, p.length)

pub returns-clause-fit : goal.returns-clause-fit
returns-clause-fit c =
    let o = outputs_of c.args.planned in
    let p = c.in_ok-body.ensures in
    let count : length c.as_slice-place_list.result.now ≡ length o.pieces = ap length (c.as_slice-place_list.ensures.value ∙ p.places) ∙ length-placed (map length o.pieces) 0 ∙ length-map o.pieces length in
    record { nodes = subst (AllByRecursion NodeFits) (c.as_slice-node_list.ensures.value ∙ p.nodes) c.in_ok-metadata.ensures.fit; few = omega (arith, count, c.in_ok-metadata.ensures.few) }
