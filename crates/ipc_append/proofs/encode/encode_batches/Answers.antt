use Rattle.ipc_fields.specs.IpcFields.{ids_of}
use Rattle.ipc_append.specs.Encoded.{EncodesAll}
use Rattle.ipc_append.proofs.Handed.{handed}
use Rattle.ipc_append.proofs.EncodeSteps.{is_encoded, none_done, one_done, one_stops}
use Rattle.ipc_append.proofs.encode.encode_batches.Goals as goal

pub loop-batch-init : goal.loop-batch-init
loop-batch-init c = none_done c.args.options.now (ids_of c.args.fields.now) c.args.tracker.now c.args.batches.now c.new-chunks.result.items c.new-chunks.ensures.items

pub loop-batch-preserved : goal.loop-batch-preserved
loop-batch-preserved c =
    let options = c.args.options.now in
    let below = ids_of c.args.fields.now in
    let t = c.loop-batch.tracker in
    let u = c.encode_chunk.new.tracker in
    let b = c.batch-item.result in
    let made = c.in_ok-dictionaries in
    let encoded = is_encoded options below t u b made.dictionaries made.message made.ensures.encodes.0 made.ensures.encodes.1 made.ensures.options in
    one_done options below c.args.tracker.now t u c.loop-batch.batch-index c.args.batches.now c.loop-batch.chunks.items c.push.new.self.items b _ c.loop-batch-test.true c.batch-item.is c.loop-batch.invariant encoded c.in_ok-push.ensures.items

pub returns-in_err-dictionaries : goal.returns-in_err-dictionaries
returns-in_err-dictionaries c =
    let options = c.args.options.now in
    let below = ids_of c.args.fields.now in
    let u = c.encode_chunk.new.tracker in
    let e = c.in_err-dictionaries.field-0.0 in
    handed (λ r. EncodesAll r options below c.args.tracker.now u c.args.batches.now) c.from_residual.result e c.from_residual.ensures.1
    (one_stops options below c.args.tracker.now c.loop-batch.tracker u c.loop-batch.batch-index c.args.batches.now c.loop-batch.chunks.items c.batch-item.result e c.loop-batch-test.true c.batch-item.is c.loop-batch.invariant c.in_err-dictionaries.ensures.encodes.0)
