use Rattle.std.proofs.Common.{Ok, refl, ◌∙◌, ap}
use Rattle.ipc_messages.specs.Below.{all_parts_of, held_by, DictionaryTracker}
use Rattle.ipc_bodies.specs.Encodings.{text_of}
use Rattle.ipc_messages.proofs.Putting.{untouched}
use Rattle.ipc_messages.proofs.Finding.{found_in}
use Rattle.ipc_stream_writer.proofs.Sending.{not_found, not_sent, was_sent}
use Rattle.ipc_stream_writer.proofs.stream.StreamCore.send.Goals as goal

pub returns-in_err-new-clause-sends : goal.returns-in_err-new-clause-sends
returns-in_err-new-clause-sends g c =
    not_found (text_of c.args.self.now.encoding) c.from_residual.result c.in_err-new.field-0.0 _ c.args.self.now _ c.args.batch.now (all_parts_of c.arrays.result.now) c.as_slice-fields.result.now c.from_residual.ensures.1 c.arrays.ensures c.as_slice-fields.ensures.value
    c.in_err-new.ensures.sends (untouched _ _ _) refl refl (record { options = refl; encoding = refl; schema = refl; fields = refl; pairs = refl; tracker = c.in_err-new.ensures.options })

pub undo-requires : goal.undo-requires
undo-requires g c = c.in_ok-new.ensures.sends.1.can

pub returns-in-Ok-clause-sends : goal.returns-in-Ok-clause-sends
returns-in-Ok-clause-sends g c =
    let n = c.in_ok-new.new in
    was_sent (text_of c.args.self.now.encoding) _ c.in-Ok.count c.args.self.now _ c.args.batch.now n c.as_slice-messages.result.now
    (found_in (Ok n) c.args.self.now.tracker c.new_dictionaries.new.tracker (all_parts_of c.arrays.result.now) c.args.batch.now.arrays c.as_slice-fields.result.now c.args.self.now.fields.items c.arrays.ensures c.as_slice-fields.ensures.value c.in_ok-new.ensures.sends)
    c.as_slice-messages.ensures.value c.in-Ok.ensures.sends refl (record { options = refl; encoding = refl; schema = refl; fields = refl; pairs = refl; tracker = c.in_ok-new.ensures.options }) c.saturating_add-self.ensures

pub returns-in-Err-clause-sends : goal.returns-in-Err-clause-sends
returns-in-Err-clause-sends g c =
    let n = c.in_ok-new.new in
    let k = c.stop_at.ensures in
    not_sent (text_of c.args.self.now.encoding) c.stop_at.result c.in-Err.stop _ c.args.self.now c.stop_at.new.self c.new_dictionaries.new.tracker c.args.batch.now n c.as_slice-messages.result.now k.error
    (found_in (Ok n) c.args.self.now.tracker c.new_dictionaries.new.tracker (all_parts_of c.arrays.result.now) c.args.batch.now.arrays c.as_slice-fields.result.now c.args.self.now.fields.items c.arrays.ensures c.as_slice-fields.ensures.value c.in_ok-new.ensures.sends)
    c.as_slice-messages.ensures.value c.in-Err.ensures.sends c.in-Err.ensures.wants k.state (λ q. ap (λ (t : DictionaryTracker). held_by t q) k.tracker ∙ c.undo.ensures.held q) k.count
    (record { options = k.stays.options; encoding = k.stays.encoding; schema = k.stays.schema; fields = k.stays.fields; pairs = k.stays.pairs; tracker = k.stays.tracker ∙ c.undo.ensures.options ∙ c.in_ok-new.ensures.options })
