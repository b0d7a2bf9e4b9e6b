use Rattle.std.proofs.Common.{Ok, ap, refl, ◌∙◌}
use Rattle.arrow_arrays.specs.PartsOf.{all_parts_of}
use Rattle.ipc_messages.specs.States.{state_behind}
use Rattle.ipc_messages.proofs.Finding.{found_in}
use Rattle.ipc_file_writer.proofs.BatchSteps.{not_sent, undone_so}
use Rattle.ipc_file_writer.proofs.file.FileCore.send.Goals as goal

pub returns-in-Err-clause-sends : goal.returns-in-Err-clause-sends
returns-in-Err-clause-sends g c =
    let n = c.in_ok-new.new in
    let self = c.args.self.now in
    let b = c.args.batch.now in
    let k = c.stop_at.ensures in
    let p = c.in-Err.ensures.puts in
    let found = found_in (Ok n) self.tracker c.new_dictionaries.new.tracker (all_parts_of c.arrays.result.now) b.arrays c.as_slice-fields.result.now self.ipc_schema.fields.items c.arrays.ensures c.as_slice-fields.ensures.value
    c.in_ok-new.ensures.sends in
    not_sent c.stop_at.result c.in-Err.stop _ self _ c.stop_at.new.self b n c.as_slice.result.now k.error found c.as_slice.ensures.value p.0 c.in-Err.ensures.wants
    (record { state = refl; blocks = refl; written = refl; stays = record { options = refl; schema = refl; ipc_schema = refl; pairs = refl; tracker = c.in_ok-new.ensures.options } })
    (k.state ∙ ap (state_behind c.in-Err.stop.has_begun) p.1.held.state)
    (undone_so self _ c.put.new.self _ c.stop_at.new.self b n found p.1
    (record { state = refl; blocks = refl; written = refl; stays = record { options = refl; schema = refl; ipc_schema = refl; pairs = refl; tracker = c.in_ok-new.ensures.options } }) c.undo.ensures.held refl refl
    (record { options = refl; schema = refl; ipc_schema = refl; pairs = refl; tracker = c.undo.ensures.options }) k.same k.tracker)
