use Rattle.std.proofs.Common.{◌≡◌, refl}
use Rattle.ipc_messages.proofs.Putting.{wants_as}
use Rattle.ipc_file_writer.proofs.GivenSteps.{given_put}
use Rattle.ipc_file_writer.proofs.file.FileCore.put_given.Goals as goal

pub returns-in_ok-put_framed-in-Ok-clause-puts : goal.returns-in_ok-put_framed-in-Ok-clause-puts
returns-in_ok-put_framed-in-Ok-clause-puts g c =
    let h = c.in-Ok.ensures.left.held in
    given_put _ c.args.self.now c.frame.new.self _ c.args.dictionaries.now c.args.batch.now c.in-Ok.framed c.as_slice.result.now c.in-Ok.ensures c.as_slice.ensures.value
    c.in_ok-put_framed-in-Ok.ensures.puts c.add.ensures.dictionaries c.add.ensures.records c.add.ensures.end refl
    (record { state = h.state; tracker = h.tracker; stays = record { options = h.stays.options; schema = h.stays.schema; ipc_schema = h.stays.ipc_schema; pairs = h.stays.pairs; tracker = h.stays.tracker } })

pub returns-in_err-put_framed-in-Ok-clause-wants : goal.returns-in_err-put_framed-in-Ok-clause-wants
returns-in_err-put_framed-in-Ok-clause-wants g c = wants_as c.from_residual.result c.in_err-put_framed-in-Ok.field-0.0 _ _ c.from_residual.ensures.1 c.in_err-put_framed-in-Ok.ensures.wants

pub returns-in-Err-clause-wants : goal.returns-in-Err-clause-wants
returns-in-Err-clause-wants g c = λ e b. absurd (cc)
