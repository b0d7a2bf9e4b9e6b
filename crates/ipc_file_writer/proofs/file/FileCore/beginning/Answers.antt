use Rattle.std.proofs.Common.{subst}
use Rattle.std.specs.Prelude.{IfOk}
use Rattle.arrow_types.specs.Schemas.{fields_in}
use Rattle.ipc_fields.specs.IpcFields.{fields_with}
use Rattle.ipc_messages.specs.Schemas.{GivesText, StartMayBeWritten}
use Rattle.ipc_file_writer.specs.Calls.{file_ids}
use Rattle.ipc_file_writer.specs.Ends.{file_start, no_pairs}
use Rattle.ipc_file_writer.proofs.file.FileCore.beginning.Goals as goal

pub returns-clause-gives : goal.returns-clause-gives
returns-clause-gives c =
    let self = c.args.self.now in
    subst (λ s. GivesText c.file_start.result (file_start self.options (fields_in s) (file_ids self))) c.deref.ensures c.file_start.ensures.gives

pub returns-clause-may : goal.returns-clause-may
returns-clause-may c =
    let self = c.args.self.now in
    subst (λ s. IfOk c.file_start.result (λ _. StartMayBeWritten (fields_with (fields_in s) (file_ids self)) no_pairs)) c.deref.ensures c.file_start.ensures.may
