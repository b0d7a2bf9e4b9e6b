use Rattle.ipc_messages.specs.Fields.{given_ids}
use Rattle.ipc_file_writer.proofs.Calling.{suits_as}
use Rattle.ipc_file_writer.proofs.file.FileCore.takes.Goals as goal

pub returns : goal.returns
returns c =
    let again = suits_as c.args.self.now c.deref.result.now c.as_slice-fields.result.now c.args.batch.now (given_ids c.args.ipc_fields) c.deref.ensures c.as_slice-fields.ensures.value in
    (λ h. again.0 (c.is_of_schema.ensures.0 h), λ k. c.is_of_schema.ensures.1 (again.1 k))
