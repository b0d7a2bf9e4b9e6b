use Rattle.arrow_types.specs.Schemas.{fields_in}
use Rattle.ipc_messages.proofs.Below.{handed}
use Rattle.ipc_fields.specs.IpcFields.{ids_of}
use Rattle.ipc_messages.specs.Schemas.{GivesText}
use Rattle.ipc_file_writer.specs.Ends.{file_start}
use Rattle.ipc_file_writer.proofs.Ending.{front_then, start_given, start_refused}
use Rattle.ipc_file_writer.proofs.ends.file_start.Goals as goal

pub returns-in_err-message-clause-gives : goal.returns-in_err-message-clause-gives
returns-in_err-message-clause-gives c =
    let fs = fields_in c.args.schema.now in
    let below = ids_of c.args.ipc_schema.now.fields.items in
    let e = c.in_err-message.field-0.0 in
    handed (λ r. GivesText r (file_start c.args.options.now fs below)) c.from_residual.result e c.from_residual.ensures.1 (start_refused e c.args.options.now fs below c.in_err-message.ensures.gives)

pub returns-clause-gives : goal.returns-clause-gives
returns-clause-gives c =
    start_given c.args.options.now (fields_in c.args.schema.now) (ids_of c.args.ipc_schema.now.fields.items) c.in_ok-message.message.items c.extend_from_slice-2.new.self.items c.in_ok-message.ensures.gives
    (front_then c.new-bytes.result.items c.extend_from_slice.new.self.items c.extend_from_slice-2.new.self.items c.as_slice.result.now c.in_ok-message.message.items c.new-bytes.ensures.items
    c.in_ok-extend_from_slice.ensures.items c.in_ok-extend_from_slice-2.ensures.items c.as_slice.ensures.value)

pub returns-clause-may : goal.returns-clause-may
returns-clause-may c = c.in_ok-message.ensures.may
