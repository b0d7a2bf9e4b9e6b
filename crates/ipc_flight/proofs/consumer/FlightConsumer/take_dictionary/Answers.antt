use Rattle.std.proofs.Common.{◌≡◌, Err}
use Rattle.ipc_files.specs.Below.{dictionary_message_of, held_in}
use Rattle.ipc_files.proofs.Errors.{is_err}
use Rattle.ipc_streams.specs.Starts.{stream_schema}
use Rattle.ipc_flight.specs.Consumed.{message_in}
use Rattle.ipc_flight.proofs.Steps.{tables_found, tables_refused}
use Rattle.ipc_flight.proofs.consumer.FlightConsumer.take_dictionary.Goals as goal

pub returns-in_err-message-clause-adds : goal.returns-in_err-message-clause-adds
returns-in_err-message-clause-adds c = λ d holds.
    let x = c.in_err-message.field-0.0 in
    let e : c.from_residual.result ≡ Err x = is_err _ _ _ c.from_residual.ensures.0 c.from_residual.ensures.1 (λ f h. h) in
    tables_refused (stream_schema c.args.self.now.metadata) d (message_in c.args.bytes.now c.args.body.bytes.items) (held_in c.args.self.now.dictionaries) c.from_residual.result x e c.in_err-message.ensures.gives

pub returns-clause-adds : goal.returns-clause-adds
returns-clause-adds c = λ d holds.
    tables_found (stream_schema c.args.self.now.metadata) d (message_in c.args.bytes.now c.args.body.bytes.items) (held_in c.read_values.new.self.dictionaries) c.read_values.result (dictionary_message_of c.in_ok-message.message) c.in_ok-message.ensures.gives (c.read_values.ensures.adds d holds)
