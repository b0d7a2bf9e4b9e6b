use Rattle.std.proofs.Common.{◌≡◌, Err, ap, subst, sym}
use Rattle.arrow_arrays.specs.Batches.{Batch}
use Rattle.arrow_spec.specs.Readings.{Gives}
use Rattle.ipc_fields.specs.IpcFields.{metadata_of}
use Rattle.ipc_files.specs.Below.{table_of}
use Rattle.ipc_files.specs.BelowViews.{message_of}
use Rattle.ipc_files.proofs.Errors.{is_err}
use Rattle.ipc_files.proofs.ShownFields.{with_pairs}
use Rattle.ipc_streams.specs.Starts.{stream_schema}
use Rattle.ipc_flight.specs.Consumed.{message_in, rows_in}
use Rattle.ipc_flight.proofs.Steps.{header_refused, pairs_refused, rows_given, rows_refused}
use Rattle.ipc_flight.proofs.consumer.FlightConsumer.take_batch.Goals as goal

pub returns-in_err-message-clause-gives : goal.returns-in_err-message-clause-gives
returns-in_err-message-clause-gives c = λ d holds floats.
    let x = c.in_err-message.field-0.0 in
    let e : c.from_residual.result ≡ Err x = is_err _ _ _ c.from_residual.ensures.0 c.from_residual.ensures.1 (λ f h. h) in
    let s = stream_schema c.args.self.now.metadata in
    let m = message_in c.args.bytes.now c.args.body.bytes.items in
    subst (λ r. Gives table_of r (rows_in s d m)) (sym e) (header_refused s d m x c.in_err-message.ensures.gives)

pub returns-in_err-pairs-clause-gives : goal.returns-in_err-pairs-clause-gives
returns-in_err-pairs-clause-gives c = λ d holds floats.
    let x = c.in_err-pairs.field-0.0 in
    let e : c.from_residual-in_err-pairs.result ≡ Err x = is_err _ _ _ c.from_residual-in_err-pairs.ensures.0 c.from_residual-in_err-pairs.ensures.1 (λ f h. h) in
    let s = stream_schema c.args.self.now.metadata in
    let m = message_in c.args.bytes.now c.args.body.bytes.items in
    subst (λ r. Gives table_of r (rows_in s d m)) (sym e) (pairs_refused s d m (message_of c.in_ok-message.message) x c.in_ok-message.ensures.gives c.in_err-pairs.ensures.gives)

pub returns-in_err-batch-clause-gives : goal.returns-in_err-batch-clause-gives
returns-in_err-batch-clause-gives c = λ d holds floats.
    let x = c.in_err-batch.field-0.0 in
    let e : c.from_residual-in_err-batch.result ≡ Err x = is_err _ _ _ c.from_residual-in_err-batch.ensures.0 c.from_residual-in_err-batch.ensures.1 (λ f h. h) in
    let s = stream_schema c.args.self.now.metadata in
    let m = message_in c.args.bytes.now c.args.body.bytes.items in
    subst (λ r. Gives table_of r (rows_in s d m)) (sym e) (rows_refused s d m (message_of c.in_ok-message.message) (metadata_of c.in_ok-pairs.pairs) x c.in_ok-message.ensures.gives c.in_ok-pairs.ensures.gives (c.in_err-batch.ensures.gives d holds floats))

pub with_optional_metadata-requires : goal.with_optional_metadata-requires
with_optional_metadata-requires c = c.in_ok-pairs.ensures.may.few

pub returns-clause-gives : goal.returns-clause-gives
returns-clause-gives c = λ d holds floats.
    rows_given (stream_schema c.args.self.now.metadata) d (message_in c.args.bytes.now c.args.body.bytes.items) (message_of c.in_ok-message.message) (metadata_of c.in_ok-pairs.pairs) c.in_ok-batch.batch c.with_optional_metadata.result c.in_ok-message.ensures.gives c.in_ok-pairs.ensures.gives (c.in_ok-batch.ensures.gives d holds floats) (ap table_of c.with_optional_metadata.ensures)

pub returns-clause-schema : goal.returns-clause-schema
returns-clause-schema c = with_pairs c.in_ok-batch.batch c.with_optional_metadata.result _ (ap (λ (b : Batch). b.schema) c.with_optional_metadata.ensures) (ap (λ (b : Batch). b.arrays) c.with_optional_metadata.ensures) c.in_ok-batch.ensures.schema
