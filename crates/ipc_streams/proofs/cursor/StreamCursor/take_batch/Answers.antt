use Rattle.std.proofs.Common.{◌≡◌, Err, ap, refl, rules}
use Rattle.ipc_fields.specs.IpcFields.{metadata_of}
use Rattle.arrow_arrays.specs.Batches.{Batch}
use Rattle.ipc_files.specs.Below.{table_of, held_in}
use Rattle.ipc_files.specs.BelowViews.{message_of}
use Rattle.ipc_files.proofs.Errors.{is_err}
use Rattle.ipc_streams.specs.Starts.{stream_schema}
use Rattle.ipc_streams.proofs.Handed.{decoded_cause, of_bytes}
use Rattle.ipc_files.proofs.ShownFields.{with_pairs}
use Rattle.ipc_streams.proofs.TakenArrays.{rows_leave}
use Rattle.ipc_streams.proofs.TakenCalls.{batch_not_taken, values_told}
use Rattle.ipc_streams.proofs.TakenMessages.{given_ok, header_refused, pairs_refused, rows_cut, rows_given, rows_refused}
use Rattle.ipc_streams.proofs.cursor.StreamCursor.take_batch.Goals as goal

pub returns-in_err-message : goal.returns-in_err-message
returns-in_err-message g c =
    let x = c.in_err-message.field-0.0 in
    let e : c.from_residual.result ≡ Err x = is_err _ _ _ c.from_residual.ensures.0 c.from_residual.ensures.1 (λ f h. h) in
    batch_not_taken g.F.Feed.rest g.F.Feed.faults g.F.Feed.references c.args.feed.now _ c.args.self.now _ c.args.bytes.now c.args.count c.from_residual.result x e refl (decoded_cause x _ _ _ c.in_err-message.ensures.gives) (record { columns = refl; is_finished = refl; feed = search rules })
    (λ s d m b reads holds floats found tag body told. header_refused s d c.args.bytes.now b m found tag x c.in_err-message.ensures.gives)

pub returns-in_err-pairs : goal.returns-in_err-pairs
returns-in_err-pairs g c =
    let x = c.in_err-pairs.field-0.0 in
    let e : c.from_residual-in_err-pairs.result ≡ Err x = is_err _ _ _ c.from_residual-in_err-pairs.ensures.0 c.from_residual-in_err-pairs.ensures.1 (λ f h. h) in
    batch_not_taken g.F.Feed.rest g.F.Feed.faults g.F.Feed.references c.args.feed.now _ c.args.self.now _ c.args.bytes.now c.args.count c.from_residual-in_err-pairs.result x e refl (decoded_cause x _ _ _ c.in_err-pairs.ensures.gives) (record { columns = refl; is_finished = refl; feed = search rules })
    (λ s d m b reads holds floats found tag body told. pairs_refused s d c.args.bytes.now b m found tag (message_of c.in_ok-message.message) x c.in_ok-message.ensures.gives c.in_err-pairs.ensures.gives)

pub returns-in_err-body : goal.returns-in_err-body
returns-in_err-body g c =
    let x = c.in_err-body.field-0.0 in
    let e : c.from_residual-in_err-body.result ≡ Err x = is_err _ _ _ c.from_residual-in_err-body.ensures.0 c.from_residual-in_err-body.ensures.1 (λ f h. h) in
    batch_not_taken g.F.Feed.rest g.F.Feed.faults g.F.Feed.references c.args.feed.now _ c.args.self.now _ c.args.bytes.now c.args.count c.from_residual-in_err-body.result x e refl c.in_err-body.ensures.cause (record { columns = refl; is_finished = refl; feed = c.in_err-body.ensures.kept })
    (λ s d m b reads holds floats found tag body told. rows_cut s d c.args.bytes.now b m found tag (message_of c.in_ok-message.message) (metadata_of c.in_ok-pairs.pairs) c.args.count x _ _ c.in_ok-message.ensures.gives c.in_ok-pairs.ensures.gives told body c.in_err-body.ensures.gives)

pub read_batch-requires : goal.read_batch-requires
read_batch-requires g c = record { values = values_told (stream_schema c.args.self.now.columns.metadata) (held_in c.args.self.now.dictionaries) c.args.self.now.values }

pub returns-in_err-batch : goal.returns-in_err-batch
returns-in_err-batch g c =
    let x = c.in_err-batch.field-0.0 in
    let e : c.from_residual-in_err-batch.result ≡ Err x = is_err _ _ _ c.from_residual-in_err-batch.ensures.0 c.from_residual-in_err-batch.ensures.1 (λ f h. h) in
    batch_not_taken g.F.Feed.rest g.F.Feed.faults g.F.Feed.references c.args.feed.now _ c.args.self.now _ c.args.bytes.now c.args.count c.from_residual-in_err-batch.result x e refl (of_bytes x _ _ c.in_err-batch.ensures.cause) (record { columns = refl; is_finished = refl; feed = c.in_ok-body.ensures.kept })
    (λ s d m b reads holds floats found tag body told. rows_refused s d c.args.bytes.now b m found tag (message_of c.in_ok-message.message) (metadata_of c.in_ok-pairs.pairs) c.args.count c.in_ok-body.body x _ _ c.in_ok-message.ensures.gives c.in_ok-pairs.ensures.gives told body c.in_ok-body.ensures.gives (c.in_err-batch.ensures.gives s d reads holds floats))

pub with_optional_metadata-requires : goal.with_optional_metadata-requires
with_optional_metadata-requires g c = c.in_ok-pairs.ensures.may.few

pub returns : goal.returns
returns g c = record {
  gives = λ s d m reads holds floats found tag body. given_ok (g.F.Feed.rest c.args.feed.now) _ (λ b told.
      rows_given s d c.args.bytes.now b m found tag (message_of c.in_ok-message.message) (metadata_of c.in_ok-pairs.pairs) c.args.count c.in_ok-body.body c.in_ok-batch.batch c.with_optional_metadata.result _ _ c.in_ok-message.ensures.gives c.in_ok-pairs.ensures.gives told body c.in_ok-body.ensures.gives (c.in_ok-batch.ensures.gives s d reads holds floats) (ap table_of c.with_optional_metadata.ensures));
  arrays = λ s d m reads holds floats found tag body.
      rows_leave s (held_in c.args.self.now.dictionaries) c.args.bytes.now m c.args.count c.in_ok-body.body (g.F.Feed.rest c.args.feed.now) _ found body c.in_ok-body.ensures.gives (message_of c.in_ok-message.message) c.in_ok-batch.batch c.with_optional_metadata.result tag c.in_ok-message.ensures.gives
      (ap (λ (b : Batch). b.arrays) c.with_optional_metadata.ensures) (c.in_ok-batch.ensures.arrays s d reads holds floats);
  dictionaries = refl;
  schema = λ s reads. with_pairs c.in_ok-batch.batch c.with_optional_metadata.result _ (ap (λ (b : Batch). b.schema) c.with_optional_metadata.ensures) (ap (λ (b : Batch). b.arrays) c.with_optional_metadata.ensures) (c.in_ok-batch.ensures.schema s reads);
  cause = tt;
  faults_stay = c.in_ok-body.ensures.faults_stay;
  kept = record { columns = refl; is_finished = refl; feed = c.in_ok-body.ensures.kept };
}
