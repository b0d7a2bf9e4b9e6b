use Rattle.std.proofs.Common.{◌≡◌, Err, refl, rules}
use Rattle.ipc_files.specs.Below.{held_in, dictionary_message_of}
use Rattle.ipc_files.proofs.Errors.{is_err}
use Rattle.ipc_streams.specs.Starts.{stream_schema}
use Rattle.ipc_streams.proofs.Handed.{decoded_cause, of_bytes_in}
use Rattle.ipc_streams.proofs.TakenArrays.{values_leave}
use Rattle.ipc_streams.proofs.TakenCalls.{stays_by, values_not_taken, values_told}
use Rattle.ipc_streams.proofs.TakenMessages.{given_ok, tables_refused, values_cut, values_given}
use Rattle.ipc_streams.proofs.cursor.StreamCursor.take_dictionary.Goals as goal

pub returns-in_err-message : goal.returns-in_err-message
returns-in_err-message g c =
    let x = c.in_err-message.field-0.0 in
    let e : c.from_residual.result ≡ Err x = is_err _ _ _ c.from_residual.ensures.0 c.from_residual.ensures.1 (λ f h. h) in
    values_not_taken g.F.Feed.rest g.F.Feed.faults g.F.Feed.references c.args.feed.now _ c.args.self.now _ c.args.bytes.now c.args.count c.from_residual.result x e (decoded_cause x _ _ _ c.in_err-message.ensures.gives) (record { columns = refl; is_finished = refl; feed = search rules })
    (λ s d m b reads holds found tag body told. tables_refused s d c.args.bytes.now b m found tag x c.in_err-message.ensures.gives)

pub returns-in_err-body : goal.returns-in_err-body
returns-in_err-body g c =
    let x = c.in_err-body.field-0.0 in
    let e : c.from_residual-in_err-body.result ≡ Err x = is_err _ _ _ c.from_residual-in_err-body.ensures.0 c.from_residual-in_err-body.ensures.1 (λ f h. h) in
    values_not_taken g.F.Feed.rest g.F.Feed.faults g.F.Feed.references c.args.feed.now _ c.args.self.now _ c.args.bytes.now c.args.count c.from_residual-in_err-body.result x e c.in_err-body.ensures.cause (record { columns = refl; is_finished = refl; feed = c.in_err-body.ensures.kept })
    (λ s d m b reads holds found tag body told. values_cut s d c.args.bytes.now b m found tag (dictionary_message_of c.in_ok-message.message) c.args.count x _ _ c.in_ok-message.ensures.gives told body c.in_err-body.ensures.gives)

pub read_dictionary-requires : goal.read_dictionary-requires
read_dictionary-requires g c = record { values = values_told (stream_schema c.args.self.now.columns.metadata) (held_in c.args.self.now.dictionaries) c.args.self.now.values }

pub returns : goal.returns
returns g c = record {
  gives = λ s d m reads holds found tag body. given_ok (g.F.Feed.rest c.args.feed.now) _ (λ b told.
      values_given s d c.args.bytes.now b m found tag (stream_schema c.args.self.now.columns.metadata) (dictionary_message_of c.in_ok-message.message) c.args.count c.in_ok-body.body _ _ (held_in c.read_dictionary.new.dictionaries) c.read_dictionary.result reads.schema c.in_ok-message.ensures.gives told body c.in_ok-body.ensures.gives (c.read_dictionary.ensures.adds d holds));
  held = λ s d m reads holds found tag body.
      values_leave s (held_in c.args.self.now.dictionaries) c.args.bytes.now m c.args.count c.in_ok-body.body (g.F.Feed.rest c.args.feed.now) _ found body c.in_ok-body.ensures.gives (stream_schema c.args.self.now.columns.metadata) (held_in c.read_dictionary.new.dictionaries) (dictionary_message_of c.in_ok-message.message) c.read_dictionary.result
      reads.schema tag c.in_ok-message.ensures.gives (c.read_dictionary.ensures.held d holds);
  cause = of_bytes_in c.read_dictionary.result _ _ c.read_dictionary.ensures.cause;
  faults_stay = stays_by c.read_dictionary.result _ _ c.in_ok-body.ensures.faults_stay;
  kept = record { columns = refl; is_finished = refl; feed = c.in_ok-body.ensures.kept };
}
