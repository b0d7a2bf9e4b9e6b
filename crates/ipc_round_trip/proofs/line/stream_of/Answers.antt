use Rattle.std.proofs.Common.{sym, ap, subst, Some, [], List, ℕ}
use Rattle.arrow_spec.specs.Files.{«all»}
use Rattle.ipc_transcode.specs.Transcode.{Transcodes}
use Rattle.ipc_round_trip.proofs.Tables.{transcoded_table}
use Rattle.ipc_round_trip.proofs.line.stream_of.Goals as goal

pub returns-clause-stream : goal.returns-clause-stream
returns-clause-stream c t h =
    let s = c.in_ok-summary.summary in
    let file = c.args.file.items in
    let begun = subst (λ (x : List ℕ). Transcodes s file «all» (λ y. y) (Some x) (Some c.transcode.new.sink.bytes.items)) c.new-sink.ensures.bytes c.in_ok-summary.ensures.whole in
    let ended = subst (λ (x : List ℕ). Transcodes s file «all» (λ y. y) (Some []) (Some x)) (ap (λ v. v.items) (sym c.into_bytes-stream.ensures)) begun in
    transcoded_table s file c.into_bytes-stream.result.items t ended h
