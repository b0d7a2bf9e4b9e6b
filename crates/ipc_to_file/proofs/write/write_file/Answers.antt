use Rattle.std.proofs.Common.{◌∙◌}
use Rattle.ipc_append.proofs.Handed.{refused}
use Rattle.ipc_to_file.proofs.Puts.{sink_since, stops_since}
use Rattle.ipc_to_file.proofs.Wholes.{all_going, all_stopped, rows_all, writes_file}
use Rattle.ipc_to_file.proofs.write.write_file.Goals as goal

pub returns-in_err-core-clause-stops : goal.returns-in_err-core-clause-stops
returns-in_err-core-clause-stops g c = refused _ c.from_residual.result c.in_err-core.field-0.0 c.from_residual.ensures.1 (c.in_err-core.ensures.stops c.args.stream.batches.items)

pub returns-in_err-rows-clause-stops : goal.returns-in_err-rows-clause-stops
returns-in_err-rows-clause-stops g c =
    refused _ c.from_residual-in_err-rows.result c.in_err-rows.field-0.0 c.from_residual-in_err-rows.ensures.1
    (all_stopped c.args.stream c.requires.may c.requires.over _ _ _ c.in_ok-core.ensures.begun _ c.as_slice.ensures.value _ c.write_batches.new.core _ _ _ _ c.in_ok-core.ensures.sink.faults (c.in_err-rows.ensures.writes c.args.stream.metadata c.requires.over.0 (g.W.Sink.written c.args.sink.now)))

pub returns-in_err-rows-clause-sink : goal.returns-in_err-rows-clause-sink
returns-in_err-rows-clause-sink g c = sink_since _ _ _ _ _ _ c.in_ok-core.ensures.sink c.in_err-rows.ensures.sink

pub returns-in_err-bytes-clause-stops : goal.returns-in_err-bytes-clause-stops
returns-in_err-bytes-clause-stops g c =
    let start = g.W.Sink.written c.args.sink.now in
    let going = all_going c.args.stream c.requires.may c.requires.over _ start _ c.in_ok-core.ensures.begun _ c.as_slice.ensures.value c.in_ok-rows.rows c.write_batches.new.core (g.W.Sink.written c.write_batches.new.sink) (g.W.Sink.faults c.begin_file.new.sink) (g.W.Sink.faults c.write_batches.new.sink) (c.in_ok-rows.ensures.writes c.args.stream.metadata c.requires.over.0 start) in
    let since = sink_since g.W.Sink.faults g.W.Sink.wants g.W.Sink.references c.args.sink.now c.begin_file.new.sink c.write_batches.new.sink c.in_ok-core.ensures.sink c.in_ok-rows.ensures.sink in
    refused _ c.from_residual-in_err-bytes.result c.in_err-bytes.field-0.0 c.from_residual-in_err-bytes.ensures.1
    (stops_since _ _ _ _ _ _ _ _ since.faults (c.in_err-bytes.ensures.ends c.args.stream.metadata c.requires.over.0 start c.args.stream.batches.items going))

pub returns-in_err-bytes-clause-sink : goal.returns-in_err-bytes-clause-sink
returns-in_err-bytes-clause-sink g c = sink_since _ _ _ _ _ _ c.in_ok-core.ensures.sink (sink_since _ _ _ _ _ _ c.in_ok-rows.ensures.sink c.in_err-bytes.ensures.sink)

pub returns-clause-writes : goal.returns-clause-writes
returns-clause-writes g c =
    let start = g.W.Sink.written c.args.sink.now in
    let going = all_going c.args.stream c.requires.may c.requires.over _ start _ c.in_ok-core.ensures.begun _ c.as_slice.ensures.value c.in_ok-rows.rows c.write_batches.new.core (g.W.Sink.written c.write_batches.new.sink) (g.W.Sink.faults c.begin_file.new.sink) (g.W.Sink.faults c.write_batches.new.sink) (c.in_ok-rows.ensures.writes c.args.stream.metadata c.requires.over.0 start) in
    writes_file c.args.stream c.len.result c.in_ok-rows.rows c.in_ok-bytes.bytes start _ (c.len.ensures ∙ c.args.stream.batches.ok.0) (rows_all _ _ _ c.as_slice.ensures.value c.in_ok-rows.ensures.rows) (c.in_ok-bytes.ensures.ends c.args.stream.metadata c.requires.over.0 start c.args.stream.batches.items going)

pub returns-clause-sink : goal.returns-clause-sink
returns-clause-sink g c = sink_since _ _ _ _ _ _ c.in_ok-core.ensures.sink (sink_since _ _ _ _ _ _ c.in_ok-rows.ensures.sink c.in_ok-bytes.ensures.sink)
