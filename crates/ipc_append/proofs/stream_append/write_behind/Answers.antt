use Rattle.ipc_append.proofs.AppendSteps.{stands_at_end, stops_all, written_all}
use Rattle.ipc_append.proofs.stream_append.write_behind.Goals as goal

pub end_file-requires-clause-whole : goal.end_file-requires-clause-whole
end_file-requires-clause-whole g c = stands_at_end _ _ _ c.args.options c.args.prepared.file _ c.requires.whole c.in_ok-writer.ensures.ok

pub end_file-requires-clause-may_end : goal.end_file-requires-clause-may_end
end_file-requires-clause-may_end g c = (c.in_ok-writer.ensures.ok.continued.bytes, c.in_ok-writer.ensures.ok.continued.may_end)

pub returns-clause-written : goal.returns-clause-written
returns-clause-written g c = written_all c.end_file.result g.D.Source.content _ _ _ c.args.options c.args.prepared.file c.in_ok-writer.writer.core _ c.args.prepared.chunks.items c.as_slice.ensures.value c.in_ok-writer.ensures.ok c.end_file.ensures.ends

pub returns-clause-stops : goal.returns-clause-stops
returns-clause-stops g c =
    stops_all c.end_file.result (λ e. g.D.Source.content e.object) (λ e. g.D.Source.faults e.object) (λ e. e.error) _ _ _ c.args.options c.args.prepared.file c.in_ok-writer.writer.core _ c.args.prepared.chunks.items _ _ c.as_slice.ensures.value c.requires.whole c.in_ok-writer.ensures.faults c.in_ok-writer.ensures.ok
    c.end_file.ensures.stops
