use Rattle.std.proofs.Common.{◌<◌, IfSome, ◌≡◌, ℕ, Option, Ok, Err, ◌+◌, ◌^◌, ◌∙◌, sym, ap, subst, arith}
use Rattle.ipc_io.proofs.Kept.{sink_kept_on, source_kept_on}
use Rattle.laws_walk.proofs.Below.{is_err}
use Rattle.laws_walk.specs.declared.summary.Summary.{Summary}
use Rattle.ipc_csv.specs.Printing.{PrintsNext}
use Rattle.ipc_csv.proofs.AllPrints.{PrintedSome, no_more, one_more, refused}
use Rattle.ipc_csv.proofs.FetchedPrints.{more_fetched}
use Rattle.ipc_csv.proofs.Nexts.{Told}
use Rattle.ipc_csv.proofs.print.print_batches.Goals as goal
use Rattle.ipc_csv.proofs.print.print_batches.Goals.{in-Some, in_default}

pub returns-in_err-rows-clause-prints : goal.returns-in_err-rows-clause-prints
returns-in_err-rows-clause-prints g c =
    let e : c.from_residual.result ≡ Err c.in_err-rows.field-0.0 = is_err _ _ _ c.from_residual.ensures.0 c.from_residual.ensures.1 (λ f h. h) in
    refused _ _ _ (g.S.Source.content c.args.source.now) (g.S.Source.content c.loop.source) c.loop.reader c.print_next.new.reader c.loop.out c.print_next.new.out (g.W.Sink.written c.loop.sink) (g.W.Sink.written c.print_next.new.sink) c.loop.summary.batches c.loop.summary.rows c.loop.counter
    c.loop.invariant.kept.content c.loop.invariant.metadata c.loop.invariant.projection c.loop.invariant.prints c.in_err-rows.field-0.0 c.from_residual.result e c.in_err-rows.ensures.prints

pub loop-preserved : goal.loop-preserved
loop-preserved g c = record {
  prints = elim c.match-branch-2.branch [
    | in-Some w ↦ subst (λ (s : Summary). PrintedSome c.args.reader.now c.args.out.now (g.W.Sink.written c.args.sink.now) (g.S.Source.content c.args.source.now) c.print_next.new.reader c.print_next.new.out (g.W.Sink.written c.print_next.new.sink) s.batches s.rows (c.loop.counter + 1)) (sym w.summary-is)
        (one_more _ _ _ (g.S.Source.content c.args.source.now) (g.S.Source.content c.loop.source) c.loop.reader c.print_next.new.reader c.loop.out c.print_next.new.out (g.W.Sink.written c.loop.sink) (g.W.Sink.written c.print_next.new.sink) c.loop.summary.batches c.loop.summary.rows c.loop.counter c.loop.invariant.kept.content c.loop.invariant.metadata c.loop.invariant.projection c.loop.invariant.prints w.in-Some.rows (subst (λ o. Told (g.S.Source.content c.loop.source) c.loop.reader c.loop.out (g.W.Sink.written c.loop.sink) (λ x bs. PrintsNext (Ok o) x c.print_next.new.reader c.print_next.new.out (g.W.Sink.written c.print_next.new.sink) bs)) w.in-Some.is c.in_ok-rows.ensures.prints))
    | in_default w ↦ subst (λ (s : Summary). PrintedSome c.args.reader.now c.args.out.now (g.W.Sink.written c.args.sink.now) (g.S.Source.content c.args.source.now) c.print_next.new.reader c.print_next.new.out (g.W.Sink.written c.print_next.new.sink) s.batches s.rows (c.loop.counter + 1)) (sym w.summary-is)
        (no_more _ _ _ (g.S.Source.content c.args.source.now) (g.S.Source.content c.loop.source) c.loop.reader c.print_next.new.reader c.loop.out c.print_next.new.out (g.W.Sink.written c.loop.sink) (g.W.Sink.written c.print_next.new.sink) c.loop.summary.batches c.loop.summary.rows c.loop.counter c.loop.invariant.kept.content c.loop.invariant.metadata c.loop.invariant.projection c.loop.invariant.prints (subst (λ o. Told (g.S.Source.content c.loop.source) c.loop.reader c.loop.out (g.W.Sink.written c.loop.sink) (λ x bs. PrintsNext (Ok o) x c.print_next.new.reader c.print_next.new.out (g.W.Sink.written c.print_next.new.sink) bs)) w.in_default.is c.in_ok-rows.ensures.prints))
  ];
  ready = c.in_ok-rows.ensures.ready;
  metadata = c.print_next.ensures.metadata ∙ c.loop.invariant.metadata;
  projection = c.print_next.ensures.projection ∙ c.loop.invariant.projection;
  fetched = more_fetched c.args.reader.now c.args.out.now (g.W.Sink.written c.args.sink.now) (g.S.Source.content c.args.source.now) (g.S.Source.content c.loop.source) c.loop.reader c.loop.out (g.W.Sink.written c.loop.sink) c.loop.summary.batches c.loop.summary.rows c.loop.counter c.print_next.new.reader.block (g.S.Source.fetched c.args.source.now) (g.S.Source.fetched c.loop.source) (g.S.Source.fetched c.print_next.new.source) c.loop.invariant.kept.content c.loop.invariant.metadata c.loop.invariant.projection c.loop.invariant.prints c.loop.invariant.fetched c.print_next.ensures.fetched;
  batches = elim c.match-branch-2.branch [ in-Some w ↦ omega (arith, c.loop.invariant.batches, ap (λ (s : Summary). s.batches) w.summary-is) | in_default w ↦ omega (arith, c.loop.invariant.batches, ap (λ (s : Summary). s.batches) w.summary-is) ];
  rows = elim c.match-branch-2.branch [ in-Some w ↦ omega (arith, c.loop.invariant.rows, ap (λ (s : Summary). s.rows) w.summary-is, subst (λ (o : Option ℕ). IfSome o (λ k. k < 2 ^ 64)) w.in-Some.is c.in_ok-rows.ensures.few) | in_default w ↦ omega (arith, c.loop.invariant.rows, ap (λ (s : Summary). s.rows) w.summary-is) ];
  kept = source_kept_on c.loop.invariant.kept c.print_next.ensures.kept;
  longest = omega (arith, c.loop.invariant.longest, c.print_next.ensures.longest);
  sink = sink_kept_on c.loop.invariant.sink c.print_next.ensures.sink;
}

pub returns-in_err-rows-clause-fetched : goal.returns-in_err-rows-clause-fetched
returns-in_err-rows-clause-fetched g c = more_fetched c.args.reader.now c.args.out.now (g.W.Sink.written c.args.sink.now) (g.S.Source.content c.args.source.now) (g.S.Source.content c.loop.source) c.loop.reader c.loop.out (g.W.Sink.written c.loop.sink) c.loop.summary.batches c.loop.summary.rows c.loop.counter c.print_next.new.reader.block (g.S.Source.fetched c.args.source.now) (g.S.Source.fetched c.loop.source) (g.S.Source.fetched c.print_next.new.source) c.loop.invariant.kept.content c.loop.invariant.metadata c.loop.invariant.projection c.loop.invariant.prints c.loop.invariant.fetched c.print_next.ensures.fetched
