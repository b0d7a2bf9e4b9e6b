use Rattle.std.proofs.Common.{◌≡◌, ◌+◌, ◌≤◌, take, drop, inl, inr, ⊎_elim, refl, ◌∙◌, arith}
use Rattle.std.proofs.lemmas.Result.{err_from_is_err_and}
use Rattle.ipc_record_log.specs.Records.{open_record}
use Rattle.ipc_record_log.proofs.ReadOn.{reads_on}
use Rattle.ipc_record_log.proofs.Walking.{log_broken, one_more, size_is, walked}
use Rattle.ipc_record_log.proofs.walk.walk_records.Goals as goal

pub returns-in_err-length-clause-err : goal.returns-in_err-length-clause-err
returns-in_err-length-clause-err g c =
    let p = err_from_is_err_and c.from_residual-in_err-length.result c.from_residual-in_err-length.ensures.1 in
    let kept = c.loop-spans.invariant.kept in
    rw (p.1, p.2) (⊎_elim
    (λ fault. inr (inl (fault.0, let rose = fault.1 in omega (arith, kept.faults, rose))))
    (λ none. inr (inr (
      none.0,
      λ b told.
          let s = c.loop-spans.invariant.so_far b told in
          log_broken b s.records c.loop-spans.at s.front s.fit (none.1 b (kept.content ∙ told)),
    )))
    c.in_err-length.ensures.err)

pub loop-spans-preserved : goal.loop-spans-preserved
loop-spans-preserved g c =
    let kept = c.loop-spans.invariant.kept in
    let n = c.in-Some.length in
    let inside : c.loop-spans.at + (16 + n) ≤ c.in_ok-size.size = rw c.in-Some.is at c.in_ok-length.ensures.inside in
    record {
      kept = reads_on kept c.record_at.ensures.kept;
      inside = inside;
      so_far = λ b told.
          let size = size_is _ c.in_ok-size.size b c.in_ok-size.ensures.size told in
          let whole : take (16 + n) (drop c.loop-spans.at b) ≡ open_record (take n (drop (c.loop-spans.at + 16) b)) = rw c.in-Some.is at (c.in_ok-length.ensures.found b (kept.content ∙ told)) in
          one_more b c.loop-spans.spans.items c.push.new.self.items c.loop-spans.at n (c.loop-spans.at + (16 + n)) (c.loop-spans.invariant.so_far b told) (omega (arith, inside)) (omega (arith, inside, size)) whole c.in_ok-push.ensures.items refl;
    }

pub returns-clause-walked : goal.returns-clause-walked
returns-clause-walked g c = λ b told.
    let kept = c.loop-spans.invariant.kept in
    let size = size_is _ c.in_ok-size.size b c.in_ok-size.ensures.size told in
    let s = c.loop-spans.invariant.so_far b told in
    walked b c.loop-spans.spans.items c.loop-spans.at s (omega (arith, c.in_ok-length.ensures.within, size)) (rw c.in_default.is at (c.in_ok-length.ensures.found b (kept.content ∙ told)))
