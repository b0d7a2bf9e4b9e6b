use Rattle.std.proofs.Common.{map}
use Rattle.ipc_tool.proofs.Adding.{IfErr-at}
use Rattle.ipc_tool.proofs.CatPuts.{complete_at, hex_added, hex_refused, line_feed_refused, put_cause, put_complete, raw_added, raw_refused}
use Rattle.ipc_tool.proofs.commands.cat.put_joined.Goals as goal

pub returns-in_err-concat_as-clause-left : goal.returns-in_err-concat_as-clause-left
returns-in_err-concat_as-clause-left g c = rw c.if-raw.true (IfErr-at _ _ _ c.from_residual.ensures.1 (raw_refused _ _ _ _ _ _ c.in_err-concat_as.ensures.part))

pub returns-in_err-concat_as-clause-cause : goal.returns-in_err-concat_as-clause-cause
returns-in_err-concat_as-clause-cause g c = IfErr-at _ _ _ c.from_residual.ensures.1 c.in_err-concat_as.ensures.cause

pub returns-in_err-concat_as-clause-complete : goal.returns-in_err-concat_as-clause-complete
returns-in_err-concat_as-clause-complete g c = complete_at _ _ _ _ _ _ _ c.from_residual.ensures.1 c.in_err-concat_as.ensures.complete

pub returns-then-raw-clause-done : goal.returns-then-raw-clause-done
returns-then-raw-clause-done g c = rw c.if-raw.true (raw_added _ _ _ _ c.in_ok-concat_as.ensures.whole)

pub returns-in_err-concat_as-2-clause-left : goal.returns-in_err-concat_as-2-clause-left
returns-in_err-concat_as-2-clause-left g c = rw c.if-raw.false (IfErr-at _ _ _ c.from_residual-in_err-concat_as-2.ensures.1 (hex_refused _ _ _ _ _ _ c.in_err-concat_as-2.ensures.part))

pub returns-in_err-concat_as-2-clause-cause : goal.returns-in_err-concat_as-2-clause-cause
returns-in_err-concat_as-2-clause-cause g c = IfErr-at _ _ _ c.from_residual-in_err-concat_as-2.ensures.1 c.in_err-concat_as-2.ensures.cause

pub returns-in_err-concat_as-2-clause-complete : goal.returns-in_err-concat_as-2-clause-complete
returns-in_err-concat_as-2-clause-complete g c = complete_at _ _ _ _ _ _ _ c.from_residual-in_err-concat_as-2.ensures.1 c.in_err-concat_as-2.ensures.complete

pub returns-in_err-put-clause-left : goal.returns-in_err-put-clause-left
returns-in_err-put-clause-left g c =
    rw c.if-raw.false (IfErr-at _ _ _ c.from_residual-in_err-put.ensures.1 (line_feed_refused _ _ _ _ _ c.in_ok-concat_as-2.ensures.whole _ _ _ _ _ _ c.in_ok-concat_as-2.ensures.sink.wants c.in_err-put.ensures.cause c.in_err-put.ensures.bytes))

pub returns-in_err-put-clause-cause : goal.returns-in_err-put-clause-cause
returns-in_err-put-clause-cause g c =
    IfErr-at _ _ _ c.from_residual-in_err-put.ensures.1 (put_cause _ _ _ _ _ _ _ _ c.in_ok-concat_as-2.ensures.sink.faults c.in_err-put.ensures.cause)

pub returns-in_err-put-clause-complete : goal.returns-in_err-put-clause-complete
returns-in_err-put-clause-complete g c =
    put_complete _ (map g.S.Source.faults c.args.files.now) (map g.S.Source.faults c.concat_as-2.new.sources) _ _ _ _ _ c.in_ok-concat_as-2.ensures.sink.faults c.in_err-put.ensures.cause _ _ _ _ c.from_residual-in_err-put.ensures.1

pub returns-clause-done : goal.returns-clause-done
returns-clause-done g c = rw c.if-raw.false (hex_added _ _ _ _ _ c.in_ok-concat_as-2.ensures.whole c.in_ok-put.ensures.bytes)
