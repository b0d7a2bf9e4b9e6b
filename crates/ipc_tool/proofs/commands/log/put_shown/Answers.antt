use Rattle.ipc_tool.proofs.LogShows.{hex_added, hex_complete, hex_left, keeps_still, line_feed_cause, line_feed_complete, line_feed_left, raw_added, raw_left}
use Rattle.ipc_tool.proofs.LogSteps.{err_of, ok_of}
use Rattle.ipc_tool.proofs.commands.log.put_shown.Goals as goal

pub returns-then-raw-clause-done : goal.returns-then-raw-clause-done
returns-then-raw-clause-done g c = rw c.if-raw.true (raw_added _ _ _ _ c.put_log_as.ensures.whole)

pub returns-then-raw-clause-left : goal.returns-then-raw-clause-left
returns-then-raw-clause-left g c = rw c.if-raw.true (raw_left _ _ _ _ _ _ c.put_log_as.ensures.part)

pub returns-in-Ok-put-clause-done : goal.returns-in-Ok-put-clause-done
returns-in-Ok-put-clause-done g c = rw c.if-raw.false (hex_added _ _ _ _ (ok_of _ _ _ c.in-Ok.is c.put_log_as-vault.ensures.whole) c.in-Ok-put.ensures.bytes)

pub returns-in-Err-put-clause-left : goal.returns-in-Err-put-clause-left
returns-in-Err-put-clause-left g c = rw c.if-raw.false (line_feed_left _ _ _ _ (ok_of _ _ _ c.in-Ok.is c.put_log_as-vault.ensures.whole) _ _ _ _ _ _ _ c.from.ensures c.put_log_as-vault.ensures.sink.wants c.in-Err-put.ensures.cause c.in-Err-put.ensures.bytes)

pub returns-in-Err-put-clause-cause : goal.returns-in-Err-put-clause-cause
returns-in-Err-put-clause-cause g c = line_feed_cause _ _ _ _ _ _ _ _ _ c.from.ensures c.put_log_as-vault.ensures.sink.faults c.in-Err-put.ensures.cause

pub returns-in-Err-put-clause-complete : goal.returns-in-Err-put-clause-complete
returns-in-Err-put-clause-complete g c = line_feed_complete _ _ _ _ _ _ _ _ _ _ c.from.ensures c.put_log_as-vault.ensures.sink.faults c.in-Err-put.ensures.cause

pub returns-in-Err-put-clause-bytes : goal.returns-in-Err-put-clause-bytes
returns-in-Err-put-clause-bytes g c = keeps_still _ _ _ _ _ _ _ _ _ c.in-Ok.is c.put_log_as-vault.ensures.bytes

pub returns-in-Err-clause-left : goal.returns-in-Err-clause-left
returns-in-Err-clause-left g c = rw c.if-raw.false (hex_left _ _ _ _ _ _ (err_of _ _ _ c.in-Err.is c.put_log_as-vault.ensures.part))

pub returns-in-Err-clause-complete : goal.returns-in-Err-clause-complete
returns-in-Err-clause-complete g c = hex_complete _ _ _ _ _ _ _ c.in-Err.is c.put_log_as-vault.ensures.complete
