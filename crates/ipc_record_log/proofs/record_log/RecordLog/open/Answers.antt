use Rattle.std.proofs.Common.{sym, ◌∙◌, ap}
use Rattle.ipc_record_log.specs.Logs.{IsSettled}
use Rattle.ipc_record_log.specs.Records.{log_records}
use Rattle.ipc_record_log.proofs.Gates.{means}
use Rattle.ipc_record_log.proofs.record_log.RecordLog.open.Goals as goal

pub invariant_of-result : goal.invariant_of-result
invariant_of-result g c = record {
  near = c.in-Ok.ensures.near;
  ready = λ is b told. record {
    log = c.in-Ok.ensures.walked b (sym c.in-Ok.ensures.content ∙ told);
    only = λ x left. c.in-Ok.ensures.durable b x told left;
  };
}

pub returns-in-Ok-clause-opened : goal.returns-in-Ok-clause-opened
returns-in-Ok-clause-opened g c = λ b told.
    let now = c.in-Ok.ensures.content ∙ told in
    let s : IsSettled (g.D.LogDisk.images c.synced_walk.new.disk) b c.in-Ok.walk.spans.items c.in-Ok.walk.end =
    record { log = c.in-Ok.ensures.walked b told; only = λ x left. c.in-Ok.ensures.durable b x now left } in
    let is = means _ b _ _ s in
    record { b = b; told = now; means = is; durable = λ x left. ap log_records (s.only x left) ∙ is }
