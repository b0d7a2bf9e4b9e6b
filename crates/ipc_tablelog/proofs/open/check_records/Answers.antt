use Rattle.std.proofs.Common.{◌∙◌, ap, inr, length, refl, sym, subst, arith, true≢false}
use Rattle.ipc_log_records.proofs.Writing.{handed}
use Rattle.ipc_record_log.proofs.ReadOn.{reads_on}
use Rattle.ipc_log_records.specs.LogSchemas.{log_fields}
use Rattle.ipc_tablelog.proofs.Opening.{RecordAt, no_log_later, nothing_read, one_more, refused_behind, same_on}
use Rattle.ipc_tablelog.proofs.open.check_records.Goals as goal

pub loop-i-init : goal.loop-i-init
loop-i-init g c = record {
  kept = nothing_read c.args.log.now.disk (g.met.D.LogDisk.counts_now c.args.log.now.disk) (g.met.D.LogDisk.only_now c.args.log.now.disk);
  same = (refl, refl, refl);
  ones = λ b r k told some less at. absurd (omega (arith, some, less));
}

pub returns-in_err-stream-clause-err : goal.returns-in_err-stream-clause-err
returns-in_err-stream-clause-err g c =
    let i = c.loop-i.invariant in
    handed _ c.from_residual.result c.in_err-stream.field-0.0 c.from_residual.ensures.1 (refused_behind c.in_err-stream.field-0.0 _ _ _ _ _ i.kept.content i.kept.faults c.in_err-stream.ensures.err)

pub returns-then-not-is_batch_of-clause-err : goal.returns-then-not-is_batch_of-clause-err
returns-then-not-is_batch_of-clause-err g c =
    let i = c.loop-i.invariant in
    let content = g.D.LogDisk.content c.args.log.now.disk in
    inr (inr (
      refl,
      no_log_later content c.args.schema.now c.args.log.now.spans.items c.loop-i.i c.in_ok-stream.stream c.requires.first c.requires.own (λ b told. (c.args.log.now.ready c.requires.ready b told).log.spanned) (omega arith)
          (omega (arith, c.len-records.ensures)) (subst (λ o. RecordAt o c.loop-i.i c.in_ok-stream.stream) i.kept.content c.in_ok-stream.ensures.record)
          (λ is. true≢false (sym (c.is_batch_of.ensures.1 is) ∙ c.if-not-is_batch_of.true)),
    ))

pub loop-i-preserved : goal.loop-i-preserved
loop-i-preserved g c =
    let i = c.loop-i.invariant in
    let content = g.D.LogDisk.content c.args.log.now.disk in
    record {
      kept = reads_on i.kept c.in_ok-stream.ensures.kept;
      same = same_on c.in_ok-stream.ensures.same i.same;
      ones = one_more content c.args.schema.now c.loop-i.i c.in_ok-stream.stream i.ones (subst (λ o. RecordAt o c.loop-i.i c.in_ok-stream.stream) i.kept.content c.in_ok-stream.ensures.record) c.requires.own
          (c.is_batch_of.ensures.0 c.if-not-is_batch_of.false);
    }

pub record_at-requires-clause-ready : goal.record_at-requires-clause-ready
record_at-requires-clause-ready g c = c.loop-i.invariant.same.2 ∙ c.requires.ready

pub record_at-requires-clause-inside : goal.record_at-requires-clause-inside
record_at-requires-clause-inside g c = omega (arith, ap length c.loop-i.invariant.same.0, c.len-records.ensures)

pub returns-in_err-stream-clause-kept : goal.returns-in_err-stream-clause-kept
returns-in_err-stream-clause-kept g c = reads_on c.loop-i.invariant.kept c.record_at.ensures.kept

pub returns-in_err-stream-clause-same : goal.returns-in_err-stream-clause-same
returns-in_err-stream-clause-same g c =
    same_on c.record_at.ensures.same c.loop-i.invariant.same

pub returns-then-not-is_batch_of-clause-kept : goal.returns-then-not-is_batch_of-clause-kept
returns-then-not-is_batch_of-clause-kept g c = reads_on c.loop-i.invariant.kept c.record_at.ensures.kept

pub returns-then-not-is_batch_of-clause-same : goal.returns-then-not-is_batch_of-clause-same
returns-then-not-is_batch_of-clause-same g c =
    same_on c.record_at.ensures.same c.loop-i.invariant.same

pub returns-clause-ones : goal.returns-clause-ones
returns-clause-ones g c = λ b r k told some less at. c.loop-i.invariant.ones b r k told some (omega (arith, less, c.len-records.ensures)) at

pub returns-clause-kept : goal.returns-clause-kept
returns-clause-kept g c = c.loop-i.invariant.kept

pub returns-clause-same : goal.returns-clause-same
returns-clause-same g c = c.loop-i.invariant.same
