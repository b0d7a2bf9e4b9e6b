use Rattle.std.proofs.Common.{[], inl, inr, refl, sym, ◌∙◌, ap, true≢false}
use Rattle.arrow_spec.specs.Regular.{regular}
use Rattle.arrow_types.specs.Schemas.{fields_in}
use Rattle.ipc_log_records.proofs.Writing.{handed}
use Rattle.ipc_tablelog.proofs.Opening.{first_has_batches, first_is, no_spans, nothing_read, own_fields_read}
use Rattle.ipc_tablelog.proofs.open.first_schema.Goals as goal

pub returns-then-records-eq0-clause-kept : goal.returns-then-records-eq0-clause-kept
returns-then-records-eq0-clause-kept g c = nothing_read c.args.log.now.disk (g.met.D.LogDisk.counts_now c.args.log.now.disk) (g.met.D.LogDisk.only_now c.args.log.now.disk)

pub returns-then-records-eq0-clause-err : goal.returns-then-records-eq0-clause-err
returns-then-records-eq0-clause-err g c = inr (inr (
  refl,
  no_spans (g.D.LogDisk.content c.args.log.now.disk) c.args.log.now.spans.items (λ b told. (c.args.log.now.ready c.requires.ready b told).log.spanned) (sym c.len-records.ensures ∙ c.if-records-eq0.true),
))

pub returns-in_err-stream-clause-err : goal.returns-in_err-stream-clause-err
returns-in_err-stream-clause-err g c = handed _ c.from_residual.result c.in_err-stream.field-0.0 c.from_residual.ensures.1 c.in_err-stream.ensures.err

pub returns-then-not-has_no_batch-clause-err : goal.returns-then-not-has_no_batch-clause-err
returns-then-not-has_no_batch-clause-err g c = inr (inr (
  refl,
  first_has_batches (g.D.LogDisk.content c.args.log.now.disk) c.in_ok-stream.stream c.in_ok-stream.ensures.record (λ none. true≢false (sym (c.has_no_batch.ensures.1 none) ∙ c.if-not-has_no_batch.true)),
))

pub returns-in_err-schema-clause-err : goal.returns-in_err-schema-clause-err
returns-in_err-schema-clause-err g c = handed _ c.from_residual-in_err-schema.result _ c.from_residual-in_err-schema.ensures.1 (inl refl)

pub returns-clause-first : goal.returns-clause-first
returns-clause-first g c =
    first_is (g.D.LogDisk.content c.args.log.now.disk) c.in_ok-stream.stream c.in_ok-schema.schema c.in_ok-stream.ensures.record (c.has_no_batch.ensures.0 c.if-not-has_no_batch.false) c.in_ok-stream.ensures.fields
    (c.in_ok-schema.ensures ∙ c.deref.ensures)

pub returns-clause-is_regular : goal.returns-clause-is_regular
returns-clause-is_regular g c = ap (λ s. regular (fields_in s) []) (c.in_ok-schema.ensures ∙ c.deref.ensures) ∙ c.in_ok-stream.ensures.is_regular

pub returns-clause-own : goal.returns-clause-own
returns-clause-own g c = own_fields_read c.in_ok-stream.stream c.in_ok-schema.schema c.in_ok-stream.ensures.fields (c.in_ok-schema.ensures ∙ c.deref.ensures)
