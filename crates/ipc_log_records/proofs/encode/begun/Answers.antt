use Rattle.std.proofs.Common.{refl, ap, ◌∙◌, subst, inl}
use Rattle.ipc_bodies.specs.declared.encoding.Encoding.TheVariants.{Bytes}
use Rattle.ipc_stream_writer.specs.Below.{is_started}
use Rattle.ipc_stream_writer.specs.Calls.{IsFresh}
use Rattle.ipc_log_records.proofs.Writing.{begun_record, handed, not_begun}
use Rattle.ipc_log_records.proofs.encode.begun.Goals as goal

pub returns-in_err-writer-clause-err : goal.returns-in_err-writer-clause-err
returns-in_err-writer-clause-err c = handed _ c.from_residual.result c.in_err-writer.field-0.0.error c.from_residual.ensures.1 (inl c.in_err-writer.ensures.err)

pub returns-in_err-start-clause-err : goal.returns-in_err-start-clause-err
returns-in_err-start-clause-err c =
    let fresh = subst (λ o. IsFresh o Bytes c.in_ok-writer.writer.core) c.record_options-options.ensures c.in_ok-writer.ensures.fresh in
    handed _ c.from_residual-in_err-start.result c.in_err-start.field-0.0 c.from_residual-in_err-start.ensures.1 (not_begun _ c.in_err-start.field-0.0 c.in_ok-writer.writer.core c.start.new.self.core c.args.schema.now refl fresh c.in_err-start.ensures.starts)

pub returns-clause-begun : goal.returns-clause-begun
returns-clause-begun c =
    let fresh = subst (λ o. IsFresh o Bytes c.in_ok-writer.writer.core) c.record_options-options.ensures c.in_ok-writer.ensures.fresh in
    let none = ap (λ s. s.bytes.items) c.in_ok-writer.ensures.sink ∙ c.new-sink.ensures in
    begun_record _ c.in_ok-writer.writer.core c.start.new.self.core c.args.schema.now c.in_ok-writer.writer.sink.bytes.items c.start.new.self.sink.bytes.items fresh none refl refl c.in_ok-start.ensures.starts

pub returns-clause-started : goal.returns-clause-started
returns-clause-started c = ap is_started c.in_ok-start.ensures.starts.state
