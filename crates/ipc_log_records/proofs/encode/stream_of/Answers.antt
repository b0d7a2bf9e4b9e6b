use Rattle.std.proofs.Common.{inl}
use Rattle.ipc_log_records.specs.Written.{lent}
use Rattle.ipc_log_records.proofs.Writing.{handed, if_err, no_batch_stream, no_stream, stream_given}
use Rattle.ipc_log_records.proofs.encode.stream_of.Goals as goal

pub returns-in_err-writer-clause-err : goal.returns-in_err-writer-clause-err
returns-in_err-writer-clause-err c =
    handed _ c.from_residual.result c.in_err-writer.field-0.0 c.from_residual.ensures.1 (no_stream c.in_err-writer.field-0.0 c.args.schema.now (lent c.args.batch) c.in_err-writer.ensures.err)

pub returns-in_err-write_if_any-clause-err : goal.returns-in_err-write_if_any-clause-err
returns-in_err-write_if_any-clause-err c =
    handed _ c.from_residual-in_err-write_if_any.result c.in_err-write_if_any.field-0.0 c.from_residual-in_err-write_if_any.ensures.1
    (no_batch_stream c.in_err-write_if_any.field-0.0 c.args.schema.now (lent c.args.batch) c.in_ok-writer.writer.core c.in_ok-writer.ensures.begun.0 c.in_err-write_if_any.ensures.err)

pub returns-clause-stream : goal.returns-clause-stream
returns-clause-stream c =
    stream_given c.ended.result c.args.schema.now (lent c.args.batch) c.in_ok-writer.writer.core c.write_if_any.new.writer.core c.in_ok-writer.writer.sink.bytes.items c.write_if_any.new.writer.sink.bytes.items c.in_ok-writer.ensures.begun
    c.in_ok-write_if_any.ensures.texts c.ended.ensures.ended c.ended.ensures.bytes

pub returns-clause-err : goal.returns-clause-err
returns-clause-err c = if_err c.ended.result _ _ (λ e h. inl h) c.ended.ensures.err
