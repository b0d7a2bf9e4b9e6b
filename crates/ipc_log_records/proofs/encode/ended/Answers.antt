use Rattle.std.proofs.Common.{refl, ap, ◌∙◌}
use Rattle.ipc_log_records.proofs.Writing.{ended_by, ended_bytes, handed, not_ended}
use Rattle.ipc_log_records.proofs.encode.ended.Goals as goal

pub returns-in_err-finish-clause-err : goal.returns-in_err-finish-clause-err
returns-in_err-finish-clause-err c = handed _ c.from_residual.result c.in_err-finish.field-0.0 c.from_residual.ensures.1 (not_ended _ c.in_err-finish.field-0.0 c.args.writer.core c.finish.new.self.core refl c.requires.started c.in_err-finish.ensures.finishes)

pub returns-clause-ended : goal.returns-clause-ended
returns-clause-ended c = ended_by _ c.args.writer.core c.finish.new.self.core c.in_ok-finish.ensures.finishes

pub returns-clause-bytes : goal.returns-clause-bytes
returns-clause-bytes c =
    ap (λ v. v.items) c.into_bytes.ensures ∙ ap (λ s. s.bytes.items) c.into_inner.ensures
    ∙ ended_bytes _ c.args.writer.core c.finish.new.self.core c.args.writer.sink.bytes.items c.finish.new.self.sink.bytes.items refl refl c.in_ok-finish.ensures.finishes
