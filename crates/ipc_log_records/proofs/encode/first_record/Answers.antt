use Rattle.std.proofs.Common.{inl, refl}
use Rattle.ipc_log_records.proofs.Writing.{handed}
use Rattle.ipc_log_records.proofs.encode.first_record.Goals as goal

pub returns-in_err-copy-clause-err : goal.returns-in_err-copy-clause-err
returns-in_err-copy-clause-err c = handed _ c.from_residual-in_err-copy.result _ c.from_residual-in_err-copy.ensures.1 (inl (inl refl))
