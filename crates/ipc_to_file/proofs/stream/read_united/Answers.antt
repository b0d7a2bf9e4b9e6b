use Rattle.ipc_append.proofs.Handed.{refused}
use Rattle.ipc_to_file.proofs.Refusals.{err_of, keys_cause, keys_refused_at, read_refused, stream_refused_at, united_is}
use Rattle.ipc_to_file.proofs.stream.read_united.Goals as goal

pub returns-in_err-stream-clause-refused : goal.returns-in_err-stream-clause-refused
returns-in_err-stream-clause-refused g c = refused _ c.from_residual.result _ c.from_residual.ensures.1 (stream_refused_at _ _ c.in_err-stream.ensures.refused)

pub returns-in_err-stream-clause-cause : goal.returns-in_err-stream-clause-cause
returns-in_err-stream-clause-cause g c = refused _ c.from_residual.result c.in_err-stream.field-0.0 c.from_residual.ensures.1 (read_refused _ _ _ c.in_err-stream.ensures.cause)

pub returns-clause-united : goal.returns-clause-united
returns-clause-united g c = united_is _ c.united.result c.in_ok-stream.stream c.in_ok-stream.ensures.whole c.in_ok-stream.ensures.readable c.in_ok-stream.ensures.may c.united.ensures.made

pub returns-clause-refused : goal.returns-clause-refused
returns-clause-refused g c = err_of c.united.result _ _ (λ e. keys_refused_at _ e c.in_ok-stream.stream c.in_ok-stream.ensures.whole) c.united.ensures.refused

pub returns-clause-cause : goal.returns-clause-cause
returns-clause-cause g c = err_of c.united.result _ _ (λ e. keys_cause e c.in_ok-stream.stream _ _) c.united.ensures.refused
