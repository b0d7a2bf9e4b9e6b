use Rattle.std.proofs.Common.{refl}
use Rattle.ipc_append.proofs.Handed.{refused}
use Rattle.ipc_to_file.specs.Streams.{lists_of}
use Rattle.ipc_to_file.proofs.Puts.{sink_same}
use Rattle.ipc_to_file.proofs.Refusals.{complete, err_of, file_cause, file_leaves, file_refused_at, leaves_same, makes_file, ok_of, united_cause, united_may, united_readable, united_refused_at}
use Rattle.ipc_to_file.proofs.conversion.to_file.Goals as goal

pub write_file-requires-clause-readable : goal.write_file-requires-clause-readable
write_file-requires-clause-readable g c = united_readable _ _ c.in_ok-stream.ensures.united

pub write_file-requires-clause-may : goal.write_file-requires-clause-may
write_file-requires-clause-may g c = united_may _ _ c.in_ok-stream.ensures.united

pub write_file-requires-clause-over : goal.write_file-requires-clause-over
write_file-requires-clause-over g c = (lists_of c.in_ok-stream.ensures.united.stream, c.in_ok-stream.ensures.united.made.over)

pub returns-in_err-stream-clause-refused : goal.returns-in_err-stream-clause-refused
returns-in_err-stream-clause-refused g c = refused _ c.from_residual.result _ c.from_residual.ensures.1 (united_refused_at _ _ c.in_err-stream.ensures.refused)

pub returns-in_err-stream-clause-cause : goal.returns-in_err-stream-clause-cause
returns-in_err-stream-clause-cause g c = refused _ c.from_residual.result c.in_err-stream.field-0.0 c.from_residual.ensures.1 (united_cause _ _ _ _ _ c.in_err-stream.ensures.cause)

pub returns-in_err-stream-clause-leaves : goal.returns-in_err-stream-clause-leaves
returns-in_err-stream-clause-leaves g c = refused _ c.from_residual.result c.in_err-stream.field-0.0 c.from_residual.ensures.1 (leaves_same _ _ _ refl)

pub returns-in_err-stream-clause-complete : goal.returns-in_err-stream-clause-complete
returns-in_err-stream-clause-complete g c =
    complete c.from_residual.result _ _ _ _ _ (refused _ c.from_residual.result _ c.from_residual.ensures.1 (united_refused_at _ _ c.in_err-stream.ensures.refused))
    (refused _ c.from_residual.result c.in_err-stream.field-0.0 c.from_residual.ensures.1 (united_cause _ _ _ _ _ c.in_err-stream.ensures.cause))

pub returns-in_err-stream-clause-sink : goal.returns-in_err-stream-clause-sink
returns-in_err-stream-clause-sink g c = sink_same _ _ _ _

pub returns-clause-whole : goal.returns-clause-whole
returns-clause-whole g c = ok_of c.write_file.result _ _ (λ s. makes_file _ _ _ c.in_ok-stream.stream s c.in_ok-stream.ensures.united) c.write_file.ensures.writes

pub returns-clause-refused : goal.returns-clause-refused
returns-clause-refused g c = err_of c.write_file.result _ _ (λ e. file_refused_at _ e c.in_ok-stream.stream _ _ _ _ c.in_ok-stream.ensures.united) c.write_file.ensures.stops

pub returns-clause-cause : goal.returns-clause-cause
returns-clause-cause g c = err_of c.write_file.result _ _ (λ e. file_cause e _ _ _ _ _ _ _ _) c.write_file.ensures.stops

pub returns-clause-leaves : goal.returns-clause-leaves
returns-clause-leaves g c = err_of c.write_file.result _ _ (λ e. file_leaves e _ _ _ _ _ _) c.write_file.ensures.stops

pub returns-clause-complete : goal.returns-clause-complete
returns-clause-complete g c =
    complete c.write_file.result _ _ _ _ _ (err_of c.write_file.result _ _ (λ e. file_refused_at _ e c.in_ok-stream.stream _ _ _ _ c.in_ok-stream.ensures.united) c.write_file.ensures.stops)
    (err_of c.write_file.result _ _ (λ e. file_cause e _ _ _ _ _ _ _ _) c.write_file.ensures.stops)
