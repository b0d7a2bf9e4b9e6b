use Rattle.ipc_append.proofs.Handed.{refused}
use Rattle.ipc_append.proofs.WholeSteps.{batches_stop, has_kinds, is_whole, kept_since, start_stops}
use Rattle.ipc_append.proofs.Below.{cause_since}
use Rattle.ipc_to_file.proofs.read.read_stream.Goals as goal

pub returns-in_err-metadata-clause-refused : goal.returns-in_err-metadata-clause-refused
returns-in_err-metadata-clause-refused g c = refused _ c.from_residual.result c.in_err-metadata.field-0.0 c.from_residual.ensures.1 (start_stops _ _ c.in_err-metadata.field-0.0 c.in_err-metadata.ensures.gives)

pub returns-in_err-metadata-clause-cause : goal.returns-in_err-metadata-clause-cause
returns-in_err-metadata-clause-cause g c = refused _ c.from_residual.result _ c.from_residual.ensures.1 c.in_err-metadata.ensures.cause

pub returns-in_err-copy-clause-cause : goal.returns-in_err-copy-clause-cause
returns-in_err-copy-clause-cause g c = refused _ c.from_residual-in_err-copy.result _ c.from_residual-in_err-copy.ensures.1 tt

pub returns-in_err-batches-clause-refused : goal.returns-in_err-batches-clause-refused
returns-in_err-batches-clause-refused g c =
    refused _ c.from_residual-in_err-batches.result c.in_err-batches.field-0.0 c.from_residual-in_err-batches.ensures.1
    (batches_stop _ _ c.in_ok-metadata.metadata c.in_ok-copy.copy _ c.in_err-batches.field-0.0 c.in_ok-metadata.ensures.gives c.in_ok-copy.ensures.view c.in_err-batches.ensures.gives)

pub returns-in_err-batches-clause-cause : goal.returns-in_err-batches-clause-cause
returns-in_err-batches-clause-cause g c =
    refused _ c.from_residual-in_err-batches.result c.in_err-batches.field-0.0 c.from_residual-in_err-batches.ensures.1 (cause_since _ _ _ _ c.in_ok-metadata.ensures.kept.faults c.in_err-batches.ensures.cause)

pub returns-in_err-batches-clause-kept : goal.returns-in_err-batches-clause-kept
returns-in_err-batches-clause-kept g c = kept_since _ _ _ _ _ c.in_ok-metadata.ensures.kept c.in_err-batches.ensures.kept

pub invariant_of-result : goal.invariant_of-result
invariant_of-result g c = record { kinds = has_kinds _ _ c.in_ok-metadata.metadata c.in_ok-copy.copy c.in_ok-batches.batches c.in_ok-copy.ensures.schema c.in_ok-batches.ensures.gives }

pub returns-clause-whole : goal.returns-clause-whole
returns-clause-whole g c = is_whole _ _ c.in_ok-metadata.metadata c.in_ok-copy.copy _ c.in_ok-batches.batches _ c.in_ok-metadata.ensures.gives c.in_ok-copy.ensures.view c.in_ok-batches.ensures.gives

pub returns-clause-kept : goal.returns-clause-kept
returns-clause-kept g c = kept_since _ _ _ _ _ c.in_ok-metadata.ensures.kept c.in_ok-batches.ensures.kept
