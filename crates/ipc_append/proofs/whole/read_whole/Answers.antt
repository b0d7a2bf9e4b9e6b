use Rattle.std.proofs.Common.{refl}
use Rattle.ipc_append.proofs.Handed.{refused}
use Rattle.ipc_append.proofs.WholeSteps.{batches_stop, fails_later, has_fields, has_kinds, is_whole, start_stops, wants_memory}
use Rattle.ipc_append.proofs.whole.read_whole.Goals as goal

pub returns-in_err-metadata-clause-refused : goal.returns-in_err-metadata-clause-refused
returns-in_err-metadata-clause-refused g c = refused _ c.from_residual.result c.in_err-metadata.field-0.0 c.from_residual.ensures.1 (start_stops _ _ c.in_err-metadata.field-0.0 c.in_err-metadata.ensures.gives)

pub returns-in_err-batches-clause-refused : goal.returns-in_err-batches-clause-refused
returns-in_err-batches-clause-refused g c =
    refused _ c.from_residual-in_err-batches.result c.in_err-batches.field-0.0 c.from_residual-in_err-batches.ensures.1
    (batches_stop _ _ c.in_ok-metadata.metadata c.in_ok-copy.copy _ c.in_err-batches.field-0.0 c.in_ok-metadata.ensures.gives c.in_ok-copy.ensures.view c.in_err-batches.ensures.gives)

pub invariant_of-result : goal.invariant_of-result
invariant_of-result g c = record { kinds = has_kinds _ _ c.in_ok-metadata.metadata c.in_ok-copy.copy c.in_ok-batches.batches c.in_ok-copy.ensures.schema c.in_ok-batches.ensures.gives }

pub returns-clause-whole : goal.returns-clause-whole
returns-clause-whole g c = is_whole _ _ c.in_ok-metadata.metadata c.in_ok-copy.copy _ c.in_ok-batches.batches _ c.in_ok-metadata.ensures.gives c.in_ok-copy.ensures.view c.in_ok-batches.ensures.gives

pub returns-clause-fields : goal.returns-clause-fields
returns-clause-fields g c = has_fields c.in_ok-metadata.metadata c.in_ok-copy.copy _ _ c.in_ok-batches.batches c.in_ok-copy.ensures.view c.in_ok-batches.ensures.gives

pub returns-in_err-metadata-clause-cause : goal.returns-in_err-metadata-clause-cause
returns-in_err-metadata-clause-cause g c = refused _ c.from_residual.result c.in_err-metadata.field-0.0 c.from_residual.ensures.1 (record { behind = _; kept = c.in_err-metadata.ensures.kept; cause = c.in_err-metadata.ensures.cause })

pub returns-in_err-copy-clause-cause : goal.returns-in_err-copy-clause-cause
returns-in_err-copy-clause-cause g c = refused _ c.from_residual-in_err-copy.result _ c.from_residual-in_err-copy.ensures.1 (wants_memory _ _ _ _ refl)

pub returns-in_err-batches-clause-cause : goal.returns-in_err-batches-clause-cause
returns-in_err-batches-clause-cause g c =
    refused _ c.from_residual-in_err-batches.result c.in_err-batches.field-0.0 c.from_residual-in_err-batches.ensures.1 (fails_later _ _ _ _ c.in_err-batches.field-0.0 c.in_ok-metadata.ensures.kept c.in_err-batches.ensures.cause)
