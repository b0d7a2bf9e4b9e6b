use Rattle.std.proofs.Common.{Global, Vec, ap, refl, ℕ, ◌∙◌}
use Rattle.ipc_append.proofs.Handed.{refused}
use Rattle.ipc_to_file.proofs.Puts.{sink_same}
use Rattle.ipc_to_file.proofs.Refusals.{complete, hex_file, leaves_same, memory_cause, text_cause, text_leaves, text_refused}
use Rattle.ipc_to_file.proofs.conversion.to_hex_text.Goals as goal

pub returns-in_err-summary-clause-refused : goal.returns-in_err-summary-clause-refused
returns-in_err-summary-clause-refused g c = refused _ c.from_residual.result _ c.from_residual.ensures.1 c.in_err-summary.ensures.refused

pub returns-in_err-summary-clause-cause : goal.returns-in_err-summary-clause-cause
returns-in_err-summary-clause-cause g c = refused _ c.from_residual.result c.in_err-summary.field-0.0 c.from_residual.ensures.1 (memory_cause _ _ _ _ _ c.in_err-summary.ensures.cause)

pub returns-in_err-summary-clause-leaves : goal.returns-in_err-summary-clause-leaves
returns-in_err-summary-clause-leaves g c = refused _ c.from_residual.result c.in_err-summary.field-0.0 c.from_residual.ensures.1 (leaves_same _ _ _ refl)

pub returns-in_err-summary-clause-complete : goal.returns-in_err-summary-clause-complete
returns-in_err-summary-clause-complete g c =
    complete c.from_residual.result _ _ _ _ _ (refused _ c.from_residual.result _ c.from_residual.ensures.1 c.in_err-summary.ensures.refused)
    (refused _ c.from_residual.result c.in_err-summary.field-0.0 c.from_residual.ensures.1 (memory_cause _ _ _ _ _ c.in_err-summary.ensures.cause))

pub returns-in_err-summary-clause-sink : goal.returns-in_err-summary-clause-sink
returns-in_err-summary-clause-sink g c = sink_same _ _ _ _

pub returns-in_err-put_hex_text-clause-refused : goal.returns-in_err-put_hex_text-clause-refused
returns-in_err-put_hex_text-clause-refused g c = refused _ c.from_residual-in_err-put_hex_text.result c.in_err-put_hex_text.field-0.0 c.from_residual-in_err-put_hex_text.ensures.1 (text_refused _ _ _ _ c.in_err-put_hex_text.ensures.cause)

pub returns-in_err-put_hex_text-clause-cause : goal.returns-in_err-put_hex_text-clause-cause
returns-in_err-put_hex_text-clause-cause g c = refused _ c.from_residual-in_err-put_hex_text.result c.in_err-put_hex_text.field-0.0 c.from_residual-in_err-put_hex_text.ensures.1 (text_cause _ _ _ _ _ c.in_err-put_hex_text.ensures.cause)

pub returns-in_err-put_hex_text-clause-leaves : goal.returns-in_err-put_hex_text-clause-leaves
returns-in_err-put_hex_text-clause-leaves g c = refused _ c.from_residual-in_err-put_hex_text.result c.in_err-put_hex_text.field-0.0 c.from_residual-in_err-put_hex_text.ensures.1 (text_leaves _ _ _ _ _ c.in_err-put_hex_text.ensures.cause)

pub returns-in_err-put_hex_text-clause-complete : goal.returns-in_err-put_hex_text-clause-complete
returns-in_err-put_hex_text-clause-complete g c =
    complete c.from_residual-in_err-put_hex_text.result _ _ _ _ _ (refused _ c.from_residual-in_err-put_hex_text.result c.in_err-put_hex_text.field-0.0 c.from_residual-in_err-put_hex_text.ensures.1 (text_refused _ _ _ _ c.in_err-put_hex_text.ensures.cause))
    (refused _ c.from_residual-in_err-put_hex_text.result c.in_err-put_hex_text.field-0.0 c.from_residual-in_err-put_hex_text.ensures.1 (text_cause _ _ _ _ _ c.in_err-put_hex_text.ensures.cause))

pub returns-clause-whole : goal.returns-clause-whole
returns-clause-whole g c =
    hex_file _ c.in_ok-summary.summary _ _ _ _ _ _ c.new-file.ensures (c.as_slice.ensures.value ∙ ap (λ (v : Vec ℕ Global). v.items) c.into_bytes-bytes.ensures) c.in_ok-summary.ensures.whole c.in_ok-put_hex_text.ensures.added
