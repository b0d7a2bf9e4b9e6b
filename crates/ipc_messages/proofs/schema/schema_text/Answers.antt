use Rattle.std.proofs.Common.{◌≤◌, arith, inr, length, subst, sym, ◌∙◌}
use Rattle.arrow_spec.specs.Flat.{order_by}
use Rattle.arrow_spec.specs.Readings.{Refuses, refusals}
use Rattle.arrow_types.specs.Schemas.{fields_in}
use Rattle.ipc_fields.specs.IpcFields.{fields_with, ids_of}
use Rattle.ipc_dictionaries.proofs.PartSteps.{handed}
use Rattle.ipc_messages.specs.Schemas.{GivesText, stream_text}
use Rattle.ipc_messages.proofs.Beginning.{may_if_ok, same_metadata, start_may, text_answered, text_features, text_large, text_refused}
use Rattle.ipc_messages.proofs.schema.schema_text.Goals as goal

pub returns-in_err-check_features-clause-gives : goal.returns-in_err-check_features-clause-gives
returns-in_err-check_features-clause-gives c =
    let fs = fields_in c.args.schema.now in
    let below = ids_of c.args.ipc_schema.now.fields.items in
    let pairs = c.args.pairs.now in
    let e = c.in_err-check_features.field-0.0 in
    handed (λ r. GivesText r (stream_text c.args.options.now fs below pairs)) c.from_residual.result e c.from_residual.ensures.1 (inr (text_features c.args.options.now fs below pairs e c.in_err-check_features.ensures))

pub returns-in_err-metadata-clause-gives : goal.returns-in_err-metadata-clause-gives
returns-in_err-metadata-clause-gives c =
    let fs = fields_in c.args.schema.now in
    let below = ids_of c.args.ipc_schema.now.fields.items in
    let pairs = c.args.pairs.now in
    let e = c.in_err-metadata.field-0.0 in
    handed (λ r. GivesText r (stream_text c.args.options.now fs below pairs)) c.from_residual-in_err-metadata.result e c.from_residual-in_err-metadata.ensures.1
    (text_refused c.args.options.now fs below pairs e c.in_ok-check_features.ensures c.in_err-metadata.ensures.refusals
    (subst (λ r. Refuses e (refusals r)) (same_metadata c.args.ipc_schema.now.is_little_endian fs below _ _ pairs c.requires.order c.lent-own.ensures c.lent-custom.ensures) c.in_err-metadata.ensures.gives))

pub returns-then-next_multiple_of-min-clause-gives : goal.returns-then-next_multiple_of-min-clause-gives
returns-then-next_multiple_of-min-clause-gives c =
    let fs = fields_in c.args.schema.now in
    let below = ids_of c.args.ipc_schema.now.fields.items in
    let same = same_metadata c.args.ipc_schema.now.is_little_endian fs below _ _ c.args.pairs.now c.requires.order c.lent-own.ensures c.lent-custom.ensures in
    inr (text_large c.args.options.now fs below c.args.pairs.now c.in_ok-metadata.metadata.items c.in_ok-check_features.ensures (sym same ∙ c.in_ok-metadata.ensures.gives) (omega arith))

pub returns-clause-gives : goal.returns-clause-gives
returns-clause-gives c =
    let fs = fields_in c.args.schema.now in
    let below = ids_of c.args.ipc_schema.now.fields.items in
    let same = same_metadata c.args.ipc_schema.now.is_little_endian fs below _ _ c.args.pairs.now c.requires.order c.lent-own.ensures c.lent-custom.ensures in
    text_answered c.message_to_bytes.result c.args.options.now fs below c.args.pairs.now c.in_ok-metadata.metadata.items c.as_slice-2.result.now c.as_slice-2.ensures.value
    c.in_ok-check_features.ensures (sym same ∙ c.in_ok-metadata.ensures.gives) (omega arith) c.message_to_bytes.ensures.message c.message_to_bytes.ensures.err

pub schema_message-requires : goal.schema_message-requires
schema_message-requires c = record { few = subst (λ m. length m ≤ 1048576) (sym c.lent-custom.ensures) c.requires.few }

pub returns-clause-may : goal.returns-clause-may
returns-clause-may c =
    let fs = fields_with (fields_in c.args.schema.now) (ids_of c.args.ipc_schema.now.fields.items) in
    may_if_ok c.message_to_bytes.result fs c.args.pairs.now
    (start_may (order_by c.args.ipc_schema.now.is_little_endian) fs _ _ c.args.pairs.now c.in_ok-metadata.metadata.items c.as_slice.result.now c.lent-own.ensures c.lent-custom.ensures c.requires.few c.in_ok-metadata.ensures.read_back c.as_slice.ensures.value
    c.are_bytes.ensures c.are_pairs.ensures)
