use Rattle.std.proofs.Common.{◌≡◌, ◌∙◌, Err, Ok, ap, subst, sym}
use Rattle.arrow_spec.specs.Readings.{refusals}
use Rattle.arrow_spec.specs.Schema.{schema_of}
use Rattle.ipc_fields.specs.Causes.{RefusesBytes}
use Rattle.ipc_fields.specs.IpcFields.{metadata_of, schema_view}
use Rattle.schema_reader.specs.Messages.{message_in, version_at}
use Rattle.ipc_files.proofs.Errors.{is_err}
use Rattle.ipc_streams.proofs.ReadHeads.{head_said, no_message, no_pairs, no_schema, no_version, readable_read, written_read}
use Rattle.ipc_streams.proofs.metadata.beginning_in.Goals as goal

pub returns-in_err-message-clause-gives : goal.returns-in_err-message-clause-gives
returns-in_err-message-clause-gives c =
    let x = c.in_err-message.field-0.0 in
    let e : c.from_residual.result ≡ Err x = is_err _ _ _ c.from_residual.ensures.0 c.from_residual.ensures.1 (λ f h. h) in
    no_message c.args.bytes.now c.from_residual.result x e c.in_err-message.ensures.message

pub returns-in_err-version-clause-gives : goal.returns-in_err-version-clause-gives
returns-in_err-version-clause-gives c =
    let x = c.in_err-version.field-0.0 in
    let m = message_in c.in_ok-message.message in
    let e : c.from_residual-in_err-version.result ≡ Err x = is_err _ _ _ c.from_residual-in_err-version.ensures.0 c.from_residual-in_err-version.ensures.1 (λ f h. h) in
    no_version c.args.bytes.now c.from_residual-in_err-version.result x e m c.in_ok-message.ensures.message (subst (λ b. RefusesBytes x (refusals (version_at b m.table))) c.in_ok-message.ensures.table c.in_err-version.ensures.gives)

pub returns-in_err-custom_metadata-clause-gives : goal.returns-in_err-custom_metadata-clause-gives
returns-in_err-custom_metadata-clause-gives c =
    let x = c.in_err-custom_metadata.field-0.0 in
    let m = message_in c.in_ok-message.message in
    let e : c.from_residual-in_err-custom_metadata.result ≡ Err x = is_err _ _ _ c.from_residual-in_err-custom_metadata.ensures.0 c.from_residual-in_err-custom_metadata.ensures.1 (λ f h. h) in
    no_pairs c.args.bytes.now c.from_residual-in_err-custom_metadata.result x e m c.in_ok-version.version c.in_ok-message.ensures.message (ap (λ b. version_at b m.table) (sym c.in_ok-message.ensures.table) ∙ c.in_ok-version.ensures.gives) c.in_err-custom_metadata.ensures.gives

pub returns-in_err-schema-clause-gives : goal.returns-in_err-schema-clause-gives
returns-in_err-schema-clause-gives c =
    let x = c.in_err-schema.field-0.0 in
    let m = message_in c.in_ok-message.message in
    let e : c.from_residual-in_err-schema.result ≡ Err x = is_err _ _ _ c.from_residual-in_err-schema.ensures.0 c.from_residual-in_err-schema.ensures.1 (λ f h. h) in
    no_schema c.args.bytes.now c.from_residual-in_err-schema.result x e m c.in_ok-version.version (metadata_of c.in_ok-custom_metadata.custom_metadata) c.in_ok-message.ensures.message (ap (λ b. version_at b m.table) (sym c.in_ok-message.ensures.table) ∙ c.in_ok-version.ensures.gives) c.in_ok-custom_metadata.ensures.gives
    (subst (λ b. RefusesBytes x (refusals (schema_of b m.header))) c.in_ok-message.ensures.header c.in_err-schema.ensures.gives)

pub returns-clause-gives : goal.returns-clause-gives
returns-clause-gives c =
    let m = message_in c.in_ok-message.message in
    head_said c.args.bytes.now m c.in_ok-version.version (metadata_of c.in_ok-custom_metadata.custom_metadata) _ c.in_ok-message.ensures.message (ap (λ b. version_at b m.table) (sym c.in_ok-message.ensures.table) ∙ c.in_ok-version.ensures.gives) c.in_ok-custom_metadata.ensures.gives
    (ap (λ b. schema_of b m.header) (sym c.in_ok-message.ensures.header) ∙ c.in_ok-schema.ensures.gives ∙ ap (λ k. Ok (schema_view (k, c.in_ok-schema.ipc_schema, c.in_ok-schema.custom_schema_metadata))) (sym c.in_ok-new.ensures.ok))

pub returns-clause-readable : goal.returns-clause-readable
returns-clause-readable c =
    let m = message_in c.in_ok-message.message in
    readable_read _ c.in_ok-schema.schema c.args.bytes.now m.header (λ i. (c.type_inv.bytes i).fits) c.in_ok-new.ensures.ok c.in_ok-schema.ensures.shapes (ap (λ b. schema_of b m.header) (sym c.in_ok-message.ensures.header) ∙ c.in_ok-schema.ensures.gives)

pub returns-clause-may : goal.returns-clause-may
returns-clause-may c =
    let m = message_in c.in_ok-message.message in
    written_read _ c.in_ok-schema.schema c.args.bytes.now m.header (λ i. (c.type_inv.bytes i).fits) c.in_ok-new.ensures.ok (ap (λ b. schema_of b m.header) (sym c.in_ok-message.ensures.header) ∙ c.in_ok-schema.ensures.gives) c.in_ok-custom_metadata.ensures.may
