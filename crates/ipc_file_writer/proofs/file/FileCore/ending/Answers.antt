use Rattle.std.proofs.Common.{◌≡◌, [], Err, Ok, ap, arith, refl, subst, ◌∙◌}
use Rattle.arrow_spec.specs.Flat.{little}
use Rattle.arrow_spec.specs.Layout.{layout}
use Rattle.arrow_spec.specs.Readings.{Refuses, refusals}
use Rattle.arrow_spec.specs.WrittenSchemas.{Ascend}
use Rattle.arrow_spec.specs.declared.error.IpcError.TheVariants.{TooLarge}
use Rattle.arrow_flat.specs.Nodes.{node_of}
use Rattle.arrow_types.specs.Schemas.{fields_in}
use Rattle.ipc_messages.proofs.Below.{handed}
use Rattle.ipc_fields.specs.IpcFields.{metadata_in, metadata_of}
use Rattle.schema_writer.specs.Serialized.{serialized}
use Rattle.ipc_messages.specs.Below.{BuildsMetadata}
use Rattle.ipc_messages.specs.Schemas.{GivesText}
use Rattle.ipc_file_writer.specs.Calls.{ending_of, file_ids, file_schema}
use Rattle.laws_files.specs.Files.{file_end}
use Rattle.ipc_file_writer.proofs.Meaning.{ended_file}
use Rattle.ipc_file_writer.proofs.Ending.{ending_refused, footer_far, footer_given, footer_is, footer_large, footer_refused, lent_as}
use Rattle.ipc_file_writer.proofs.file.FileCore.ending.Goals as goal

pub returns-in_err-schema-clause-gives : goal.returns-in_err-schema-clause-gives
returns-in_err-schema-clause-gives c =
    let self = c.args.self.now in
    let e = c.in_err-schema.field-0.0 in
    let refused = lent_as (λ r. Refuses e (refusals r)) c.deref.result.now (file_schema self) c.as_slice-fields.result.now self.ipc_schema.fields.items (metadata_in c.lent-own.result) (metadata_of self.pairs.schema)
    c.deref.ensures c.as_slice-fields.ensures.value c.lent-own.ensures c.in_err-schema.ensures.gives in
    handed (λ r. GivesText r (ending_of self)) c.from_residual.result e c.from_residual.ensures.1
    (ending_refused e self.options (fields_in (file_schema self)) (file_ids self) self.pairs self.blocks c.in_err-schema.ensures.refusals refused)

pub returns-in_err-footer-clause-gives : goal.returns-in_err-footer-clause-gives
returns-in_err-footer-clause-gives c =
    let self = c.args.self.now in
    let fs = fields_in (file_schema self) in
    let e = c.in_err-footer.field-0.0 in
    let n = node_of c.in_ok-schema.schema in
    let s : serialized little fs (file_ids self) (metadata_of self.pairs.schema) ≡ Ok n = lent_as (λ r. r ≡ Ok n) c.deref.result.now (file_schema self) c.as_slice-fields.result.now self.ipc_schema.fields.items
    (metadata_in c.lent-own.result) (metadata_of self.pairs.schema) c.deref.ensures c.as_slice-fields.ensures.value c.lent-own.ensures c.in_ok-schema.ensures.gives in
    let f = footer_is fs (file_ids self) self.pairs self.blocks (metadata_in c.lent-pairs.result) n c.lent-pairs.ensures s in
    handed (λ r. GivesText r (ending_of self)) c.from_residual-in_err-footer.result e c.from_residual-in_err-footer.ensures.1
    (footer_refused e self.options fs (file_ids self) self.pairs self.blocks n s (subst (λ x. BuildsMetadata (Err e) x) f c.in_err-footer.ensures))

pub returns-then-len-min-clause-gives : goal.returns-then-len-min-clause-gives
returns-then-len-min-clause-gives c =
    let self = c.args.self.now in
    let fs = fields_in (file_schema self) in
    let n = node_of c.in_ok-schema.schema in
    let s : serialized little fs (file_ids self) (metadata_of self.pairs.schema) ≡ Ok n = lent_as (λ r. r ≡ Ok n) c.deref.result.now (file_schema self) c.as_slice-fields.result.now self.ipc_schema.fields.items
    (metadata_in c.lent-own.result) (metadata_of self.pairs.schema) c.deref.ensures c.as_slice-fields.ensures.value c.lent-own.ensures c.in_ok-schema.ensures.gives in
    let f = footer_is fs (file_ids self) self.pairs self.blocks (metadata_in c.lent-pairs.result) n c.lent-pairs.ensures s in
    footer_large TooLarge self.options fs (file_ids self) self.pairs self.blocks n c.in_ok-footer.footer.items refl s (c.in_ok-footer.ensures.0 ∙ ap layout f) (omega arith)

pub returns-then-self-len-gt-LAST_PLACE-clause-gives : goal.returns-then-self-len-gt-LAST_PLACE-clause-gives
returns-then-self-len-gt-LAST_PLACE-clause-gives c =
    let self = c.args.self.now in
    let fs = fields_in (file_schema self) in
    let n = node_of c.in_ok-schema.schema in
    let s : serialized little fs (file_ids self) (metadata_of self.pairs.schema) ≡ Ok n = lent_as (λ r. r ≡ Ok n) c.deref.result.now (file_schema self) c.as_slice-fields.result.now self.ipc_schema.fields.items
    (metadata_in c.lent-own.result) (metadata_of self.pairs.schema) c.deref.ensures c.as_slice-fields.ensures.value c.lent-own.ensures c.in_ok-schema.ensures.gives in
    let f = footer_is fs (file_ids self) self.pairs self.blocks (metadata_in c.lent-pairs.result) n c.lent-pairs.ensures s in
    footer_far TooLarge self.options fs (file_ids self) self.pairs self.blocks n c.in_ok-footer.footer.items refl s (c.in_ok-footer.ensures.0 ∙ ap layout f) (omega arith) (omega arith)

pub returns-clause-gives : goal.returns-clause-gives
returns-clause-gives c =
    let self = c.args.self.now in
    let fs = fields_in (file_schema self) in
    let n = node_of c.in_ok-schema.schema in
    let s : serialized little fs (file_ids self) (metadata_of self.pairs.schema) ≡ Ok n = lent_as (λ r. r ≡ Ok n) c.deref.result.now (file_schema self) c.as_slice-fields.result.now self.ipc_schema.fields.items
    (metadata_in c.lent-own.result) (metadata_of self.pairs.schema) c.deref.ensures c.as_slice-fields.ensures.value c.lent-own.ensures c.in_ok-schema.ensures.gives in
    let f = footer_is fs (file_ids self) self.pairs self.blocks (metadata_in c.lent-pairs.result) n c.lent-pairs.ensures s in
    footer_given self.options fs (file_ids self) self.pairs self.blocks n c.in_ok-footer.footer.items c.in_ok-around.field-0.items s (c.in_ok-footer.ensures.0 ∙ ap layout f) (omega arith) (omega arith)
    (c.in_ok-around.ensures ∙ ap file_end c.as_slice.ensures.value)

pub returns-clause-means : goal.returns-clause-means
returns-clause-means c =
    let self = c.args.self.now in
    let fs = fields_in (file_schema self) in
    let n = node_of c.in_ok-schema.schema in
    let s : serialized little fs (file_ids self) (metadata_of self.pairs.schema) ≡ Ok n = lent_as (λ r. r ≡ Ok n) c.deref.result.now (file_schema self) c.as_slice-fields.result.now self.ipc_schema.fields.items
    (metadata_in c.lent-own.result) (metadata_of self.pairs.schema) c.deref.ensures c.as_slice-fields.ensures.value c.lent-own.ensures c.in_ok-schema.ensures.gives in
    let f = footer_is fs (file_ids self) self.pairs self.blocks (metadata_in c.lent-pairs.result) n c.lent-pairs.ensures s in
    let text : ending_of self ≡ Ok c.in_ok-around.field-0.items = footer_given self.options fs (file_ids self) self.pairs self.blocks n c.in_ok-footer.footer.items c.in_ok-around.field-0.items s (c.in_ok-footer.ensures.0 ∙ ap layout f) (omega arith) (omega arith)
    (c.in_ok-around.ensures ∙ ap file_end c.as_slice.ensures.value) in
    ended_file c.ended_front_means_its_table.ensures self c.in_ok-around.field-0.items text (subst (Ascend []) c.lent-own.ensures c.are_pairs.ensures.ascend) (subst (Ascend []) c.lent-pairs.ensures c.are_pairs-2.ensures.ascend) self.few
