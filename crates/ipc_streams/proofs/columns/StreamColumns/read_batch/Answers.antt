use Rattle.std.proofs.Common.{◌≡◌, ◌∙◌, Err, ap, refl}
use Rattle.std.specs.Rc.{rc_value}
use Rattle.ipc_files.specs.Below.{held_in}
use Rattle.ipc_files.specs.BelowViews.{message_of}
use Rattle.ipc_files.specs.Selections.{numbers_read}
use Rattle.ipc_files.proofs.Errors.{is_err}
use Rattle.ipc_files.proofs.InOrder.{floats_asked, may_reorder, none_shown}
use Rattle.ipc_streams.proofs.ReadArrays.{all_arrays, ordered_arrays}
use Rattle.ipc_streams.proofs.ReadBatches.{all_asked, in_order, ordered_asked, refused_asked}
use Rattle.ipc_files.proofs.ShownFields.{all_fields, ordered_fields}
use Rattle.ipc_streams.proofs.StreamSchemas.{column_count}
use Rattle.arrow_spec.specs.Kinds.{width}
use Rattle.arrow_spec.specs.Schema.{Schema}
use Rattle.ipc_streams.proofs.columns.StreamColumns.read_batch.Goals as goal

pub returns-in_err-batch-clause-gives : goal.returns-in_err-batch-clause-gives
returns-in_err-batch-clause-gives c = λ s d is holds floats.
    let k = rc_value c.args.self.now.metadata.schema in
    let p = c.args.self.now.projection in
    let e : c.from_residual.result ≡ Err c.in_err-batch.field-0.0 = is_err _ _ _ c.from_residual.ensures.0 c.from_residual.ensures.1 (λ f h. h) in
    refused_asked k p s d (held_in c.args.dictionaries.now) (message_of c.args.message.now) c.args.body.bytes.items c.from_residual.result c.in_err-batch.field-0.0 e is.columns
    (c.in_err-batch.ensures.gives (in_order s p) d (record { schema = is.schema; columns = refl }) holds (floats_asked k s.schema.fields s.columns p is.columns ∙ floats))

pub returns-in_err-batch-clause-schema : goal.returns-in_err-batch-clause-schema
returns-in_err-batch-clause-schema c = λ s is.
    let e : c.from_residual.result ≡ Err c.in_err-batch.field-0.0 = is_err _ _ _ c.from_residual.ensures.0 c.from_residual.ensures.1 (λ f h. h) in
    none_shown c.from_residual.result c.in_err-batch.field-0.0 _ e

pub returns-in-None-clause-gives : goal.returns-in-None-clause-gives
returns-in-None-clause-gives c = λ s d is holds floats.
    let k = rc_value c.args.self.now.metadata.schema in
    let p = c.args.self.now.projection in
    all_asked k p s d (held_in c.args.dictionaries.now) (message_of c.args.message.now) c.args.body.bytes.items c.in_ok-batch.batch c.in-None.is is.columns
    (c.in_ok-batch.ensures.gives (in_order s p) d (record { schema = is.schema; columns = refl }) holds (floats_asked k s.schema.fields s.columns p is.columns ∙ floats))

pub returns-in-None-clause-schema : goal.returns-in-None-clause-schema
returns-in-None-clause-schema c = λ s is. all_fields (rc_value c.args.self.now.metadata.schema) c.args.self.now.projection c.in_ok-batch.batch c.in-None.is c.in_ok-batch.ensures.schema c.in_ok-batch.ensures.kinds

pub apply_projection-requires : goal.apply_projection-requires
apply_projection-requires c = record {
  permutes = may_reorder (rc_value c.args.self.now.metadata.schema) c.args.self.now.projection c.in-Some.projection (numbers_read c.args.self.now.projection) c.in_ok-batch.batch c.in-Some.is refl c.args.self.now.made c.in_ok-batch.ensures.schema;
}

pub returns-in-Some-clause-gives : goal.returns-in-Some-clause-gives
returns-in-Some-clause-gives c = λ s d is holds floats.
    let m = c.args.self.now.metadata in
    let k = rc_value m.schema in
    let p = c.args.self.now.projection in
    ordered_asked k p c.in-Some.projection s d (held_in c.args.dictionaries.now) (message_of c.args.message.now) c.args.body.bytes.items c.in_ok-batch.batch c.apply_projection.result c.in-Some.is (ap (λ (x : Schema). width x.fields) is.schema ∙ column_count m) c.in_ok-batch.ensures.plain is.columns
    c.apply_projection.ensures.reordered c.apply_projection.ensures.memory
    (c.in_ok-batch.ensures.gives (in_order s p) d (record { schema = is.schema; columns = refl }) holds (floats_asked k s.schema.fields s.columns p is.columns ∙ floats))

pub returns-in-Some-clause-schema : goal.returns-in-Some-clause-schema
returns-in-Some-clause-schema c = λ s is.
    ordered_fields (rc_value c.args.self.now.metadata.schema) s.columns c.args.self.now.projection c.in-Some.projection c.in_ok-batch.batch c.apply_projection.result c.in-Some.is is.columns c.in_ok-batch.ensures.schema c.in_ok-batch.ensures.kinds c.apply_projection.ensures.reordered

pub returns-in_err-batch-clause-arrays : goal.returns-in_err-batch-clause-arrays
returns-in_err-batch-clause-arrays c = λ s d is holds floats.
    let e : c.from_residual.result ≡ Err c.in_err-batch.field-0.0 = is_err _ _ _ c.from_residual.ensures.0 c.from_residual.ensures.1 (λ f h. h) in
    none_shown c.from_residual.result c.in_err-batch.field-0.0 _ e

pub returns-in-None-clause-arrays : goal.returns-in-None-clause-arrays
returns-in-None-clause-arrays c = λ s d is holds floats.
    let k = rc_value c.args.self.now.metadata.schema in
    let p = c.args.self.now.projection in
    all_arrays k p s d (held_in c.args.dictionaries.now) (message_of c.args.message.now) c.args.body.bytes.items c.in_ok-batch.batch c.in-None.is is.columns c.in_ok-batch.ensures.height
    (c.in_ok-batch.ensures.gives (in_order s p) d (record { schema = is.schema; columns = refl }) holds (floats_asked k s.schema.fields s.columns p is.columns ∙ floats))

pub returns-in-Some-clause-arrays : goal.returns-in-Some-clause-arrays
returns-in-Some-clause-arrays c = λ s d is holds floats.
    let m = c.args.self.now.metadata in
    let k = rc_value m.schema in
    let p = c.args.self.now.projection in
    ordered_arrays k p c.in-Some.projection s d (held_in c.args.dictionaries.now) (message_of c.args.message.now) c.args.body.bytes.items c.in_ok-batch.batch c.apply_projection.result c.in-Some.is (ap (λ (x : Schema). width x.fields) is.schema ∙ column_count m) is.columns
    c.apply_projection.ensures.reordered c.in_ok-batch.ensures.height
    (c.in_ok-batch.ensures.gives (in_order s p) d (record { schema = is.schema; columns = refl }) holds (floats_asked k s.schema.fields s.columns p is.columns ∙ floats))
