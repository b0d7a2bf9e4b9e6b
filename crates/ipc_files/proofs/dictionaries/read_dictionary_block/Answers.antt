use Rattle.std.proofs.Common.{◌≡◌, Err, IfSome, Ok, ap, of_z, refl, rules, subst, sym, to_z, w64, ℤ}
use Rattle.std.proofs.lemmas.Int.{to_z-of_z}
use Rattle.std.specs.Rc.{rc_value}
use Rattle.arrow_spec.specs.Arrays.{Dictionaries}
use Rattle.ipc_read.specs.Held.{held_in}
use Rattle.ipc_projection.specs.Below.{HoldsCells}
use Rattle.ipc_fields.specs.IpcFields.{ids_of, metadata_of}
use Rattle.ipc_projection.proofs.Below.{each_use, each_value}
use Rattle.ipc_files.specs.FileBlocks.{file_block}
use Rattle.ipc_files.specs.FileDictionaries.{HoldsBlock, done}
use Rattle.ipc_files.specs.FileViews.{meta_view}
use Rattle.ipc_files.proofs.Errors.{is_err}
use Rattle.ipc_files.proofs.FetchedDictionaries.{dictionary_front, dictionary_whole}
use Rattle.ipc_files.proofs.FileDictionaries.{added_as, uses_kept, values_added, values_held, values_refused}
use Rattle.ipc_files.proofs.ReadColumns.{values_read}
use Rattle.ipc_files.proofs.FieldCounts.{field_count}
use Rattle.ipc_files.proofs.ReadFiles.{same_order}
use Rattle.ipc_files.proofs.dictionaries.read_dictionary_block.Goals as goal

pub returns-in_err-message-clause-adds : goal.returns-in_err-message-clause-adds
returns-in_err-message-clause-adds g c =
    let e : c.from_residual.result ≡ Err c.in_err-message.field-0.0 = is_err _ _ _ c.from_residual.ensures.0 c.from_residual.ensures.1 (λ f h. h) in
    values_refused (g.S.Source.content c.args.source.now) (meta_view c.args.file.now) _ _ c.args.block.now (done c.from_residual.result) c.in_err-message.field-0.0 (ap done e) c.in_err-message.ensures.message

pub returns-in_err-read_dictionary_batch-clause-adds : goal.returns-in_err-read_dictionary_batch-clause-adds
returns-in_err-read_dictionary_batch-clause-adds g c =
    let file = c.args.file.now in
    let e : c.from_residual-in_err-read_dictionary_batch.result ≡ Err c.in_err-read_dictionary_batch.field-0.0 = is_err _ _ _ c.from_residual-in_err-read_dictionary_batch.ensures.0 c.from_residual-in_err-read_dictionary_batch.ensures.1 (λ f h. h) in
    added_as (g.S.Source.content c.args.source.now) (meta_view file) _ _ c.args.block.now _ _ (sym (ap done e))
    (values_added (g.S.Source.content c.args.source.now) _ (meta_view file) (rc_value file.schema) (ids_of file.ipc_schema.fields.items) file.ipc_schema.is_little_endian (metadata_of file.custom_schema_metadata) _ _ file.size _ c.args.block.now c.in_ok-message.message c.place_of_body.result (Err c.in_err-read_dictionary_batch.field-0.0)
    refl (to_z-of_z w64 c.in_ok-message.message.id (search rules)) c.in_ok-message.ensures.kept.content c.place_of_body.ensures c.requires.whole c.in_ok-message.ensures.message c.in_err-read_dictionary_batch.ensures.adds)

pub returns-clause-adds : goal.returns-clause-adds
returns-clause-adds g c =
    let file = c.args.file.now in
    values_added (g.S.Source.content c.args.source.now) _ (meta_view file) (rc_value file.schema) (ids_of file.ipc_schema.fields.items) file.ipc_schema.is_little_endian (metadata_of file.custom_schema_metadata) _ _ file.size _ c.args.block.now c.in_ok-message.message c.place_of_body.result (Ok tt)
    refl (to_z-of_z w64 c.in_ok-message.message.id (search rules)) c.in_ok-message.ensures.kept.content c.place_of_body.ensures c.requires.whole c.in_ok-message.ensures.message c.in_ok-read_dictionary_batch.ensures.adds

pub returns-clause-part : goal.returns-clause-part
returns-clause-part g c =
    let file = c.args.file.now in
    let h = held_in c.args.dictionaries.now in
    let h' = held_in c.read_dictionary_batch.new.dictionaries in
    let same : to_z w64 (of_z w64 c.in_ok-message.message.id) ≡ c.in_ok-message.message.id = to_z-of_z w64 c.in_ok-message.message.id (search rules) in
    subst (λ (i : ℤ). IfSome (g.S.Source.content c.args.source.now) (λ b. (d : Dictionaries) → HoldsCells d h → HoldsBlock b (meta_view file) (file_block c.args.block.now) h h' i)) (sym same)
    (values_held (g.S.Source.content c.args.source.now) _ (meta_view file) (rc_value file.schema) (ids_of file.ipc_schema.fields.items) file.ipc_schema.is_little_endian (metadata_of file.custom_schema_metadata) h h' _ c.args.block.now c.in_ok-message.message c.place_of_body.result
    refl same c.in_ok-message.ensures.kept.content c.place_of_body.ensures c.in_ok-message.ensures.message c.in_ok-message.ensures.fits c.in_ok-read_dictionary_batch.ensures.part c.read_dictionary_batch.ensures.others)

pub returns-clause-uses : goal.returns-clause-uses
returns-clause-uses g c =
    uses_kept (meta_view c.args.file.now).schema.fields _ _ _ (Ok tt) c.requires.uses c.in_ok-read_dictionary_batch.ensures.kind c.read_dictionary_batch.ensures.others

pub read_dictionary_batch-requires-clause-columns : goal.read_dictionary_batch-requires-clause-columns
read_dictionary_batch-requires-clause-columns g c = values_read (meta_view c.args.file.now).schema.fields _ c.requires.read.columns

pub read_dictionary_batch-requires-clause-kinds : goal.read_dictionary_batch-requires-clause-kinds
read_dictionary_batch-requires-clause-kinds g c =
    let fs = (meta_view c.args.file.now).schema.fields in
    each_value _ fs _ (each_use _ fs c.requires.read.agree c.requires.uses)

pub read_dictionary_batch-requires-clause-fields : goal.read_dictionary_batch-requires-clause-fields
read_dictionary_batch-requires-clause-fields g c = field_count c.args.file.now c.requires.read

pub returns-in_err-message-clause-fetched : goal.returns-in_err-message-clause-fetched
returns-in_err-message-clause-fetched g c = dictionary_front (g.S.Source.content c.args.source.now) (meta_view c.args.file.now) (file_block c.args.block.now) _ _ c.in_err-message.ensures.fetched

pub returns-clause-fetched : goal.returns-clause-fetched
returns-clause-fetched g c =
    let file = c.args.file.now in
    dictionary_whole (g.S.Source.content c.args.source.now) (meta_view file) file.ipc_schema.is_little_endian c.args.block.now c.in_ok-message.message _ _ _ _
    (to_z-of_z w64 c.in_ok-message.message.id (search rules)) (same_order file) c.in_ok-message.ensures.fetched c.in_ok-message.ensures.message c.read_dictionary_batch.ensures.fetched

pub returns-in_err-read_dictionary_batch-clause-fetched : goal.returns-in_err-read_dictionary_batch-clause-fetched
returns-in_err-read_dictionary_batch-clause-fetched g c =
    let file = c.args.file.now in
    dictionary_whole (g.S.Source.content c.args.source.now) (meta_view file) file.ipc_schema.is_little_endian c.args.block.now c.in_ok-message.message _ _ _ _
    (to_z-of_z w64 c.in_ok-message.message.id (search rules)) (same_order file) c.in_ok-message.ensures.fetched c.in_ok-message.ensures.message c.read_dictionary_batch.ensures.fetched
