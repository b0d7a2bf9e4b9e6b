use Rattle.std.proofs.Common.{◌≡◌, IfSome, false, of_z, refl, rules, subst, sym, to_z, true, w64}
use Rattle.std.proofs.lemmas.Int.{to_z-of_z}
use Rattle.std.specs.Rc.{rc_value}
use Rattle.arrow_spec.specs.Kinds.{uses_in, values_under}
use Rattle.ipc_fields.specs.IpcFields.{ids_of, metadata_of}
use Rattle.ipc_schema.specs.Views.{header_of}
use Rattle.ipc_read.specs.Batches.{is_column_kind, schema_fields}
use Rattle.ipc_read.specs.DictionaryBatches.{dictionary_reading, message_of}
use Rattle.ipc_files.specs.FileViews.{meta_view}
use Rattle.ipc_files.proofs.ReadColumns.{values_read}
use Rattle.view_types.specs.Views.{part_in}
use Rattle.ipc_view.specs.Batches.{AddsViews}
use Rattle.ipc_view.specs.Dictionaries.{shown_in}
use Rattle.ipc_mmap.proofs.FileDictionaries.{adds_refused, block_added, block_refused}
use Rattle.ipc_mmap.proofs.dictionaries.add_block.Goals as goal

pub returns-in_err-message-clause-adds : goal.returns-in_err-message-clause-adds
returns-in_err-message-clause-adds c = λ d shows.
    adds_refused d _ c.from_residual.result c.in_err-message.field-0.0 _ c.from_residual.ensures.0 c.from_residual.ensures.1
    (block_refused c.args.bytes.now (meta_view c.args.metadata.now) d c.args.block.now c.in_err-message.field-0.0 c.in_err-message.ensures.message)

pub view_dictionary_batch-requires-clause-columns : goal.view_dictionary_batch-requires-clause-columns
view_dictionary_batch-requires-clause-columns c =
    let file = c.args.metadata.now in
    let id = to_z w64 (of_z w64 c.in_ok-message.message.id) in
    subst (λ s. IfSome (values_under id (uses_in (schema_fields s file.ipc_schema.fields.items))) (λ k. is_column_kind k ≡ true)) (sym c.deref.ensures)
    (values_read (meta_view file).schema.fields id c.requires.readable.columns)

pub returns-clause-adds : goal.returns-clause-adds
returns-clause-adds c = λ d shows.
    let file = c.args.metadata.now in
    let m = c.in_ok-message.message in
    let added = c.view_dictionary_batch in
    let adds : AddsViews d (shown_in added.new.dictionaries) added.result (dictionary_reading (rc_value file.schema) (ids_of file.ipc_schema.fields.items) file.ipc_schema.is_little_endian d file.size (message_of (to_z w64 (of_z w64 m.id)) m.is_delta (header_of m.header)) m.version (part_in c.args.bytes.now c.body_range.result) false) =
    subst (λ s. AddsViews d (shown_in added.new.dictionaries) added.result (dictionary_reading s (ids_of file.ipc_schema.fields.items) file.ipc_schema.is_little_endian d file.size (message_of (to_z w64 (of_z w64 m.id)) m.is_delta (header_of m.header)) m.version (part_in c.args.bytes.now c.body_range.result) false)) c.deref.ensures (added.ensures.adds d shows) in
    block_added c.args.bytes.now (meta_view file) (rc_value file.schema) (ids_of file.ipc_schema.fields.items) file.ipc_schema.is_little_endian (metadata_of file.custom_schema_metadata) d _ c.args.block.now m file.size _ _ added.result
    refl c.in_ok-message.ensures.message c.requires.whole (to_z-of_z w64 m.id (search rules)) c.body_range.ensures.body adds
