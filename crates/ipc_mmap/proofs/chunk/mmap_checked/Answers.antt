use Rattle.std.proofs.Common.{◌≡◌, ◌∙◌, [], None, Ok, ap, sym, subst, true}
use Rattle.std.specs.Rc.{rc_value}
use Rattle.arrow_spec.specs.Features.{chosen_floats}
use Rattle.arrow_spec.specs.Readings.{Refuses, refusals}
use Rattle.arrow_types.specs.Schemas.{fields_in}
use Rattle.ipc_fields.specs.IpcFields.{ids_of}
use Rattle.ipc_schema.specs.Views.{header_of}
use Rattle.ipc_read.specs.Batches.{are_column_kinds, batch_reading, schema_fields}
use Rattle.ipc_projection.proofs.Below.{chosen_with}
use Rattle.ipc_files.specs.Blocks.{batch_in}
use Rattle.ipc_files.specs.Requests.{asked}
use Rattle.ipc_files.specs.FileBlocks.{block_record, given}
use Rattle.ipc_files.specs.FileViews.{meta_view}
use Rattle.ipc_files.proofs.ReadBatches.{indexed_given}
use Rattle.ipc_files.proofs.ReadColumns.{columns_read}
use Rattle.ipc_files.proofs.ReadFiles.{same_order}
use Rattle.view_types.specs.Views.{part_in}
use Rattle.ipc_view.specs.Batches.{table_seen}
use Rattle.ipc_view.proofs.Answered.{gives_from}
use Rattle.ipc_mmap.specs.Chunks.{paired_in, table_of}
use Rattle.ipc_mmap.proofs.Chunks.{chunk_shown, columns_refused, kinds_refused, message_refused, with_pairs}
use Rattle.ipc_mmap.proofs.chunk.mmap_checked.Goals as goal

pub check_kinds-requires-clause-columns : goal.check_kinds-requires-clause-columns
check_kinds-requires-clause-columns c =
    let file = c.args.metadata.now in
    subst (λ s. are_column_kinds None 0 s ≡ true) (sym c.deref.ensures) (columns_read None (rc_value file.schema) (ids_of file.ipc_schema.fields.items) c.requires.readable.columns)

pub returns-in_err-check_kinds-clause-gives : goal.returns-in_err-check_kinds-clause-gives
returns-in_err-check_kinds-clause-gives c = λ block at d shows.
    let file = c.args.metadata.now in
    let e = c.in_err-check_kinds.field-0.0 in
    let same : chosen_floats None (meta_view file).schema.fields 0 ≡ chosen_floats None (fields_in c.deref.result.now) 0 = chosen_with None (fields_in (rc_value file.schema)) (ids_of file.ipc_schema.fields.items) 0 ∙ ap (λ s. chosen_floats None (fields_in s) 0) (sym c.deref.ensures) in
    gives_from table_of c.from_residual.result e _ c.from_residual.ensures.0 c.from_residual.ensures.1
    (kinds_refused c.args.bytes.now (meta_view file) d block e (subst (Refuses e) (sym same) c.in_err-check_kinds.ensures.exact.err))

pub returns-in_err-read-clause-gives : goal.returns-in_err-read-clause-gives
returns-in_err-read-clause-gives c = λ block at d shows.
    let file = c.args.metadata.now in
    let e = c.in_err-read.field-0.0 in
    let fine : chosen_floats None (meta_view file).schema.fields 0 ≡ [] = chosen_with None (fields_in (rc_value file.schema)) (ids_of file.ipc_schema.fields.items) 0 ∙ ap (λ s. chosen_floats None (fields_in s) 0) (sym c.deref.ensures) ∙ c.in_ok-check_kinds.ensures.exact.ok.0 in
    let here : c.index-block.result.now ≡ block = indexed_given file.blocks.items c.args.chunk c.index-block.result.now block c.requires.in_range c.index-block.ensures at in
    gives_from table_of c.from_residual-in_err-read.result e _ c.from_residual-in_err-read.ensures.0 c.from_residual-in_err-read.ensures.1
    (message_refused c.args.bytes.now (meta_view file) d block e fine (subst (λ x. Refuses e (refusals (given x (block_record c.args.bytes.now)))) here c.in_err-read.ensures.message))

pub view_record_batch-requires-clause-columns : goal.view_record_batch-requires-clause-columns
view_record_batch-requires-clause-columns c =
    let file = c.args.metadata.now in
    subst (λ s. are_column_kinds None 0 s ≡ true) (sym c.deref-2.ensures) (columns_read None (rc_value file.schema) (ids_of file.ipc_schema.fields.items) c.requires.readable.columns)

pub returns-in_err-rows-clause-gives : goal.returns-in_err-rows-clause-gives
returns-in_err-rows-clause-gives c = λ block at d shows.
    let file = c.args.metadata.now in
    let b = c.args.bytes.now in
    let ipc = file.ipc_schema in
    let read = c.in_ok-read.read in
    let e = c.in_err-rows.field-0.0 in
    let body = part_in b c.body_range.result in
    let fine : chosen_floats None (meta_view file).schema.fields 0 ≡ [] = chosen_with None (fields_in (rc_value file.schema)) (ids_of ipc.fields.items) 0 ∙ ap (λ s. chosen_floats None (fields_in s) 0) (sym c.deref.ensures) ∙ c.in_ok-check_kinds.ensures.exact.ok.0 in
    let here : c.index-block.result.now ≡ block = indexed_given file.blocks.items c.args.chunk c.index-block.result.now block c.requires.in_range c.index-block.ensures at in
    let refused : Refuses e (refusals (batch_reading None None ipc.is_little_endian (meta_view file).schema.fields d file.size read.message.version (header_of read.message.header) body)) =
    subst (λ s. Refuses e (refusals (batch_reading None None ipc.is_little_endian (schema_fields s ipc.fields.items) d file.size read.message.version (header_of read.message.header) body))) c.deref-2.ensures (c.in_err-rows.ensures.gives d shows) in
    gives_from table_of c.from_residual-in_err-rows.result e _ c.from_residual-in_err-rows.ensures.0 c.from_residual-in_err-rows.ensures.1
    (subst (λ x. Refuses e (refusals (batch_in (asked None None) b (meta_view file) d x))) here
    (columns_refused b (meta_view file) d c.index-block.result.now (paired_in read) ipc.is_little_endian file.size body e fine c.in_ok-read.ensures.message (same_order file) c.requires.whole c.body_range.ensures.body refused))

pub returns-clause-gives : goal.returns-clause-gives
returns-clause-gives c = λ block at d shows.
    let file = c.args.metadata.now in
    let b = c.args.bytes.now in
    let ipc = file.ipc_schema in
    let read = c.in_ok-read.read in
    let body = part_in b c.body_range.result in
    let t = table_seen (c.in_ok-rows.rows, c.in_ok-rows.columns) in
    let fine : chosen_floats None (meta_view file).schema.fields 0 ≡ [] = chosen_with None (fields_in (rc_value file.schema)) (ids_of ipc.fields.items) 0 ∙ ap (λ s. chosen_floats None (fields_in s) 0) (sym c.deref.ensures) ∙ c.in_ok-check_kinds.ensures.exact.ok.0 in
    let here : c.index-block.result.now ≡ block = indexed_given file.blocks.items c.args.chunk c.index-block.result.now block c.requires.in_range c.index-block.ensures at in
    let means : batch_reading None None ipc.is_little_endian (meta_view file).schema.fields d file.size read.message.version (header_of read.message.header) body ≡ Ok t =
    subst (λ s. batch_reading None None ipc.is_little_endian (schema_fields s ipc.fields.items) d file.size read.message.version (header_of read.message.header) body ≡ Ok t) c.deref-2.ensures (c.in_ok-rows.ensures.gives d shows) in
    subst (λ x. batch_in (asked None None) b (meta_view file) d x ≡ Ok (with_pairs (paired_in read).custom t)) here
    (chunk_shown b (meta_view file) d c.index-block.result.now (paired_in read) ipc.is_little_endian file.size body t fine c.in_ok-read.ensures.message (same_order file) c.requires.whole c.body_range.ensures.body means)

pub returns-clause-lent : goal.returns-clause-lent
returns-clause-lent c = λ holds. c.in_ok-rows.ensures.lent holds
