use Rattle.std.proofs.Common.{◌≡◌, Ok, Err, subst, sym, true}
use Rattle.std.specs.Rc.{rc_value}
use Rattle.ipc_fields.specs.IpcFields.{ids_of}
use Rattle.ipc_read.specs.Held.{held_in}
use Rattle.ipc_projection.specs.Below.{are_columns, columns_of}
use Rattle.ipc_files.specs.Blocks.{asked_under}
use Rattle.ipc_files.specs.FileBlocks.{file_block, paired_of}
use Rattle.ipc_files.specs.FileViews.{meta_view}
use Rattle.ipc_files.specs.Requests.{asked}
use Rattle.ipc_files.proofs.Errors.{is_err}
use Rattle.ipc_files.proofs.FetchedFiles.{block_front, block_whole}
use Rattle.ipc_projection.proofs.Below.{each_use, held_fields}
use Rattle.ipc_files.proofs.ReadColumns.{columns_read}
use Rattle.ipc_files.proofs.FieldCounts.{field_count}
use Rattle.ipc_files.proofs.ReadFiles.{block_answer, block_paired, block_unpaired, file_width, given_in, message_err, natural_in, refused_in, same_order}
use Rattle.ipc_files.proofs.batch.read_block.Goals as goal

pub returns-in_err-read-clause-gives : goal.returns-in_err-read-clause-gives
returns-in_err-read-clause-gives g c =
    let e : c.from_residual.result ≡ Err c.in_err-read.field-0.0 = is_err _ _ _ c.from_residual.ensures.0 c.from_residual.ensures.1 (λ f h. h) in
    message_err (g.S.Source.content c.args.source.now) (held_in c.args.dictionaries.now) (λ b d. asked_under b (meta_view c.args.file.now) d (asked (columns_of c.args.projection) c.args.left)) c.args.block.now c.args.left c.from_residual.result c.in_err-read.field-0.0 e (refused_in _ _ _ c.in_err-read.ensures.message)

pub returns-in_err-batch-clause-gives : goal.returns-in_err-batch-clause-gives
returns-in_err-batch-clause-gives g c =
    let file = c.args.file.now in
    let columns = columns_of c.args.projection in
    let range : are_columns columns _ ≡ true = subst (λ n. are_columns columns n ≡ true) (sym (file_width file)) c.requires.range in
    let e : c.from_residual-in_err-batch.result ≡ Err c.in_err-batch.field-0.0 = is_err _ _ _ c.from_residual-in_err-batch.ensures.0 c.from_residual-in_err-batch.ensures.1 (λ f h. h) in
    block_unpaired (g.S.Source.content c.args.source.now) (held_in c.args.dictionaries.now) (meta_view file) columns c.args.left c.args.block.now (paired_of c.in_ok-read.read) c.from_residual-in_err-batch.result c.in_err-batch.field-0.0 (natural_in _ _ _ c.in_ok-read.ensures.message) e
    (block_answer (g.S.Source.content c.args.source.now) _ (meta_view file) (held_in c.args.dictionaries.now) columns c.args.left file.ipc_schema.is_little_endian file.size (file_block c.args.block.now) (paired_of c.in_ok-read.read) c.place_of_body.result (Err c.in_err-batch.field-0.0)
    c.requires.floats c.requires.rising range (same_order file) c.in_ok-read.ensures.kept.content c.place_of_body.ensures c.requires.whole (given_in _ _ _ c.in_ok-read.ensures.message) c.in_ok-read.ensures.fits c.in_err-batch.ensures.gives tt)

pub returns-clause-gives : goal.returns-clause-gives
returns-clause-gives g c =
    let file = c.args.file.now in
    let columns = columns_of c.args.projection in
    let range : are_columns columns _ ≡ true = subst (λ n. are_columns columns n ≡ true) (sym (file_width file)) c.requires.range in
    block_paired (g.S.Source.content c.args.source.now) (held_in c.args.dictionaries.now) (meta_view file) columns c.args.left c.args.block.now (paired_of c.in_ok-read.read) c.in_ok-batch.batch c.with_optional_metadata.result (natural_in _ _ _ c.in_ok-read.ensures.message) c.in_ok-read.ensures.ordered c.with_optional_metadata.ensures
    (block_answer (g.S.Source.content c.args.source.now) _ (meta_view file) (held_in c.args.dictionaries.now) columns c.args.left file.ipc_schema.is_little_endian file.size (file_block c.args.block.now) (paired_of c.in_ok-read.read) c.place_of_body.result (Ok c.in_ok-batch.batch)
    c.requires.floats c.requires.rising range (same_order file) c.in_ok-read.ensures.kept.content c.place_of_body.ensures c.requires.whole (given_in _ _ _ c.in_ok-read.ensures.message) c.in_ok-read.ensures.fits c.in_ok-batch.ensures.gives c.in_ok-batch.ensures.parts)

pub with_optional_metadata-requires : goal.with_optional_metadata-requires
with_optional_metadata-requires g c = c.in_ok-read.ensures.ordered.few

pub read_record_batch-requires-clause-columns : goal.read_record_batch-requires-clause-columns
read_record_batch-requires-clause-columns g c = columns_read (columns_of c.args.projection) (rc_value c.args.file.now.schema) (ids_of c.args.file.now.ipc_schema.fields.items) c.requires.read.columns

pub read_record_batch-requires-clause-fields : goal.read_record_batch-requires-clause-fields
read_record_batch-requires-clause-fields g c = field_count c.args.file.now c.requires.read

pub read_record_batch-requires-clause-kinds : goal.read_record_batch-requires-clause-kinds
read_record_batch-requires-clause-kinds g c =
    let fs = (meta_view c.args.file.now).schema.fields in
    held_fields (held_in c.args.dictionaries.now) fs (each_use (held_in c.args.dictionaries.now) fs c.requires.read.agree c.requires.uses)

pub returns-in_err-read-clause-fetched : goal.returns-in_err-read-clause-fetched
returns-in_err-read-clause-fetched g c =
    block_front (g.S.Source.content c.args.source.now) (meta_view c.args.file.now) (asked (columns_of c.args.projection) c.args.left) (file_block c.args.block.now) c.args.left _ _ c.in_err-read.ensures.fetched

pub returns-in_err-batch-clause-fetched : goal.returns-in_err-batch-clause-fetched
returns-in_err-batch-clause-fetched g c =
    let file = c.args.file.now in
    block_whole (g.S.Source.content c.args.source.now) (meta_view file) (columns_of c.args.projection) file.ipc_schema.is_little_endian (file_block c.args.block.now) c.args.left (paired_of c.in_ok-read.read) _ _ _
    (same_order file) c.in_ok-read.ensures.fetched (given_in _ _ _ c.in_ok-read.ensures.message) c.in_err-batch.ensures.fetched

pub returns-clause-fetched : goal.returns-clause-fetched
returns-clause-fetched g c =
    let file = c.args.file.now in
    block_whole (g.S.Source.content c.args.source.now) (meta_view file) (columns_of c.args.projection) file.ipc_schema.is_little_endian (file_block c.args.block.now) c.args.left (paired_of c.in_ok-read.read) _ _ _
    (same_order file) c.in_ok-read.ensures.fetched (given_in _ _ _ c.in_ok-read.ensures.message) c.in_ok-batch.ensures.fetched
