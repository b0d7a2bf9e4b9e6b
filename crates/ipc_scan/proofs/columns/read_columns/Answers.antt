use Rattle.std.proofs.Common.{◌≡◌, None, refl, subst, sym, true}
use Rattle.std.specs.Rc.{rc_value}
use Rattle.ipc_fields.specs.IpcFields.{ids_of}
use Rattle.ipc_files.specs.FileBlocks.{file_block, paired_of}
use Rattle.ipc_files.specs.FileViews.{meta_view}
use Rattle.ipc_files.proofs.FieldCounts.{field_count}
use Rattle.ipc_files.proofs.ReadColumns.{columns_read}
use Rattle.ipc_files.proofs.ReadFiles.{block_answer, file_width, same_order}
use Rattle.ipc_projection.specs.Below.{are_columns, columns_of}
use Rattle.ipc_projection.proofs.Below.{each_use, held_fields}
use Rattle.ipc_read.specs.Held.{held_in}
use Rattle.ipc_scan.proofs.BlockColumns.{columns_given, record_in}
use Rattle.ipc_scan.proofs.FetchedBlocks.{buffers_whole}
use Rattle.ipc_scan.proofs.columns.read_columns.Goals as goal

pub read_record_batch-requires-clause-columns : goal.read_record_batch-requires-clause-columns
read_record_batch-requires-clause-columns g c = columns_read (columns_of c.args.projection) (rc_value c.args.file.now.schema) (ids_of c.args.file.now.ipc_schema.fields.items) c.requires.read.columns

pub read_record_batch-requires-clause-fields : goal.read_record_batch-requires-clause-fields
read_record_batch-requires-clause-fields g c = field_count c.args.file.now c.requires.read

pub read_record_batch-requires-clause-kinds : goal.read_record_batch-requires-clause-kinds
read_record_batch-requires-clause-kinds g c =
    let fs = (meta_view c.args.file.now).schema.fields in
    held_fields (held_in c.args.dictionaries.now) fs (each_use (held_in c.args.dictionaries.now) fs c.requires.read.agree c.requires.uses)

pub returns-clause-gives : goal.returns-clause-gives
returns-clause-gives g c =
    let file = c.args.file.now in
    let columns = columns_of c.args.projection in
    let block = c.args.at.block.now in
    let m = paired_of c.args.at.read.now in
    let range : are_columns columns _ ≡ true = subst (λ n. are_columns columns n ≡ true) (sym (file_width file)) c.requires.range in
    columns_given (g.S.Source.content c.args.source.now) (held_in c.args.dictionaries.now) (meta_view file) columns block m c.read_record_batch.result
    (block_answer (g.S.Source.content c.args.source.now) _ (meta_view file) (held_in c.args.dictionaries.now) columns None file.ipc_schema.is_little_endian file.size (file_block block) m c.place_of_body.result c.read_record_batch.result
    c.requires.floats c.requires.rising range (same_order file) refl c.place_of_body.ensures c.requires.whole (record_in (g.S.Source.content c.args.source.now) block m c.requires.message) c.requires.fits c.read_record_batch.ensures.gives c.read_record_batch.ensures.parts)

pub returns-clause-fetched : goal.returns-clause-fetched
returns-clause-fetched g c =
    let file = c.args.file.now in
    buffers_whole (g.S.Source.content c.args.source.now) (meta_view file) file.ipc_schema.is_little_endian (paired_of c.args.at.read.now) (columns_of c.args.projection) (file_block c.args.at.block.now) _ _ (same_order file) c.read_record_batch.ensures.fetched
