use Rattle.std.proofs.Common.{◌≡◌, ◌∙◌, [], Err, ap, subst, sym, true}
use Rattle.std.specs.Rc.{rc_value}
use Rattle.arrow_spec.specs.Features.{chosen_floats}
use Rattle.arrow_types.specs.Schemas.{fields_in}
use Rattle.ipc_fields.specs.IpcFields.{fields_with, ids_of}
use Rattle.ipc_read.specs.Batches.{are_column_kinds}
use Rattle.ipc_read.specs.Held.{held_in}
use Rattle.ipc_projection.specs.Below.{columns_of}
use Rattle.ipc_files.specs.Blocks.{asked_under}
use Rattle.ipc_files.specs.Fetching.{BlockFetched}
use Rattle.ipc_files.specs.FileViews.{meta_view}
use Rattle.ipc_files.specs.Requests.{asked}
use Rattle.ipc_files.proofs.Errors.{is_err}
use Rattle.ipc_projection.proofs.Below.{chosen_with}
use Rattle.ipc_files.proofs.ReadBatches.{batch_given, block_given, indexed, indexed_given, kinds_cause, kinds_refused}
use Rattle.ipc_files.proofs.ReadColumns.{columns_read}
use Rattle.ipc_files.proofs.ReadFiles.{of_err}
use Rattle.ipc_files.proofs.batch.read_batch.Goals as goal

pub check_kinds-requires-clause-columns : goal.check_kinds-requires-clause-columns
check_kinds-requires-clause-columns g c =
    let file = c.args.metadata.now in
    let columns = columns_of c.args.projection in
    subst (λ s. are_column_kinds columns 0 s ≡ true) (sym c.deref.ensures) (columns_read columns (rc_value file.schema) (ids_of file.ipc_schema.fields.items) c.requires.readable.columns)

pub returns-in_err-check_kinds-clause-gives : goal.returns-in_err-check_kinds-clause-gives
returns-in_err-check_kinds-clause-gives g c = λ block at.
    let file = c.args.metadata.now in
    let e : c.from_residual.result ≡ Err c.in_err-check_kinds.field-0.0 = is_err _ _ _ c.from_residual.ensures.0 c.from_residual.ensures.1 (λ f h. h) in
    kinds_refused (g.S.Source.content c.args.source.now) (held_in c.args.dictionaries.now) (asked (columns_of c.args.projection) c.args.limit) (meta_view file) c.deref.result.now (ids_of file.ipc_schema.fields.items) block c.from_residual.result c.in_err-check_kinds.field-0.0
    e (ap (λ s. fields_with (fields_in s) (ids_of file.ipc_schema.fields.items)) (sym c.deref.ensures)) c.in_err-check_kinds.ensures.exact.err

pub returns-in_err-check_kinds-clause-cause : goal.returns-in_err-check_kinds-clause-cause
returns-in_err-check_kinds-clause-cause g c =
    let e : c.from_residual.result ≡ Err c.in_err-check_kinds.field-0.0 = is_err _ _ _ c.from_residual.ensures.0 c.from_residual.ensures.1 (λ f h. h) in
    of_err c.from_residual.result c.in_err-check_kinds.field-0.0 _ e (kinds_cause c.in_err-check_kinds.field-0.0 _ _ c.in_err-check_kinds.ensures.cause)

pub read_block-requires-clause-floats : goal.read_block-requires-clause-floats
read_block-requires-clause-floats g c =
    let file = c.args.metadata.now in
    let columns = columns_of c.args.projection in
    chosen_with columns (fields_in (rc_value file.schema)) (ids_of file.ipc_schema.fields.items) 0 ∙ ap (λ s. chosen_floats columns (fields_in s) 0) (sym c.deref.ensures) ∙ c.in_ok-check_kinds.ensures.exact.ok.0

pub returns-clause-gives : goal.returns-clause-gives
returns-clause-gives g c = λ block at.
    let file = c.args.metadata.now in
    let columns = columns_of c.args.projection in
    let floats : chosen_floats columns (meta_view file).schema.fields 0 ≡ [] =
    chosen_with columns (fields_in (rc_value file.schema)) (ids_of file.ipc_schema.fields.items) 0 ∙ ap (λ s. chosen_floats columns (fields_in s) 0) (sym c.deref.ensures) ∙ c.in_ok-check_kinds.ensures.exact.ok.0 in
    batch_given (g.S.Source.content c.args.source.now) (held_in c.args.dictionaries.now) (asked columns c.args.limit) (meta_view file) block _ c.read_block.result
    floats (indexed_given file.blocks.items c.args.index c.index.result.now block c.requires.in_range c.index.ensures at) c.read_block.ensures.gives

pub returns-clause-read : goal.returns-clause-read
returns-clause-read g c = λ block at.
    block_given (g.S.Source.content c.args.source.now) (held_in c.args.dictionaries.now) (λ b d. asked_under b (meta_view c.args.metadata.now) d (asked (columns_of c.args.projection) c.args.limit)) block _ c.args.limit c.read_block.result
    (indexed c.args.metadata.now.blocks.items c.args.index c.index.result.now block c.requires.in_range c.index.ensures at) c.read_block.ensures.gives

pub returns-clause-fetched : goal.returns-clause-fetched
returns-clause-fetched g c = λ block at.
    subst (λ x. BlockFetched (g.S.Source.content c.args.source.now) (meta_view c.args.metadata.now) (asked (columns_of c.args.projection) c.args.limit) x c.args.limit (g.S.Source.fetched c.args.source.now) (g.S.Source.fetched c.read_block.new.source)) (indexed c.args.metadata.now.blocks.items c.args.index c.index.result.now block c.requires.in_range c.index.ensures at) c.read_block.ensures.fetched
