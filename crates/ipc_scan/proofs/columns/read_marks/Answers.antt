use Rattle.std.proofs.Common.{◌≡◌, ◌∙◌, Err, length}
use Rattle.std.specs.Rc.{rc_value}
use Rattle.arrow_spec.specs.declared.error.IpcError.TheVariants.{Memory}
use Rattle.arrow_arrays.specs.PartsOf.{parts_of}
use Rattle.ipc_files.specs.FileViews.{meta_view}
use Rattle.ipc_files.proofs.Errors.{is_err}
use Rattle.ipc_read.specs.Held.{held_in}
use Rattle.ipc_files.specs.FileBlocks.{paired_of}
use Rattle.ipc_scan.proofs.BlockColumns.{marks_count, marks_memory, marks_read, marks_refused, one_array, only_column}
use Rattle.ipc_scan.proofs.TestedColumns.{one_below, one_kind, one_rises, tested_floats}
use Rattle.ipc_scan.proofs.columns.read_marks.Goals as goal

pub read_columns-requires-clause-floats : goal.read_columns-requires-clause-floats
read_columns-requires-clause-floats g c = tested_floats (meta_view c.args.file.now).schema.fields c.args.filter.column c.requires.tested

pub read_columns-requires-clause-rising : goal.read_columns-requires-clause-rising
read_columns-requires-clause-rising g c = one_rises c.args.filter.column

pub read_columns-requires-clause-range : goal.read_columns-requires-clause-range
read_columns-requires-clause-range g c = one_below c.args.filter.column (length (rc_value c.args.file.now.schema)) c.requires.below

pub prove-unreachable-requires : goal.prove-unreachable-requires
prove-unreachable-requires g c =
    c.if-prove.true (one_array c.arrays-columns.result.now c.in_ok-tested.tested.arrays _ c.arrays-columns.ensures c.in_ok-tested.ensures.kinds (one_kind c.args.filter.column (rc_value c.args.file.now.schema) c.requires.below))

pub returns-in_err-tested-clause-gives : goal.returns-in_err-tested-clause-gives
returns-in_err-tested-clause-gives g c =
    let e : c.from_residual.result ≡ Err c.in_err-tested.field-0.0 = is_err _ _ _ c.from_residual.ensures.0 c.from_residual.ensures.1 (λ f h. h) in
    marks_refused (g.S.Source.content c.args.source.now) (held_in c.args.dictionaries.now) c.args.file.now c.args.filter c.args.at.block.now (paired_of c.args.at.read.now) c.from_residual.result c.in_err-tested.field-0.0 e c.requires.message c.requires.fits c.in_err-tested.ensures.gives

pub returns-in_err-row_marks-clause-gives : goal.returns-in_err-row_marks-clause-gives
returns-in_err-row_marks-clause-gives g c =
    let e : c.from_residual-in_err-row_marks.result ≡ Err Memory = is_err _ _ _ c.from_residual-in_err-row_marks.ensures.0 c.from_residual-in_err-row_marks.ensures.1 (λ f h. h) in
    marks_memory (g.S.Source.content c.args.source.now) (held_in c.args.dictionaries.now) c.args.file.now c.args.filter c.args.at.block.now c.from_residual-in_err-row_marks.result e

pub returns-clause-gives : goal.returns-clause-gives
returns-clause-gives g c =
    let a = c.index-columns-0.result in
    let one = one_array c.arrays-columns.result.now c.in_ok-tested.tested.arrays _ c.arrays-columns.ensures c.in_ok-tested.ensures.kinds (one_kind c.args.filter.column (rc_value c.args.file.now.schema) c.requires.below) in
    let only = only_column c.arrays-columns.result.now a c.in_ok-tested.tested.arrays c.arrays-columns.ensures one c.index-columns-0.is in
    marks_read (g.S.Source.content c.args.source.now) (held_in c.args.dictionaries.now) c.args.file.now c.args.filter c.args.at.block.now (paired_of c.args.at.read.now) c.in_ok-tested.tested (parts_of a) c.in_ok-row_marks.field-0
    c.requires.message c.requires.fits c.requires.ordered only c.in_ok-row_marks.ensures c.in_ok-tested.ensures.gives

pub returns-clause-rows : goal.returns-clause-rows
returns-clause-rows g c =
    let a = c.index-columns-0.result in
    let one = one_array c.arrays-columns.result.now c.in_ok-tested.tested.arrays _ c.arrays-columns.ensures c.in_ok-tested.ensures.kinds (one_kind c.args.filter.column (rc_value c.args.file.now.schema) c.requires.below) in
    let only = only_column c.arrays-columns.result.now a c.in_ok-tested.tested.arrays c.arrays-columns.ensures one c.index-columns-0.is in
    marks_count c.args.filter c.in_ok-tested.tested.height c.in_ok-tested.tested.arrays (parts_of a) _ only c.height-rows.ensures.each c.height-rows.ensures.sound c.in_ok-row_marks.ensures ∙ c.in_ok-tested.ensures.height
