use Rattle.std.proofs.Common.{◌≡◌, ◌∙◌, List, ap, subst, sym, true}
use Rattle.std.specs.Prelude.{option_copied}
use Rattle.std.specs.Rc.{rc_value}
use Rattle.arrow_spec.specs.declared.error.IpcError.{IpcError}
use Rattle.arrow_spec.specs.Features.{chosen_floats}
use Rattle.arrow_types.specs.Schemas.{fields_in}
use Rattle.ipc_fields.specs.IpcFields.{ids_of}
use Rattle.ipc_read.specs.Batches.{are_column_kinds}
use Rattle.ipc_projection.specs.Below.{are_rising, columns_of}
use Rattle.ipc_read.specs.Sources.{Answers}
use Rattle.ipc_files.specs.FileViews.{meta_view}
use Rattle.ipc_files.specs.Selections.{numbers_read}
use Rattle.ipc_files.proofs.InOrder.{floats_asked, made_rising}
use Rattle.ipc_projection.proofs.Below.{chosen_with}
use Rattle.ipc_files.proofs.ReadColumns.{columns_read}
use Rattle.ipc_files.proofs.ordered.check_columns.Goals as goal

pub check_kinds-requires-clause-columns : goal.check_kinds-requires-clause-columns
check_kinds-requires-clause-columns c =
    let file = c.args.metadata.now in
    let columns = columns_of c.rising_numbers.result in
    subst (λ s. are_column_kinds columns 0 s ≡ true) (sym c.deref.ensures) (columns_read columns (rc_value file.schema) (ids_of file.ipc_schema.fields.items) c.requires.readable.columns)

pub check_kinds-requires-clause-rising : goal.check_kinds-requires-clause-rising
check_kinds-requires-clause-rising c =
    subst (λ ns. are_rising ns ≡ true) (sym c.rising_numbers.ensures) (made_rising (rc_value c.args.metadata.now.schema) (option_copied c.args.projection) c.requires.made)

pub returns-clause-exact : goal.returns-clause-exact
returns-clause-exact c = λ columns may.
    let file = c.args.metadata.now in
    let s = rc_value file.schema in
    let fs = (meta_view file).schema.fields in
    let same : chosen_floats (columns_of c.rising_numbers.result) (fields_in c.deref.result.now) 0 ≡ chosen_floats columns fs 0 =
    ap (λ ns. chosen_floats ns (fields_in c.deref.result.now) 0) c.rising_numbers.ensures ∙ ap (λ k. chosen_floats (numbers_read (option_copied c.args.projection)) (fields_in k) 0) c.deref.ensures
    ∙ sym (chosen_with (numbers_read (option_copied c.args.projection)) (fields_in s) (ids_of file.ipc_schema.fields.items) 0) ∙ floats_asked s fs columns (option_copied c.args.projection) may in
    subst (λ (es : List IpcError). Answers (λ u. u) c.check_kinds.result es tt) same c.check_kinds.ensures.exact
