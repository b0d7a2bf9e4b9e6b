use Rattle.std.proofs.Common.{◌≡◌, ◌∙◌, List, ap, subst, sym, true}
use Rattle.std.specs.Rc.{rc_value}
use Rattle.arrow_spec.specs.declared.error.IpcError.{IpcError}
use Rattle.arrow_spec.specs.Features.{chosen_floats}
use Rattle.arrow_spec.specs.Schema.{Schema}
use Rattle.arrow_types.specs.Schemas.{fields_in}
use Rattle.ipc_fields.specs.IpcFields.{ids_of}
use Rattle.ipc_files.specs.Below.{are_column_kinds, Answers, are_rising, columns_of}
use Rattle.ipc_files.specs.Selections.{numbers_read}
use Rattle.ipc_files.proofs.Below.{chosen_with}
use Rattle.ipc_files.proofs.InOrder.{floats_asked, made_rising}
use Rattle.ipc_streams.specs.Starts.{stream_schema}
use Rattle.ipc_streams.proofs.StreamSchemas.{may_read}
use Rattle.ipc_streams.proofs.columns.StreamColumns.check.Goals as goal

pub check_kinds-requires-clause-columns : goal.check_kinds-requires-clause-columns
check_kinds-requires-clause-columns c =
    subst (λ s. are_column_kinds (columns_of c.numbers.result) 0 s ≡ true) (sym c.deref.ensures) (may_read c.args.self.now.metadata (columns_of c.numbers.result) c.args.self.now.readable)

pub check_kinds-requires-clause-rising : goal.check_kinds-requires-clause-rising
check_kinds-requires-clause-rising c =
    subst (λ ns. are_rising ns ≡ true) (sym c.numbers.ensures) (made_rising (rc_value c.args.self.now.metadata.schema) c.args.self.now.projection c.args.self.now.made)

pub returns-clause-exact : goal.returns-clause-exact
returns-clause-exact c = λ s is.
    let m = c.args.self.now.metadata in
    let k = rc_value m.schema in
    let p = c.args.self.now.projection in
    let same : chosen_floats (columns_of c.numbers.result) (fields_in c.deref.result.now) 0 ≡ chosen_floats s.columns s.schema.fields 0 =
    ap (λ ns. chosen_floats ns (fields_in c.deref.result.now) 0) c.numbers.ensures ∙ ap (λ x. chosen_floats (numbers_read p) (fields_in x) 0) c.deref.ensures
    ∙ sym (chosen_with (numbers_read p) (fields_in k) (ids_of m.ipc_schema.fields.items) 0) ∙ floats_asked k (stream_schema m).fields s.columns p is.columns ∙ ap (λ (x : Schema). chosen_floats s.columns x.fields 0) (sym is.schema) in
    subst (λ (es : List IpcError). Answers (λ u. u) c.check_kinds.result es tt) same c.check_kinds.ensures.exact
