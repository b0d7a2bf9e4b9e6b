use Rattle.std.proofs.Common.{sym, ap, ◌∙◌}
use Rattle.arrow_spec.specs.Kinds.{is_same_kind}
use Rattle.arrow_types.specs.KindOf.{child_of, kind_of}
use Rattle.ipc_messages.proofs.Columns.{kind_of_field}
use Rattle.ipc_messages.proofs.types.is_of_field.Goals as goal

pub returns : goal.returns
returns c =
    let f = c.args.field.now in
    c.is_same_kind_of_values.ensures ∙ ap (λ k. is_same_kind k (kind_of c.dtype.result.now)) (sym (kind_of_field f)) ∙ ap (is_same_kind (child_of f).kind) c.dtype.ensures
