use Rattle.std.proofs.Common.{◌≡◌, true}
use Rattle.arrow_spec.specs.Kinds.{is_same_kind}
use Rattle.arrow_types.specs.KindOf.{child_of}
use Rattle.same_fields.proofs.OneKind.{children_same}
use Rattle.same_fields.proofs.bare.is_same_entry.Goals as goal

pub returns-in-Some-b-clause-kinds : goal.returns-in-Some-b-clause-kinds
returns-in-Some-b-clause-kinds c = λ h.
    let same : is_same_kind (child_of c.in-Some.field.now).kind (child_of c.in-Some-b.fellow.now).kind ≡ true = children_same c.in-Some.field.now c.in-Some-b.fellow.now (c.is_same_field.ensures.0 h) in
    rw (c.in-Some.is, c.in-Some-b.is) same
