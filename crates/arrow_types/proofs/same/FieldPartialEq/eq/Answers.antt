use Rattle.arrow_types.specs.KindOf.{child_of}
use Rattle.arrow_types.specs.ChildCode.{child_eq_told}
use Rattle.arrow_types.proofs.same.FieldPartialEq.eq.Goals as goal

pub returns-clause-eq : goal.returns-clause-eq
returns-clause-eq c = child_eq_told c.is_same_field.result (child_of c.args.self.now) (child_of c.args.other.now) c.is_same_field.ensures
