use Rattle.arrow_types.specs.KindOf.{kind_of}
use Rattle.arrow_types.specs.KindCode.{kind_eq_told}
use Rattle.arrow_types.proofs.same.ArrowDataTypePartialEq.eq.Goals as goal

pub returns-clause-eq : goal.returns-clause-eq
returns-clause-eq c = kind_eq_told c.is_same_type.result (kind_of c.args.self.now) (kind_of c.args.other.now) c.is_same_type.ensures
