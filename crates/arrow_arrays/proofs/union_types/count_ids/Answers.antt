use Rattle.std.proofs.Common.{length, sym, ap, ◌∙◌}
use Rattle.arrow_types.specs.KindOf.{ids_of}
use Rattle.arrow_types.proofs.UnionIds.{counted_length}
use Rattle.arrow_arrays.proofs.union_types.count_ids.Goals as goal

pub returns-in-None : goal.returns-in-None
returns-in-None c = sym (ap (λ ids. length (ids_of ids c.args.children)) c.in-None.is ∙ counted_length 0 c.args.children)
