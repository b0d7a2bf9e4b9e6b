use Rattle.arrow_arrays.proofs.SameBatches.{arrays_same}
use Rattle.arrow_arrays.proofs.same.are_same_arrays.Goals as goal

pub returns : goal.returns
returns c = arrays_same c.eq.result c.args.a.now c.args.b.now c.eq.ensures
