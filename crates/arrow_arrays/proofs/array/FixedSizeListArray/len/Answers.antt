use Rattle.std.proofs.Common.{sym}
use Rattle.arrow_types.specs.KindOf.{kind_of}
use Rattle.arrow_arrays.specs.Heads.{sized}
use Rattle.arrow_arrays.specs.Parts.{Parts, nested}
use Rattle.arrow_arrays.specs.PartsOf.{only}
use Rattle.arrow_arrays.proofs.Sliced.{length-cells}
use Rattle.arrow_arrays.proofs.array.FixedSizeListArray.len.Goals as goal

pub returns-clause-cells : goal.returns-clause-cells
returns-clause-cells c =
    let i = c.self.inside in
    let whole : Parts = nested (sized (record { kind = kind_of i.dtype; rows = i.rows; validity = i.validity })) (only i.values.value) in
    rw (← c.self.view_is) (sym (length-cells whole c.self.invariant))
