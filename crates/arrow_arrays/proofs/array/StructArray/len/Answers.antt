use Rattle.std.proofs.Common.{sym}
use Rattle.arrow_types.specs.KindOf.{kind_of}
use Rattle.arrow_arrays.specs.Heads.{structured}
use Rattle.arrow_arrays.specs.Parts.{Parts, nested}
use Rattle.arrow_arrays.specs.PartsOf.{forest_of}
use Rattle.arrow_arrays.proofs.Sliced.{length-cells}
use Rattle.arrow_arrays.proofs.array.StructArray.len.Goals as goal

pub returns-clause-cells : goal.returns-clause-cells
returns-clause-cells c =
    let i = c.self.inside in
    let whole : Parts = nested (structured (record { kind = kind_of i.dtype; rows = i.rows; validity = i.validity })) (forest_of i.values.items) in
    rw (← c.self.view_is) (sym (length-cells whole c.self.invariant))
