use Rattle.arrow_types.specs.KindOf.{kind_of}
use Rattle.arrow_arrays.specs.Heads.{structured}
use Rattle.arrow_arrays.specs.PartsOf.{forest_of}
use Rattle.arrow_arrays.proofs.Sliced.{top_sound}
use Rattle.arrow_arrays.proofs.array.StructArray.validity.Goals as goal

pub returns-clause-rows : goal.returns-clause-rows
returns-clause-rows c =
    let i = c.self.inside in
    rw (← c.self.view_is) (top_sound (structured (record { kind = kind_of i.dtype; rows = i.rows; validity = i.validity })) (forest_of i.values.items) c.self.invariant).0.valid
