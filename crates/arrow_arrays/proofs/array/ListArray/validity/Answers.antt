use Rattle.arrow_types.specs.KindOf.{kind_of}
use Rattle.arrow_arrays.specs.Heads.{listed}
use Rattle.arrow_arrays.specs.OffsetsOf.{offsets_in, width_in}
use Rattle.arrow_arrays.specs.PartsOf.{only}
use Rattle.arrow_arrays.proofs.Sliced.{top_sound}
use Rattle.arrow_arrays.proofs.array.ListArray.validity.Goals as goal

pub returns-clause-rows : goal.returns-clause-rows
returns-clause-rows c =
    let i = c.self.inside in
    rw (← c.self.view_is) (top_sound (listed (record { kind = kind_of i.dtype; width = width_in i.offsets; offsets = offsets_in i.offsets; validity = i.validity })) (only i.values.value) c.self.invariant).0.valid
