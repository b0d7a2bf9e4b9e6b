use Rattle.arrow_types.specs.KindOf.{kind_of}
use Rattle.arrow_arrays.specs.Heads.{mapped}
use Rattle.arrow_spec.specs.Kinds.{small}
use Rattle.arrow_arrays.specs.PartsOf.{only}
use Rattle.arrow_arrays.proofs.Sliced.{top_sound}
use Rattle.arrow_arrays.proofs.array.MapArray.validity.Goals as goal

pub returns-clause-rows : goal.returns-clause-rows
returns-clause-rows c =
    let i = c.self.inside in
    rw (← c.self.view_is) (top_sound (mapped (record { kind = kind_of i.dtype; width = small; offsets = i.offsets; validity = i.validity })) (only i.field.value) c.self.invariant).0.valid
