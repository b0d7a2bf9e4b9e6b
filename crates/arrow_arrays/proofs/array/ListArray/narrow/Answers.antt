use Rattle.std.proofs.Common.{◌+◌, ◌≤◌, refl}
use Rattle.arrow_types.specs.KindOf.{kind_of}
use Rattle.arrow_arrays.specs.Heads.{listed}
use Rattle.arrow_arrays.specs.Parts.{Parts, nested, rows_in}
use Rattle.arrow_arrays.specs.OffsetsOf.{offsets_in, width_in}
use Rattle.arrow_arrays.specs.PartsOf.{only}
use Rattle.arrow_arrays.proofs.Sliced.{fault-part, cells-part}
use Rattle.arrow_arrays.proofs.array.ListArray.narrow.Goals as goal

pub invariant_of-self : goal.invariant_of-self
invariant_of-self c =
    let i = c.self.inside in
    let whole : Parts = nested (listed (record { kind = kind_of i.dtype; width = width_in i.offsets; offsets = offsets_in i.offsets; validity = i.validity })) (only i.values.value) in
    let req : c.args.offset + c.args.rows ≤ rows_in whole = rw (← c.self.view_is) at c.requires in
    rw (c.narrow.ensures.offsets, c.narrow.ensures.width, c.narrow_validity.ensures) (fault-part c.args.offset c.args.rows whole c.self.invariant req)

pub returns-clause-parts : goal.returns-clause-parts
returns-clause-parts c = rw (← c.self.view_is, c.narrow.ensures.offsets, c.narrow.ensures.width, c.narrow_validity.ensures) refl

pub returns-clause-cells : goal.returns-clause-cells
returns-clause-cells c =
    let i = c.self.inside in
    let whole : Parts = nested (listed (record { kind = kind_of i.dtype; width = width_in i.offsets; offsets = offsets_in i.offsets; validity = i.validity })) (only i.values.value) in
    let req : c.args.offset + c.args.rows ≤ rows_in whole = rw (← c.self.view_is) at c.requires in
    rw (← c.self.view_is, c.narrow.ensures.offsets, c.narrow.ensures.width, c.narrow_validity.ensures) (cells-part c.args.offset c.args.rows whole c.self.invariant req)
