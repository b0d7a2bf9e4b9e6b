use Rattle.std.proofs.Common.{◌≡◌, ◌∙◌, sym, arith}
use Rattle.arrow_types.specs.KindOf.{kind_of}
use Rattle.arrow_arrays.specs.Heads.{listed}
use Rattle.arrow_arrays.specs.Parts.{Parts, nested, rows_in}
use Rattle.arrow_arrays.specs.OffsetsOf.{offsets_in, width_in}
use Rattle.arrow_arrays.specs.PartsOf.{only}
use Rattle.arrow_arrays.proofs.Sliced.{length-cells}
use Rattle.arrow_arrays.proofs.array.ListArray.len.Goals as goal

pub returns-clause-cells : goal.returns-clause-cells
returns-clause-cells c =
    let i = c.self.inside in
    let whole : Parts = nested (listed (record { kind = kind_of i.dtype; width = width_in i.offsets; offsets = offsets_in i.offsets; validity = i.validity })) (only i.values.value) in
    let count : c.saturating_sub.result ≡ rows_in whole = omega (arith, c.saturating_sub.ensures, c.len.ensures) in
    rw (← c.self.view_is) (count ∙ sym (length-cells whole c.self.invariant))
