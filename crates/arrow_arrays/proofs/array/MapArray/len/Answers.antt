use Rattle.std.proofs.Common.{◌≡◌, ◌∙◌, sym, arith}
use Rattle.arrow_types.specs.KindOf.{kind_of}
use Rattle.arrow_arrays.specs.Heads.{mapped}
use Rattle.arrow_arrays.specs.Parts.{Parts, nested, rows_in}
use Rattle.arrow_spec.specs.Kinds.{small}
use Rattle.arrow_arrays.specs.PartsOf.{only}
use Rattle.arrow_arrays.proofs.Sliced.{length-cells}
use Rattle.arrow_arrays.proofs.array.MapArray.len.Goals as goal

pub returns-clause-cells : goal.returns-clause-cells
returns-clause-cells c =
    let i = c.self.inside in
    let whole : Parts = nested (mapped (record { kind = kind_of i.dtype; width = small; offsets = i.offsets; validity = i.validity })) (only i.field.value) in
    let count : c.saturating_sub.result ≡ rows_in whole = omega (arith, c.saturating_sub.ensures, c.len.ensures) in
    rw (← c.self.view_is) (count ∙ sym (length-cells whole c.self.invariant))
