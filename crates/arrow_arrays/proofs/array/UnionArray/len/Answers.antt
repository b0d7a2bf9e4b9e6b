use Rattle.std.proofs.Common.{◌∙◌, sym}
use Rattle.arrow_types.specs.KindOf.{kind_of}
use Rattle.arrow_arrays.specs.Heads.{tagged}
use Rattle.arrow_arrays.specs.Parts.{Parts, nested}
use Rattle.arrow_arrays.specs.PartsOf.{forest_of}
use Rattle.arrow_arrays.proofs.Sliced.{length-cells}
use Rattle.arrow_arrays.proofs.array.UnionArray.len.Goals as goal

pub returns-clause-cells : goal.returns-clause-cells
returns-clause-cells c =
    let i = c.self.inside in
    let whole : Parts = nested (tagged (record { kind = kind_of i.dtype; types = i.types; offsets = i.offsets })) (forest_of i.fields.items) in
    rw (← c.self.view_is) (c.len.ensures ∙ sym (length-cells whole c.self.invariant))
