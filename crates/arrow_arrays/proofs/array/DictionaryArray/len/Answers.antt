use Rattle.std.proofs.Common.{◌∙◌, sym}
use Rattle.arrow_types.specs.KindOf.{kind_of}
use Rattle.arrow_arrays.specs.Heads.{indexed}
use Rattle.arrow_arrays.specs.KeysOf.{indexed_by}
use Rattle.arrow_arrays.specs.Parts.{Parts, nested}
use Rattle.arrow_arrays.specs.PartsOf.{forest_of}
use Rattle.arrow_arrays.proofs.Sliced.{length-cells}
use Rattle.arrow_arrays.proofs.array.DictionaryArray.len.Goals as goal

pub returns-clause-cells : goal.returns-clause-cells
returns-clause-cells c =
    let i = c.self.inside in
    let whole : Parts = nested (indexed (indexed_by (kind_of i.dtype) i.keys)) (forest_of i.parts.items) in
    rw (← c.self.view_is) (c.len.ensures ∙ sym (length-cells whole c.self.invariant))
