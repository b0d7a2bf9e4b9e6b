use Rattle.std.proofs.Common.{◌≤◌, ◌+◌}
use Rattle.arrow_types.specs.KindOf.{kind_of}
use Rattle.arrow_arrays.specs.Heads.{indexed}
use Rattle.arrow_arrays.specs.KeysOf.{indexed_by}
use Rattle.arrow_arrays.specs.Parts.{Parts, nested, rows_in}
use Rattle.arrow_arrays.specs.PartsOf.{forest_of}
use Rattle.arrow_arrays.proofs.Sliced.{fault-part, cells-part}
use Rattle.arrow_arrays.proofs.array.DictionaryArray.narrow.Goals as goal

pub invariant_of-self : goal.invariant_of-self
invariant_of-self c =
    let i = c.self.inside in
    let whole : Parts = nested (indexed (indexed_by (kind_of i.dtype) i.keys)) (forest_of i.parts.items) in
    let req : c.args.offset + c.args.rows ≤ rows_in whole = rw (← c.self.view_is) at c.requires in
    rw (c.narrow.ensures.keys, c.narrow.ensures.index, c.narrow.ensures.validity) (fault-part c.args.offset c.args.rows whole c.self.invariant req)

pub returns-clause-cells : goal.returns-clause-cells
returns-clause-cells c =
    let i = c.self.inside in
    let whole : Parts = nested (indexed (indexed_by (kind_of i.dtype) i.keys)) (forest_of i.parts.items) in
    let req : c.args.offset + c.args.rows ≤ rows_in whole = rw (← c.self.view_is) at c.requires in
    rw (← c.self.view_is, c.narrow.ensures.keys, c.narrow.ensures.index, c.narrow.ensures.validity) (cells-part c.args.offset c.args.rows whole c.self.invariant req)
