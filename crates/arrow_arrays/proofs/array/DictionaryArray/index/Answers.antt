use Rattle.std.proofs.Common.{◌≡◌, ◌∙◌, ◌<◌, ap, length, true, rules, SFits}
use Rattle.std.specs.Int.{w128}
use Rattle.std.proofs.lemmas.Int.{to_z-of_z}
use Rattle.arrow_spec.specs.Counts.{magnitude}
use Rattle.arrow_buffers.specs.Rows.{is_valid}
use Rattle.arrow_types.specs.KindOf.{kind_of}
use Rattle.arrow_arrays.specs.Heads.{number_at}
use Rattle.arrow_arrays.specs.KeysOf.{indexed_by, keys_in, key_validity_in}
use Rattle.arrow_arrays.specs.PartsOf.{forest_of}
use Rattle.arrow_arrays.proofs.KeyRows.{key_there}
use Rattle.arrow_arrays.proofs.array.DictionaryArray.index.Goals as goal

pub place_in-requires : goal.place_in-requires
place_in-requires c =
    let i = c.self.inside in
    let row = c.args.row in
    let below : row < length (keys_in i.keys) = rw (← c.self.view_is) at c.requires.below in
    let valid : is_valid (key_validity_in i.keys) row ≡ true = rw (← c.self.view_is) at c.requires.valid in
    let fits : SFits w128 c.number.result = search rules in
    let e : c.row_at.result ≡ magnitude (number_at (keys_in i.keys) row) = c.row_at.ensures ∙ ap magnitude (to_z-of_z w128 c.number.result fits ∙ c.number.ensures) in
    rw (e, c.as_slice.ensures.value) (key_there (indexed_by (kind_of i.dtype) i.keys) (forest_of i.parts.items) row c.self.invariant below valid)
