use Rattle.std.proofs.Common.{◌≡◌, ◌∙◌, ◌<◌, ◌∷◌, [], length, sym, ap, rules}
use Rattle.arrow_types.specs.KindOf.{kind_of}
use Rattle.arrow_arrays.specs.Carried.{is_carried}
use Rattle.arrow_arrays.specs.EmptyParts.{empty_parts}
use Rattle.arrow_arrays.specs.Parts.{also, forest, none}
use Rattle.arrow_arrays.specs.PartsOf.{forest_of}
use Rattle.ipc_unify.proofs.Finishing.{forest_as, none_filled, some_filled}
use Rattle.ipc_unify.proofs.finished.some_parts.Goals as goal

pub new_empty_array-requires : goal.new_empty_array-requires
new_empty_array-requires c = ap is_carried c.in_ok-dtype.ensures ∙ c.requires

pub returns-then-is_empty : goal.returns-then-is_empty
returns-then-is_empty c =
    let a = c.in_ok-new_empty_array.field-0 in
    let filled : c.push.new.self.items ≡ a ∷ [] = search rules in
    let none_there : length c.args.parts.now ≡ 0 = search rules in
    ap forest_of filled ∙ ap (λ p. also p none) (c.in_ok-new_empty_array.ensures.parts ∙ ap empty_parts c.in_ok-dtype.ensures) ∙ none_filled (kind_of c.args.dtype.now) c.args.parts.now none_there

pub returns : goal.returns
returns c =
    let some_there : 0 < length c.args.parts.now = search rules in
    forest_as c.clone_each.result c.args.parts.now _ (some_filled (kind_of c.args.dtype.now) c.args.parts.now some_there) c.clone_each.ensures
