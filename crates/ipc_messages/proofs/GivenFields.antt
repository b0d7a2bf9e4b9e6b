-- IPC fields that are the same.
use Rattle.std.proofs.Common.{◌≡◌, List, Bool, map, refl, ap}
use Rattle.std.specs.Prelude.{IsTrue}
use Rattle.std.specs.Cmp.Lexicographic.{pointwise}
use Rattle.arrow_types.specs.KindCode.{by_tree_sound, by_tree_itself}
use Rattle.arrow_arrays.proofs.SameBatches.{by_element, told_by}
use Rattle.ipc_fields.specs.IpcFields.{Tree, ids_from, ids_of, tree_of}
use Rattle.ipc_fields.specs.IpcFieldCode.{tree_to, tree_from, tree_from-tree_to, tree_eq}
use Rattle.ipc_fields.specs.declared.ipc_field.IpcField.{IpcField}
use Rattle.ipc_fields.proofs.Trees.{ids_from_same}

tree_sound : (s t : Tree) → IsTrue (tree_eq s t) → s ≡ t
unfolding tree_eq
tree_sound s t h = by_tree_sound tree_to tree_from tree_from-tree_to s t h

tree_itself : (t : Tree) → IsTrue (tree_eq t t)
unfolding tree_eq
tree_itself t = by_tree_itself tree_to t t refl

fields_same : (r : Bool) (xs ys : List IpcField) → r ≡ pointwise (λ x y. tree_eq (tree_of x) (tree_of y)) xs ys → (IsTrue r → map tree_of xs ≡ map tree_of ys) × (map tree_of xs ≡ map tree_of ys → IsTrue r)
fields_same r xs ys e = told_by r (pointwise (λ x y. tree_eq (tree_of x) (tree_of y)) xs ys) e (by_element tree_of tree_eq tree_sound tree_itself xs ys)

-- they have the same ids
pub ids_same : (r : Bool) (xs ys : List IpcField) → r ≡ pointwise (λ x y. tree_eq (tree_of x) (tree_of y)) xs ys → (IsTrue r → ids_of xs ≡ ids_of ys) × (ids_of xs ≡ ids_of ys → IsTrue r)
ids_same r xs ys e =
    let both = fields_same r xs ys e in
    (λ h. ap ids_from (both.0 h), λ h. both.1 (ids_from_same (map tree_of xs) (map tree_of ys) h))
