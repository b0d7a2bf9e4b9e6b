-- The types whose arrays are read.
use Rattle.std.proofs.Common.{◌≡◌, Bool, true, false, ◌&&◌, Box, Global, ℕ, length, map, refl, ap, ◌∙◌}
use Rattle.std.proofs.lemmas.List.{length-map}
use Rattle.arrow_spec.specs.Kinds as kind
use Rattle.arrow_spec.specs.Schema.{is_struct_of_two}
use Rattle.arrow_types.specs.KindOf.{kind_of, child_of, fields_of, ids_of}
use Rattle.arrow_types.specs.UnionIds.{are_right}
use Rattle.arrow_types.specs.declared.data_type.ArrowDataType as data_type
use Rattle.arrow_types.specs.declared.data_type.Field.{Field}
use Rattle.arrow_types.specs.declared.data_type.UnionType.{UnionType, out-UnionType}
use Rattle.arrow_types.proofs.Children.{width_from}
use Rattle.arrow_types.proofs.DataTypes.{kind_of_child, kind_of_Map, kind_of_Union}
use Rattle.arrow_types.proofs.Sameness.{union_kind_of_is}
use Rattle.arrow_arrays.specs.Carried.{is_carried, are_carried}

by_entry : (a b : Bool) → a ≡ true → (a && (b && true)) ≡ b
by_entry true true h = refl
by_entry true false h = refl
by_entry false b h = cc

-- maps are read where their entries are, which are structs of two
pub map_carried : (f : Box Field Global) (sorted : Bool) → is_struct_of_two (kind_of f.value.dtype) ≡ true → is_carried (kind_of (data_type.Map f sorted)) ≡ is_carried (kind_of f.value.dtype)
map_carried f sorted h =
    ap is_carried (kind_of_Map f sorted)
    ∙ by_entry (is_struct_of_two (child_of f.value).kind) (is_carried (child_of f.value).kind) (ap is_struct_of_two (kind_of_child f.value) ∙ h)
    ∙ ap is_carried (kind_of_child f.value)

-- whether the ids of a union are right for its children
abbrev pub has_right : UnionType → Bool
has_right u = are_right (ids_of (out-UnionType u).ids (length (out-UnionType u).fields.items)) (length (out-UnionType u).fields.items)

pub right_told : (right : Bool) (n : ℕ) (x y u : UnionType) → right ≡ are_right (ids_of (out-UnionType x).ids n) n → n ≡ length (out-UnionType y).fields.items → x ≡ u → y ≡ u → right ≡ has_right u
right_told right n x y u e l p q = rw (e, l, p, q) refl

-- unions are read where their children are, under right ids
pub union_carried : (b : Box UnionType Global) → is_carried (kind_of (data_type.Union b)) ≡ (has_right b.value && are_carried (fields_of (out-UnionType b.value).fields.items))
union_carried b =
    let ids = (out-UnionType b.value).ids in
    let fs = (out-UnionType b.value).fields.items in
    ap is_carried (kind_of_Union b ∙ union_kind_of_is b.value)
    ∙ ap (λ n. are_right (ids_of ids (length (map child_of fs))) n && are_carried (fields_of fs)) (width_from child_of fs)
    ∙ ap (λ n. are_right (ids_of ids n) (length fs) && are_carried (fields_of fs)) (length-map fs child_of)
