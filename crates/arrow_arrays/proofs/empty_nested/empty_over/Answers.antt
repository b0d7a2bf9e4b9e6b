use Rattle.std.proofs.Common.{refl, ◌∙◌, subst}
use Rattle.arrow_types.specs.KindOf.{kind_of}
use Rattle.arrow_types.specs.declared.physical.PhysicalType.TheVariants as physical
use Rattle.arrow_arrays.specs.EmptyTops.{EmptyUnder, empty_below}
use Rattle.arrow_arrays.specs.Heads.{child_fields}
use Rattle.arrow_arrays.specs.PartsOf.{forest_of, only}
use Rattle.arrow_arrays.proofs.EmptyTops.{of_layout, only_top, one_child, leaf_layout, fields_empty, values_empty, whole_at, whole_told, leaf_told}
use Rattle.arrow_arrays.proofs.empty_nested.empty_over.Goals as goal

pub only_of-requires : goal.only_of-requires
only_of-requires c = one_child (kind_of c.args.dtype) _ c.args.children.items (of_layout (kind_of c.args.dtype) _ physical.List c.to_physical_type.ensures c.in-List.is c.requires.carried) (fields_empty (kind_of c.args.dtype) _ physical.List (forest_of c.args.children.items) c.to_physical_type.ensures c.in-List.is refl c.requires.carried c.requires.children)

pub empty_list-requires : goal.empty_list-requires
empty_list-requires c = record { layout = only_top (kind_of c.args.dtype) _ (of_layout (kind_of c.args.dtype) _ physical.List c.to_physical_type.ensures c.in-List.is c.requires.carried); child = fields_empty (kind_of c.args.dtype) _ physical.List (only c.only_of.result) c.to_physical_type.ensures c.in-List.is refl c.requires.carried (c.only_of.ensures ∙ c.requires.children) }

pub returns-in-List : goal.returns-in-List
returns-in-List c = whole_told c.empty_list.result (kind_of c.args.dtype) _ physical.List (only c.only_of.result) c.to_physical_type.ensures c.in-List.is (c.only_of.ensures ∙ c.requires.children) c.empty_list.ensures

pub only_of-requires-in-LargeList : goal.only_of-requires-in-LargeList
only_of-requires-in-LargeList c = one_child (kind_of c.args.dtype) _ c.args.children.items (of_layout (kind_of c.args.dtype) _ physical.LargeList c.to_physical_type.ensures c.in-LargeList.is c.requires.carried) (fields_empty (kind_of c.args.dtype) _ physical.LargeList (forest_of c.args.children.items) c.to_physical_type.ensures c.in-LargeList.is refl c.requires.carried c.requires.children)

pub empty_list-requires-in-LargeList : goal.empty_list-requires-in-LargeList
empty_list-requires-in-LargeList c = record { layout = only_top (kind_of c.args.dtype) _ (of_layout (kind_of c.args.dtype) _ physical.LargeList c.to_physical_type.ensures c.in-LargeList.is c.requires.carried); child = fields_empty (kind_of c.args.dtype) _ physical.LargeList (only c.only_of-in-LargeList.result) c.to_physical_type.ensures c.in-LargeList.is refl c.requires.carried (c.only_of-in-LargeList.ensures ∙ c.requires.children) }

pub returns-in-LargeList : goal.returns-in-LargeList
returns-in-LargeList c = whole_told c.empty_list-in-LargeList.result (kind_of c.args.dtype) _ physical.LargeList (only c.only_of-in-LargeList.result) c.to_physical_type.ensures c.in-LargeList.is (c.only_of-in-LargeList.ensures ∙ c.requires.children) c.empty_list-in-LargeList.ensures

pub only_of-requires-in-FixedSizeList : goal.only_of-requires-in-FixedSizeList
only_of-requires-in-FixedSizeList c = one_child (kind_of c.args.dtype) _ c.args.children.items (of_layout (kind_of c.args.dtype) _ physical.FixedSizeList c.to_physical_type.ensures c.in-FixedSizeList.is c.requires.carried) (fields_empty (kind_of c.args.dtype) _ physical.FixedSizeList (forest_of c.args.children.items) c.to_physical_type.ensures c.in-FixedSizeList.is refl c.requires.carried c.requires.children)

pub empty_sized-requires : goal.empty_sized-requires
empty_sized-requires c = record { layout = only_top (kind_of c.args.dtype) _ (of_layout (kind_of c.args.dtype) _ physical.FixedSizeList c.to_physical_type.ensures c.in-FixedSizeList.is c.requires.carried); child = fields_empty (kind_of c.args.dtype) _ physical.FixedSizeList (only c.only_of-in-FixedSizeList.result) c.to_physical_type.ensures c.in-FixedSizeList.is refl c.requires.carried (c.only_of-in-FixedSizeList.ensures ∙ c.requires.children) }

pub returns-in-FixedSizeList : goal.returns-in-FixedSizeList
returns-in-FixedSizeList c = whole_told c.empty_sized.result (kind_of c.args.dtype) _ physical.FixedSizeList (only c.only_of-in-FixedSizeList.result) c.to_physical_type.ensures c.in-FixedSizeList.is (c.only_of-in-FixedSizeList.ensures ∙ c.requires.children) c.empty_sized.ensures

pub only_of-requires-in-Map : goal.only_of-requires-in-Map
only_of-requires-in-Map c = one_child (kind_of c.args.dtype) _ c.args.children.items (of_layout (kind_of c.args.dtype) _ physical.Map c.to_physical_type.ensures c.in-Map.is c.requires.carried) (fields_empty (kind_of c.args.dtype) _ physical.Map (forest_of c.args.children.items) c.to_physical_type.ensures c.in-Map.is refl c.requires.carried c.requires.children)

pub empty_map-requires : goal.empty_map-requires
empty_map-requires c = record { layout = only_top (kind_of c.args.dtype) _ (of_layout (kind_of c.args.dtype) _ physical.Map c.to_physical_type.ensures c.in-Map.is c.requires.carried); child = fields_empty (kind_of c.args.dtype) _ physical.Map (only c.only_of-in-Map.result) c.to_physical_type.ensures c.in-Map.is refl c.requires.carried (c.only_of-in-Map.ensures ∙ c.requires.children) }

pub returns-in-Map : goal.returns-in-Map
returns-in-Map c = whole_told c.empty_map.result (kind_of c.args.dtype) _ physical.Map (only c.only_of-in-Map.result) c.to_physical_type.ensures c.in-Map.is (c.only_of-in-Map.ensures ∙ c.requires.children) c.empty_map.ensures

pub empty_struct-requires : goal.empty_struct-requires
empty_struct-requires c = record { layout = of_layout (kind_of c.args.dtype) _ physical.Struct c.to_physical_type.ensures c.in-Struct.is c.requires.carried; children = fields_empty (kind_of c.args.dtype) _ physical.Struct (forest_of c.args.children.items) c.to_physical_type.ensures c.in-Struct.is refl c.requires.carried c.requires.children }

pub returns-in-Struct : goal.returns-in-Struct
returns-in-Struct c = c.empty_struct.ensures ∙ whole_at (kind_of c.args.dtype) _ physical.Struct (forest_of c.args.children.items) c.to_physical_type.ensures c.in-Struct.is c.requires.children

pub empty_union-requires : goal.empty_union-requires
empty_union-requires c = record { layout = of_layout (kind_of c.args.dtype) _ physical.Union c.to_physical_type.ensures c.in-Union.is c.requires.carried; children = fields_empty (kind_of c.args.dtype) _ physical.Union (forest_of c.args.children.items) c.to_physical_type.ensures c.in-Union.is refl c.requires.carried c.requires.children }

pub returns-in-Union : goal.returns-in-Union
returns-in-Union c = whole_told c.empty_union.result (kind_of c.args.dtype) _ physical.Union (forest_of c.args.children.items) c.to_physical_type.ensures c.in-Union.is c.requires.children c.empty_union.ensures

pub empty_dictionary-requires : goal.empty_dictionary-requires
empty_dictionary-requires c =
    let keyed = of_layout (kind_of c.args.dtype) _ (physical.Dictionary c.in-Dictionary.index) c.to_physical_type.ensures c.in-Dictionary.is c.requires.carried in
    record { layout = keyed; parts = values_empty (kind_of c.args.dtype) c.in-Dictionary.index (forest_of c.args.children.items) keyed c.requires.carried c.requires.children }

pub returns-in-Dictionary : goal.returns-in-Dictionary
returns-in-Dictionary c = whole_told c.empty_dictionary.result (kind_of c.args.dtype) _ (physical.Dictionary c.in-Dictionary.index) (forest_of c.args.children.items) c.to_physical_type.ensures c.in-Dictionary.is c.requires.children c.empty_dictionary.ensures

pub empty_leaf-requires : goal.empty_leaf-requires
empty_leaf-requires c =
    let d = c.in_default in
    record {
      layout = c.to_physical_type.ensures;
      leaf = leaf_layout (kind_of c.args.dtype) c.to_physical_type.result (of_layout (kind_of c.args.dtype) _ c.to_physical_type.result c.to_physical_type.ensures refl c.requires.carried) d.not-List d.not-LargeList d.not-FixedSizeList d.not-Map d.not-Struct d.not-Union d.not-Dictionary;
    }

pub returns-in_default : goal.returns-in_default
returns-in_default c =
    let d = c.in_default in
    let leaf = leaf_layout (kind_of c.args.dtype) c.to_physical_type.result (of_layout (kind_of c.args.dtype) _ c.to_physical_type.result c.to_physical_type.ensures refl c.requires.carried) d.not-List d.not-LargeList d.not-FixedSizeList d.not-Map d.not-Struct d.not-Union d.not-Dictionary in
    leaf_told c.empty_leaf.result (kind_of c.args.dtype) c.to_physical_type.result (forest_of c.args.children.items) c.to_physical_type.ensures leaf c.requires.children c.empty_leaf.ensures
