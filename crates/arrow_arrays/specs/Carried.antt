-- Which kinds arrays are read of. (Arrow Columnar Format, "Physical Memory Layout".)
use Rattle.std.specs.Prelude.{Bool, true, nat_eq, nat_lt, ◌&&◌}
use Rattle.arrow_spec.specs.Kinds.{Kind, Fields, none, field, width, «list», fixed_size_list, struct, map, union, dictionary, extension}
use Rattle.arrow_spec.specs.Schema.{first_is_struct_of_two}
use Rattle.arrow_types.specs.UnionIds.{are_right}
use Rattle.arrow_arrays.specs.LeafKinds.{is_leaf_kind}

-- no float and no decimal of 256 bits stands in it; lists and maps have one child, maps a struct of two, sizes are above 0, and the ids of unions are right
abbrev mutual
  pub is_carried : Kind → Bool
  is_carried («list» o fs) = nat_eq (width fs) 1 && are_carried fs
  is_carried (map sorted fs) = (nat_eq (width fs) 1 && first_is_struct_of_two fs) && are_carried fs
  is_carried (fixed_size_list size fs) = (nat_eq (width fs) 1 && nat_lt 0 size) && are_carried fs
  is_carried (struct fs) = are_carried fs
  is_carried (union mode stated ids fs) = are_right ids (width fs) && are_carried fs
  is_carried (dictionary t ordered id k) = is_carried k
  is_carried (extension name metadata k) = is_carried k
  is_carried k = is_leaf_kind k

  pub are_carried : Fields → Bool
  are_carried none = true
  are_carried (field name nullable metadata k others) = is_carried k && are_carried others
