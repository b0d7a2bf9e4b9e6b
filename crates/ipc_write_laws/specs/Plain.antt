-- Fields that a stream leaves as they are.
use Rattle.std.specs.Prelude.{Bool, true, false, ◌&&◌}
use Rattle.arrow_spec.specs.Kinds.{Kind, Fields, none, field, «list», fixed_size_list, struct, map, union, dictionary, extension}

-- no dictionary stands in a kind, and each union in it states its ids
abbrev mutual
  pub has_no_ids : Kind → Bool
  has_no_ids («list» o fs) = have_no_ids fs
  has_no_ids (fixed_size_list n fs) = have_no_ids fs
  has_no_ids (struct fs) = have_no_ids fs
  has_no_ids (map sorted fs) = have_no_ids fs
  has_no_ids (union mode stated ids fs) = stated && have_no_ids fs
  has_no_ids (dictionary t ordered id k) = false
  has_no_ids (extension name metadata k) = has_no_ids k
  has_no_ids k = true

  pub have_no_ids : Fields → Bool
  have_no_ids none = true
  have_no_ids (field name nullable metadata k others) = has_no_ids k && have_no_ids others
