-- Kinds as the types of arrays state them: without the ids of dictionaries. (Schema.fbs, DictionaryEncoding.)
use Rattle.std.specs.Prelude.{pos}
use Rattle.arrow_spec.specs.Kinds.{Kind, Fields, none, field, «list», fixed_size_list, struct, map, union, dictionary, extension}

-- the same kind with 0 for each id
abbrev mutual
  pub plain_kind : Kind → Kind
  plain_kind («list» o fs) = «list» o (plain_fields fs)
  plain_kind (fixed_size_list size fs) = fixed_size_list size (plain_fields fs)
  plain_kind (struct fs) = struct (plain_fields fs)
  plain_kind (map sorted fs) = map sorted (plain_fields fs)
  plain_kind (union mode stated ids fs) = union mode stated ids (plain_fields fs)
  plain_kind (dictionary t ordered id k) = dictionary t ordered (pos 0) (plain_kind k)
  plain_kind (extension name metadata k) = extension name metadata (plain_kind k)
  plain_kind k = k

  pub plain_fields : Fields → Fields
  plain_fields none = none
  plain_fields (field name nullable metadata k others) = field name nullable metadata (plain_kind k) (plain_fields others)
