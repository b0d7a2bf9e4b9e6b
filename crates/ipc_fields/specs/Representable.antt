-- Kinds that the tables of a schema can say. (Schema.fbs, Type.)
use Rattle.std.specs.Prelude.{Bool, true, ◌&&◌}
use Rattle.arrow_spec.specs.Kinds as kind
use Rattle.arrow_spec.specs.Kinds.{Kind, Fields}
use Rattle.arrow_spec.specs.Regular.{is_no_dictionary, is_size}

-- A kind with all below it, as the tables of a schema can say it: sizes, precisions and scales are at most 2^31 - 1, and no dictionary stands
-- directly in a dictionary or in an extension. The ids of a union's array are right.
abbrev mutual
  pub is_representable : Kind → Bool
  is_representable (kind.decimal precision scale) = is_size precision && is_size scale
  is_representable (kind.decimal256 precision scale) = is_size precision && is_size scale
  is_representable (kind.fixed_size_binary n) = is_size n
  is_representable (kind.«list» o fs) = all_representable fs
  is_representable (kind.fixed_size_list n fs) = is_size n && all_representable fs
  is_representable (kind.struct fs) = all_representable fs
  is_representable (kind.map sorted fs) = all_representable fs
  is_representable (kind.union mode stated types fs) = all_representable fs
  is_representable (kind.dictionary index ordered id k) = is_no_dictionary k && is_representable k
  is_representable (kind.extension name metadata k) = is_no_dictionary k && is_representable k
  is_representable k = true

  pub all_representable : Fields → Bool
  all_representable kind.none = true
  all_representable (kind.field name nullable metadata k fs) = is_representable k && all_representable fs

-- the same of the values of a dictionary
abbrev pub are_representable_values : Kind → Bool
are_representable_values k = is_no_dictionary k && is_representable k
