-- Fields that fit, and have no floats and no decimals of 256 bits, are those that arrays are read of.
use Rattle.std.proofs.Common.{◌≡◌, ℕ, zero, suc, [], ◌&&◌, true, refl}
use Rattle.std.specs.Prelude.{nat_eq, nat_lt}
use Rattle.std.proofs.lemmas.Bool.{and_from, eq-eqb, lt-ltb}
use Rattle.arrow_spec.specs.declared.types.IntegerType.{IntegerType}
use Rattle.arrow_spec.specs.declared.types.IntegerType.TheVariants.{Int8}
use Rattle.arrow_spec.specs.declared.types.IntervalUnit.TheVariants.{YearMonth}
use Rattle.arrow_spec.specs.Kinds.{Kind, none, field, integer, float, interval, decimal256, binary, utf8, fixed_size_binary, «list», fixed_size_list, struct, map, union, dictionary, extension, small, large, width}
use Rattle.arrow_spec.specs.Schema.{first_is_struct_of_two}
use Rattle.arrow_spec.specs.WrittenSchemas.{Part, of_field, of_dictionary, of_extension, KindFits}
use Rattle.arrow_types.specs.UnionIds.{are_right}
use Rattle.ipc_write.specs.Below.{is_leaf_kind, is_carried, are_carried}
use Rattle.arrow_spec.specs.Features.{float_faults, floats_in}
use Rattle.arrow_spec.proofs.Fewer.{none_first, none_second}
use Rattle.laws_columns.specs.Laws.{FittingFieldsAreCarried}

integer_is_leaf : (t : IntegerType) → is_leaf_kind (integer t) ≡ true
integer_is_leaf Int8 = refl
integer_is_leaf t = refl

mutual
  kind_carried : (at : Part) (levels : ℕ) (k : Kind) → float_faults k ≡ [] → KindFits at levels k → is_carried k ≡ true
  kind_carried at levels (integer t) h fit = integer_is_leaf t
  kind_carried at levels (interval YearMonth) h fit = refl
  kind_carried at levels (binary small) h fit = refl
  kind_carried at levels (binary large) h fit = refl
  kind_carried at levels (utf8 small) h fit = refl
  kind_carried at levels (utf8 large) h fit = refl
  kind_carried at levels (fixed_size_binary n) h fit = lt-ltb 0 n fit.0
  kind_carried at levels («list» o fs) h fit = and_from (nat_eq (width fs) 1) (are_carried fs) (eq-eqb (width fs) 1 fit.0) (fields_carried levels fs h fit.1)
  kind_carried at levels (fixed_size_list size fs) h fit =
      and_from (nat_eq (width fs) 1 && nat_lt 0 size) (are_carried fs) (and_from (nat_eq (width fs) 1) (nat_lt 0 size) (eq-eqb (width fs) 1 fit.0) (lt-ltb 0 size fit.1)) (fields_carried levels fs h fit.3)
  kind_carried at levels (struct fs) h fit = fields_carried levels fs h fit
  kind_carried at levels (map sorted fs) h fit =
      and_from (nat_eq (width fs) 1 && first_is_struct_of_two fs) (are_carried fs) (and_from (nat_eq (width fs) 1) (first_is_struct_of_two fs) (eq-eqb (width fs) 1 fit.0) fit.1) (fields_carried levels fs h fit.2)
  kind_carried at levels (union mode stated ids fs) h fit = and_from (are_right ids (width fs)) (are_carried fs) fit.0 (fields_carried levels fs h fit.2)
  kind_carried at levels (float t) h fit = cc
  kind_carried at levels (decimal256 precision scale) h fit = cc
  kind_carried of_field levels (dictionary t ordered id k) h fit = kind_carried of_dictionary levels k h fit
  kind_carried of_dictionary levels (dictionary t ordered id k) h fit = absurd fit
  kind_carried of_extension levels (dictionary t ordered id k) h fit = absurd fit
  kind_carried of_field levels (extension name metadata k) h fit = kind_carried of_extension levels k h fit.2
  kind_carried of_dictionary levels (extension name metadata k) h fit = kind_carried of_extension levels k h fit.2
  kind_carried of_extension levels (extension name metadata k) h fit = absurd fit
  kind_carried at levels k h fit = refl

  pub fields_carried : FittingFieldsAreCarried
  fields_carried levels none h fit = refl
  fields_carried zero (field name nullable metadata k others) h fit = absurd fit
  fields_carried (suc levels) (field name nullable metadata k others) h fit =
      and_from (is_carried k) (are_carried others) (kind_carried of_field levels k (none_first (float_faults k) (floats_in others) h) fit.2) (fields_carried (suc levels) others (none_second (float_faults k) (floats_in others) h) fit.3)
