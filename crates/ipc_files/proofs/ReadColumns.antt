-- The columns of a schema that may be written may be read or refused, whatever ids they have, and so may the values of its dictionaries.
use Rattle.std.proofs.Common.{◌≡◌, ℕ, zero, suc, List, [], ◌∷◌, ◌++◌, Bool, true, false, ◌&&◌, ◌||◌, not, Option, Some, None, IfSome, ℤ, refl, sym, ap, ◌∙◌}
use Rattle.std.specs.Prelude.{nat_eq, nat_lt, if◌then◌else◌}
use Rattle.std.specs.List.{AllByRecursion}
use Rattle.std.proofs.lemmas.Bool.{and_from, and_parts, eq-eqb, lt-ltb}
use Rattle.arrow_spec.specs.Columns.{is_chosen}
use Rattle.arrow_spec.specs.Kinds as kind
use Rattle.arrow_spec.specs.Kinds.{Kind, Fields, Use, none, field, small, large, same, uses_in, uses_of, values_under, width}
use Rattle.arrow_spec.specs.Schema.{first_is_struct_of_two, is_struct_of_two}
use Rattle.arrow_spec.specs.WrittenSchemas.{FieldsFit, KindFits, Part, of_field, of_dictionary, of_extension}
use Rattle.arrow_types.specs.Schemas.{Keyed, fields_in}
use Rattle.arrow_types.specs.UnionIds.{are_right}
use Rattle.ipc_fields.specs.IpcFields.{Ids, no_fields, ids, fields_with, kind_with}
use Rattle.ipc_read.specs.Batches.{are_column_fields, are_column_kinds, is_column_kind}
use Rattle.ipc_projection.specs.Below.{values_of_id}

-- ── kinds that fit ──

mutual
  fits_column : (at : Part) (levels : ℕ) (k : Kind) → KindFits at levels k → is_column_kind k ≡ true
  fits_column at levels (kind.«list» o fs) fit = and_from (nat_eq (width fs) 1) (are_column_fields fs) (eq-eqb (width fs) 1 fit.0) (fields_column levels fs fit.1)
  fits_column at levels (kind.fixed_size_list size fs) fit =
      and_from (nat_eq (width fs) 1 && nat_lt 0 size) (are_column_fields fs) (and_from (nat_eq (width fs) 1) (nat_lt 0 size) (eq-eqb (width fs) 1 fit.0) (lt-ltb 0 size fit.1)) (fields_column levels fs fit.3)
  fits_column at levels (kind.struct fs) fit = fields_column levels fs fit
  fits_column at levels (kind.map sorted fs) fit =
      and_from (nat_eq (width fs) 1 && first_is_struct_of_two fs) (are_column_fields fs) (and_from (nat_eq (width fs) 1) (first_is_struct_of_two fs) (eq-eqb (width fs) 1 fit.0) fit.1) (fields_column levels fs fit.2)
  fits_column at levels (kind.union mode stated types fs) fit = and_from (are_right types (width fs)) (are_column_fields fs) fit.0 (fields_column levels fs fit.2)
  fits_column of_field levels (kind.dictionary t ordered id k) fit = fits_column of_dictionary levels k fit
  fits_column of_dictionary levels (kind.dictionary t ordered id k) fit = absurd fit
  fits_column of_extension levels (kind.dictionary t ordered id k) fit = absurd fit
  fits_column of_field levels (kind.extension name metadata k) fit = fits_column of_extension levels k fit.2
  fits_column of_dictionary levels (kind.extension name metadata k) fit = fits_column of_extension levels k fit.2
  fits_column of_extension levels (kind.extension name metadata k) fit = absurd fit
  fits_column at levels (kind.fixed_size_binary n) fit = lt-ltb 0 n fit.0
  fits_column at levels (kind.binary small) fit = refl
  fits_column at levels (kind.binary large) fit = refl
  fits_column at levels (kind.utf8 small) fit = refl
  fits_column at levels (kind.utf8 large) fit = refl
  fits_column at levels k fit = refl

  pub fields_column : (levels : ℕ) (fs : Fields) → FieldsFit levels fs → are_column_fields fs ≡ true
  fields_column levels none fit = refl
  fields_column zero (field name nullable metadata k others) fit = absurd fit
  fields_column (suc levels) (field name nullable metadata k others) fit = and_from (is_column_kind k) (are_column_fields others) (fits_column of_field levels k fit.2) (fields_column (suc levels) others fit.3)

-- ── whatever ids they have ──

width_aside : (fs : Fields) (below : Ids) → width (fields_with fs below) ≡ width fs
width_aside none below = refl
width_aside (field name nullable metadata k others) no_fields = ap suc (width_aside others no_fields)
width_aside (field name nullable metadata k others) (ids id below rest) = ap suc (width_aside others rest)

two_kind : (k : Kind) (id : Option ℤ) (below : Ids) → is_struct_of_two (kind_with k id below) ≡ is_struct_of_two k
two_kind (kind.struct fs) id below = ap (λ n. nat_eq n 2) (width_aside fs below)
two_kind (kind.extension name metadata k) id below = two_kind k id below
two_kind k id below = refl

two_aside : (fs : Fields) (below : Ids) → first_is_struct_of_two (fields_with fs below) ≡ first_is_struct_of_two fs
two_aside none below = refl
two_aside (field name nullable metadata k others) no_fields = two_kind k None no_fields
two_aside (field name nullable metadata k others) (ids id below rest) = two_kind k id below

mutual
  column_aside : (k : Kind) (id : Option ℤ) (below : Ids) → is_column_kind (kind_with k id below) ≡ is_column_kind k
  column_aside (kind.«list» o fs) id below = rw (width_aside fs below, columns_aside fs below) refl
  column_aside (kind.fixed_size_list n fs) id below = rw (width_aside fs below, columns_aside fs below) refl
  column_aside (kind.struct fs) id below = columns_aside fs below
  column_aside (kind.map sorted fs) id below = rw (width_aside fs below, two_aside fs below, columns_aside fs below) refl
  column_aside (kind.union mode stated types fs) id below = rw (width_aside fs below, columns_aside fs below) refl
  column_aside (kind.dictionary t ordered old k) id below = column_aside k None below
  column_aside (kind.extension name metadata k) id below = column_aside k id below
  column_aside k id below = refl

  columns_aside : (fs : Fields) (below : Ids) → are_column_fields (fields_with fs below) ≡ are_column_fields fs
  columns_aside none below = refl
  columns_aside (field name nullable metadata k others) no_fields = rw (column_aside k None no_fields, columns_aside others no_fields) refl
  columns_aside (field name nullable metadata k others) (ids id below rest) = rw (column_aside k id below, columns_aside others rest) refl

-- so each column of a schema that is asked for may be read
asked_columns : (asked : Option (List ℕ)) (c : ℕ) (s : List Keyed) → are_column_fields (fields_in s) ≡ true → are_column_kinds asked c s ≡ true
asked_columns asked c [] h = refl
asked_columns asked c (x ∷ s) h =
    let both = and_parts (is_column_kind x.1.kind) (are_column_fields (fields_in s)) h in
    and_from (not (is_chosen asked c) || is_column_kind x.1.kind) (are_column_kinds asked (suc c) s) (either (is_chosen asked c) both.0) (asked_columns asked (suc c) s both.1)
  where
    either : (b : Bool) → is_column_kind x.1.kind ≡ true → (not b || is_column_kind x.1.kind) ≡ true
    either true g = g
    either false g = refl

pub columns_read : (asked : Option (List ℕ)) (s : List Keyed) (below : Ids) → are_column_fields (fields_with (fields_in s) below) ≡ true → are_column_kinds asked 0 s ≡ true
columns_read asked s below h = asked_columns asked 0 s (sym (columns_aside (fields_in s) below) ∙ h)

-- ── the values of dictionaries ──

abbrev MayBeRead : Use → Type 0
MayBeRead u = is_column_kind u.values ≡ true

join : (us vs : List Use) → AllByRecursion MayBeRead us → AllByRecursion MayBeRead vs → AllByRecursion MayBeRead (us ++ vs)
join [] vs h g = g
join (u ∷ us) vs h g = (h.0, join us vs h.1 g)

mutual
  uses_column : (k : Kind) → is_column_kind k ≡ true → AllByRecursion MayBeRead (uses_of k)
  uses_column (kind.«list» o fs) h = uses_columns fs (and_parts (nat_eq (width fs) 1) (are_column_fields fs) h).1
  uses_column (kind.fixed_size_list n fs) h = uses_columns fs (and_parts (nat_eq (width fs) 1 && nat_lt 0 n) (are_column_fields fs) h).1
  uses_column (kind.struct fs) h = uses_columns fs h
  uses_column (kind.map sorted fs) h = uses_columns fs (and_parts (nat_eq (width fs) 1 && first_is_struct_of_two fs) (are_column_fields fs) h).1
  uses_column (kind.union mode stated types fs) h = uses_columns fs (and_parts (are_right types (width fs)) (are_column_fields fs) h).1
  uses_column (kind.dictionary t ordered id k) h = (h, uses_column k h)
  uses_column (kind.extension name metadata k) h = uses_column k h
  uses_column k h = tt

  uses_columns : (fs : Fields) → are_column_fields fs ≡ true → AllByRecursion MayBeRead (uses_in fs)
  uses_columns none h = tt
  uses_columns (field name nullable metadata k others) h =
      let both = and_parts (is_column_kind k) (are_column_fields others) h in
      join (uses_of k) (uses_in others) (uses_column k both.0) (uses_columns others both.1)

under : (us : List Use) (id : ℤ) → AllByRecursion MayBeRead us → IfSome (values_under id us) (λ k. is_column_kind k ≡ true)
under [] id all = tt
under (u ∷ us) id all = by (same u.id id) (under us id all.1)
  where
    by : (b : Bool) → IfSome (values_under id us) (λ k. is_column_kind k ≡ true) → IfSome (if b then Some u.values else values_under id us) (λ k. is_column_kind k ≡ true)
    by true g = all.0
    by false g = g

pub values_read : (fs : Fields) (id : ℤ) → are_column_fields fs ≡ true → IfSome (values_of_id fs id) (λ k. is_column_kind k ≡ true)
values_read fs id h = under (uses_in fs) id (uses_columns fs h)
