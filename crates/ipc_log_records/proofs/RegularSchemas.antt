-- A schema that may be written is regular.
use Rattle.std.proofs.Common.{◌≡◌, ℕ, zero, suc, ◌+◌, List, [], ◌∷◌, ◌++◌, length, Some, None, true, refl, ap, arith, length-append}
use Rattle.std.specs.Prelude.{nat_eq, nat_le, nat_lt, sum_by}
use Rattle.std.proofs.lemmas.Bool.{and_from, and_parts, eq-eqb, le-leb, lt-ltb}
use Rattle.std.proofs.lemmas.List.Sums.{sum_by-append, sum_by-cons}
use Rattle.arrow_spec.specs.declared.types.TimeUnit.{TimeUnit}
use Rattle.arrow_spec.specs.declared.types.TimeUnit.TheVariants.{Microsecond, Millisecond, Nanosecond, Second}
use Rattle.arrow_spec.specs.Kinds as kind
use Rattle.arrow_spec.specs.Kinds.{Kind, Fields, Metadata, none, field, unit_number, width}
use Rattle.arrow_spec.specs.Regular.{Standing, are_regular, fields_below, fields_from, is_no_extension, is_regular_field, is_regular_kind, pairs_of_field, regular}
use Rattle.arrow_spec.specs.Schema.{Before, first_is_struct_of_two}
use Rattle.arrow_spec.specs.WrittenSchemas.{AreFieldPairs, FieldsFit, KindFits, Part, SchemaMayBeWritten, after_fields, after_kind, of_dictionary, of_extension, of_field, pairs_for}
use Rattle.arrow_spec.proofs.ExtensionPairs.{own_same}

-- ── counts ──

pairs_count : (level levels : ℕ) (k : Kind) (m : Metadata) → AreFieldPairs m → KindFits of_field levels k → length (pairs_for k m) ≡ pairs_of_field (record { level = level; metadata = m; kind = k })
pairs_count level levels (kind.extension name None k) m h fit = omega (arith, ap length (own_same m h))
pairs_count level levels (kind.extension name (Some x) k) m h fit = omega (arith, ap length (own_same m h))
pairs_count level levels (kind.dictionary t ordered id (kind.extension name None k)) m h fit = omega (arith, ap length (own_same m h))
pairs_count level levels (kind.dictionary t ordered id (kind.extension name (Some x) k)) m h fit = omega (arith, ap length (own_same m h))
pairs_count level levels (kind.dictionary t ordered id (kind.dictionary u o i k)) m h fit = absurd fit
pairs_count level levels (kind.dictionary t ordered id k) m h fit = omega (arith, ap length (own_same m h))
pairs_count level levels k m h fit = omega (arith, ap length (own_same m h))

-- so many fields and pairs more
record Counted (p q : Before) (xs : List Standing) : Type 0 where
  fields : q.fields ≡ p.fields + length xs
  pairs : q.pairs ≡ p.pairs + sum_by (λ f. pairs_of_field f) xs

none_counted : (p : Before) → Counted p p []
none_counted p = record { fields = omega arith; pairs = omega arith }

mutual
  kind_counted : (k : Kind) (at : Part) (levels level : ℕ) (p : Before) → KindFits at levels k → Counted p (after_kind k p) (fields_below level k)
  kind_counted (kind.«list» o fs) at levels level p fit = fields_counted fs levels (suc level) p fit.1
  kind_counted (kind.fixed_size_list n fs) at levels level p fit = fields_counted fs levels (suc level) p fit.3
  kind_counted (kind.struct fs) at levels level p fit = fields_counted fs levels (suc level) p fit
  kind_counted (kind.map sorted fs) at levels level p fit = fields_counted fs levels (suc level) p fit.2
  kind_counted (kind.union mode stated ids fs) at levels level p fit = fields_counted fs levels (suc level) p fit.2
  kind_counted (kind.dictionary t ordered id k) of_field levels level p fit = kind_counted k of_dictionary levels level p fit
  kind_counted (kind.dictionary t ordered id k) of_dictionary levels level p fit = absurd fit
  kind_counted (kind.dictionary t ordered id k) of_extension levels level p fit = absurd fit
  kind_counted (kind.extension name metadata k) of_field levels level p fit = kind_counted k of_extension levels level p fit.2
  kind_counted (kind.extension name metadata k) of_dictionary levels level p fit = kind_counted k of_extension levels level p fit.2
  kind_counted (kind.extension name metadata k) of_extension levels level p fit = absurd fit
  kind_counted k at levels level p fit = none_counted p

  fields_counted : (fs : Fields) (levels level : ℕ) (p : Before) → FieldsFit levels fs → Counted p (after_fields fs p) (fields_from level fs)
  fields_counted none levels level p fit = none_counted p
  fields_counted (field name nullable metadata k others) zero level p fit = absurd fit
  fields_counted (field name nullable metadata k others) (suc levels) level p fit =
      let here : Before = record { fields = suc p.fields; pairs = p.pairs + length (pairs_for k metadata) } in
      let mine : Standing = record { level = level; metadata = metadata; kind = k } in
      let below = kind_counted k of_field levels level here fit.2 in
      let rest = fields_counted others (suc levels) level (after_kind k here) fit.3 in
      let all = sum_by-append (λ f. pairs_of_field f) (fields_below level k) (fields_from level others) in
      record {
        fields = omega (arith, below.fields, rest.fields, length-append (fields_below level k) (fields_from level others));
        pairs = omega (arith, below.pairs, rest.pairs, all, pairs_count level levels k metadata fit.1 fit.2, sum_by-cons (λ f. pairs_of_field f) mine (fields_below level k ++ fields_from level others));
      }

-- ── kinds ──

low_unit : (u : TimeUnit) → nat_lt (unit_number u) 2 ≡ true → nat_le (unit_number u) 1 ≡ true
low_unit Second h = refl
low_unit Millisecond h = refl
low_unit Microsecond h = cc
low_unit Nanosecond h = cc

no_extension : (k : Kind) (levels : ℕ) → KindFits of_extension levels k → is_no_extension k ≡ true
no_extension (kind.extension name metadata k) levels fit = absurd fit
no_extension k levels fit = refl

regular_kind : (k : Kind) (at : Part) (levels : ℕ) → KindFits at levels k → is_regular_kind k ≡ true
regular_kind (kind.time32 u) at levels fit = low_unit u fit
regular_kind (kind.time64 u) at levels fit = fit
regular_kind (kind.fixed_size_binary n) at levels fit = lt-ltb 0 n fit.0
regular_kind (kind.«list» o fs) at levels fit = eq-eqb (width fs) 1 fit.0
regular_kind (kind.fixed_size_list n fs) at levels fit = and_from (nat_lt 0 n) (nat_eq (width fs) 1) (lt-ltb 0 n fit.1) (eq-eqb (width fs) 1 fit.0)
regular_kind (kind.map sorted fs) at levels fit = and_from (nat_eq (width fs) 1) (first_is_struct_of_two fs) (eq-eqb (width fs) 1 fit.0) fit.1
regular_kind (kind.dictionary t ordered id k) of_field levels fit = regular_kind k of_dictionary levels fit
regular_kind (kind.dictionary t ordered id k) of_dictionary levels fit = absurd fit
regular_kind (kind.dictionary t ordered id k) of_extension levels fit = absurd fit
regular_kind (kind.extension name metadata k) of_field levels fit = and_from (is_no_extension k) (is_regular_kind k) (no_extension k levels fit.2) (regular_kind k of_extension levels fit.2)
regular_kind (kind.extension name metadata k) of_dictionary levels fit = and_from (is_no_extension k) (is_regular_kind k) (no_extension k levels fit.2) (regular_kind k of_extension levels fit.2)
regular_kind (kind.extension name metadata k) of_extension levels fit = absurd fit
regular_kind k at levels fit = refl

-- ── fields ──

both_regular : (xs ys : List Standing) → are_regular xs ≡ true → are_regular ys ≡ true → are_regular (xs ++ ys) ≡ true
both_regular [] ys h k = k
both_regular (x ∷ xs) ys h k =
    let parts = and_parts (is_regular_field x) (are_regular xs) h in
    and_from (is_regular_field x) (are_regular (xs ++ ys)) parts.0 (both_regular xs ys parts.1 k)

mutual
  kind_regular : (k : Kind) (at : Part) (levels level : ℕ) → level + levels ≡ 64 → KindFits at levels k → are_regular (fields_below level k) ≡ true
  kind_regular (kind.«list» o fs) at levels level e fit = fields_regular fs levels (suc level) (omega (arith, e)) fit.1
  kind_regular (kind.fixed_size_list n fs) at levels level e fit = fields_regular fs levels (suc level) (omega (arith, e)) fit.3
  kind_regular (kind.struct fs) at levels level e fit = fields_regular fs levels (suc level) (omega (arith, e)) fit
  kind_regular (kind.map sorted fs) at levels level e fit = fields_regular fs levels (suc level) (omega (arith, e)) fit.2
  kind_regular (kind.union mode stated ids fs) at levels level e fit = fields_regular fs levels (suc level) (omega (arith, e)) fit.2
  kind_regular (kind.dictionary t ordered id k) of_field levels level e fit = kind_regular k of_dictionary levels level e fit
  kind_regular (kind.dictionary t ordered id k) of_dictionary levels level e fit = absurd fit
  kind_regular (kind.dictionary t ordered id k) of_extension levels level e fit = absurd fit
  kind_regular (kind.extension name metadata k) of_field levels level e fit = kind_regular k of_extension levels level e fit.2
  kind_regular (kind.extension name metadata k) of_dictionary levels level e fit = kind_regular k of_extension levels level e fit.2
  kind_regular (kind.extension name metadata k) of_extension levels level e fit = absurd fit
  kind_regular k at levels level e fit = refl

  fields_regular : (fs : Fields) (levels level : ℕ) → level + levels ≡ 65 → FieldsFit levels fs → are_regular (fields_from level fs) ≡ true
  fields_regular none levels level e fit = refl
  fields_regular (field name nullable metadata k others) zero level e fit = absurd fit
  fields_regular (field name nullable metadata k others) (suc levels) level e fit =
      let mine : Standing = record { level = level; metadata = metadata; kind = k } in
      let here = and_from (nat_le level 64) (is_regular_kind k) (le-leb level 64 (omega (arith, e))) (regular_kind k of_field levels fit.2) in
      and_from (is_regular_field mine) (are_regular (fields_below level k ++ fields_from level others)) here
      (both_regular (fields_below level k) (fields_from level others) (kind_regular k of_field levels level (omega (arith, e)) fit.2) (fields_regular others (suc levels) level e fit.3))

pub may_regular : (fs : Fields) (pairs : Metadata) → SchemaMayBeWritten fs pairs → regular fs pairs ≡ true
may_regular fs pairs may =
    let counted = fields_counted fs 64 1 (record { fields = 0; pairs = length pairs }) may.fit in
    let few : nat_le (length (fields_from 1 fs)) 65536 ≡ true = le-leb (length (fields_from 1 fs)) 65536 (omega (arith, counted.fields, may.few_fields)) in
    let few_pairs : nat_le (length pairs + sum_by (λ f. pairs_of_field f) (fields_from 1 fs)) 1048576 ≡ true
    = le-leb (length pairs + sum_by (λ f. pairs_of_field f) (fields_from 1 fs)) 1048576 (omega (arith, counted.pairs, may.few_pairs)) in
    and_from _ _ (and_from _ _ (and_from _ _ few few_pairs) (fields_regular fs 64 1 refl may.fit)) may.distinct
