-- A schema that may be written may be written with other pairs, where it is regular with them.
use Rattle.std.proofs.Common.{◌≡◌, ◌+◌, ◌≤◌, [], length, true, arith}
use Rattle.std.specs.Prelude.{nat_le, sum_by}
use Rattle.std.proofs.lemmas.Bool.{and_from, and_parts, le-leb, leb-true}
use Rattle.arrow_spec.specs.Kinds as kind
use Rattle.arrow_spec.specs.Kinds.{Fields, Metadata}
use Rattle.arrow_spec.specs.Schema.{has_distinct_names}
use Rattle.arrow_spec.specs.Regular.{are_regular, fields_from, pairs_of_field, regular}
use Rattle.arrow_spec.specs.WrittenSchemas.{Ascend, SchemaMayBeWritten, own_fields}
use Rattle.arrow_spec.proofs.RegularSchemas.{fields_counted}

pub schema_may_with : (fs : Fields) (own pairs : Metadata) → SchemaMayBeWritten (own_fields fs) own → regular fs pairs ≡ true → Ascend [] pairs → SchemaMayBeWritten (own_fields fs) pairs
schema_may_with fs own pairs w reg ascend =
    let names = and_parts _ _ reg in
    let fields = and_parts _ _ names.0 in
    let counts = and_parts _ _ fields.0 in
    let few : length (fields_from 1 fs) ≤ 65536 = leb-true (length (fields_from 1 fs)) 65536 counts.0 in
    let few_pairs : length pairs + sum_by (λ f. pairs_of_field f) (fields_from 1 fs) ≤ 1048576 = leb-true (length pairs + sum_by (λ f. pairs_of_field f) (fields_from 1 fs)) 1048576 counts.1 in
    let counted = fields_counted fs 1 (record { fields = 0; pairs = length pairs }) in
    record { fit = w.fit; ascend = ascend; few_fields = omega (arith, counted.fields, few); few_pairs = omega (arith, counted.pairs, few_pairs); distinct = w.distinct }

-- a schema that is regular with some pairs is regular without
pub regular_without : (fs : Fields) (pairs : Metadata) → regular fs pairs ≡ true → regular fs [] ≡ true
regular_without fs pairs reg =
    let names = and_parts _ _ reg in
    let fields = and_parts _ _ names.0 in
    let counts = and_parts _ _ fields.0 in
    let few : length pairs + sum_by (λ f. pairs_of_field f) (fields_from 1 fs) ≤ 1048576 = leb-true (length pairs + sum_by (λ f. pairs_of_field f) (fields_from 1 fs)) 1048576 counts.1 in
    let a : nat_le (length (fields_from 1 fs)) 65536 ≡ true = counts.0 in
    let b : nat_le (0 + sum_by (λ f. pairs_of_field f) (fields_from 1 fs)) 1048576 ≡ true = le-leb (0 + sum_by (λ f. pairs_of_field f) (fields_from 1 fs)) 1048576 (omega (arith, few)) in
    let c : are_regular (fields_from 1 fs) ≡ true = fields.1 in
    let d : has_distinct_names fs ≡ true = names.1 in
    and_from _ _ (and_from _ _ (and_from _ _ a b) c) d
