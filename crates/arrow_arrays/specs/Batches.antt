-- What a record batch is seen as, and why columns make none. (Arrow Columnar Format, "RecordBatch message".)
use Rattle.std.specs.Prelude.{◌≡◌, ℕ, ◌≤◌, List, Bool, Option, Some, None, length, nat_eq, not, if◌then◌else◌, refl}
use Rattle.std.specs.List.{list_all}
use Rattle.std.specs.Coded.{Coded, code_by, coded×, coded_ℕ, coded_list}
use Rattle.arrow_spec.specs.Kinds.{Metadata}
use Rattle.arrow_types.specs.KindCode.{pairs_code}
use Rattle.arrow_types.specs.Schemas.{Keyed, schema_code}
use Rattle.arrow_arrays.specs.Parts.{Parts, rows_in, forest, fault_each}
use Rattle.arrow_arrays.specs.PartsCode.{parts_code}
use Rattle.arrow_arrays.specs.declared.record_batch.BatchError.{BatchError}
use Rattle.arrow_arrays.specs.declared.record_batch.BatchError.TheVariants.{Width, Height}

-- how many rows there are, the schema's keys and fields, the parts of each column, and the pairs of the batch's message
pub record Batch : Type 0 where
  pub height : ℕ
  pub schema : List Keyed
  pub arrays : List Parts
  pub custom : Metadata

-- such a record is stored as its fields
abbrev pub batch_code : Coded Batch
batch_code = code_by (ℕ × (List Keyed × (List Parts × Metadata))) (coded× coded_ℕ (coded× schema_code (coded× (coded_list parts_code) pairs_code)))
    (λ b. (b.height, (b.schema, (b.arrays, b.custom)))) (λ p. record { height = p.0; schema = p.1.0; arrays = p.1.1.0; custom = p.1.1.1 }) (λ _. refl)

-- each array has so many rows
abbrev pub have_rows : ℕ → List Parts → Bool
have_rows height = list_all (λ p. nat_eq (rows_in p) height)

-- why columns make no batch: they are not as many as the fields, or one is not of the height
abbrev pub batch_fault : Batch → Option BatchError
batch_fault b =
    if not (nat_eq (length b.schema) (length b.arrays)) then Some Width
    else (if not (have_rows b.height b.arrays) then Some Height
    else None)

-- what holds of every batch
pub record IsBatch (b : Batch) : Type 0 where
  pub columns : batch_fault b ≡ None
  pub sound : fault_each (forest b.arrays) ≡ None
  pub few : length b.custom ≤ 1048576
