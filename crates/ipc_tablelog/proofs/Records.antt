-- The records of a log as the batches of its table.
use Rattle.std.proofs.Common.{◌≡◌, ℕ, zero, suc, ◌+◌, ◌<◌, List, [], ◌∷◌, length, Option, Some, refl, sym, ◌∙◌, ap, subst, arith}
use Rattle.std.specs.Prelude.{slice_get}
use Rattle.arrow_spec.specs.Files.{ArrowTable, TableBatch}
use Rattle.arrow_spec.specs.Kinds.{Fields}
use Rattle.ipc_record_log.specs.Records.{log_records, records_in}
use Rattle.laws_logs.specs.Tables.{AreBatches, AreRecords, IsRecordOf, MeansLog, table_of}
use Rattle.ipc_tablelog.specs.Opened.{AreOnes, IsFirst, IsOne}

-- where records have a batch each, they have batches
ones_are : (fields : Fields) (records : List (List ℕ)) → ((r : List ℕ) (k : ℕ) → k < length records → slice_get records k ≡ Some r → IsOne fields r) → (xs : List TableBatch) × AreBatches fields records xs
ones_are fields [] h = ([], tt)
ones_are fields (r ∷ records) h =
    let one = h r 0 (omega arith) refl in
    let others = ones_are fields records (λ q k less is. h q (suc k) (omega (arith, less)) is) in
    (one.0 ∷ others.0, (one.1, others.1))

-- a log of records that were all read
pub log_read : (b : List ℕ) (fields : Fields) (records : List (List ℕ)) → log_records b ≡ Some records → 0 < length records
    → ((r : List ℕ) → slice_get records 0 ≡ Some r → IsRecordOf fields [] r)
    → ((r : List ℕ) (k : ℕ) → 0 < k → k < length records → slice_get records k ≡ Some r → IsOne fields r) → (xs : List TableBatch) × MeansLog b (table_of fields xs)
log_read b fields [] framed some first ones = absurd (omega arith)
log_read b fields (r ∷ records) framed some first ones =
    let others = ones_are fields records (λ q k less is. ones q (suc k) (omega arith) (omega (arith, less)) is) in
    (others.0, record { fields = fields; batches = others.0; is = refl; records = r ∷ records; framed = framed; are = (first r refl, others.1) })

-- the batch of a later record
one_of : (fields : Fields) (records : List (List ℕ)) (xs : List TableBatch) (i : ℕ) (r : List ℕ) → AreBatches fields records xs → slice_get records i ≡ Some r
    → (x : TableBatch) × (slice_get xs i ≡ Some x) × IsRecordOf fields (x ∷ []) r
one_of fields [] xs i r h is = cc
one_of fields (q ∷ records) [] i r h is = absurd h
one_of fields (q ∷ records) (x ∷ xs) zero r h is = let same : q ≡ r = cc in (x, refl, subst (IsRecordOf fields (x ∷ [])) same h.0)
one_of fields (q ∷ records) (x ∷ xs) (suc i) r h is = one_of fields records xs i r h.1 is

as_many : (fields : Fields) (records : List (List ℕ)) (xs : List TableBatch) → AreBatches fields records xs → length records ≡ length xs
as_many fields [] [] h = refl
as_many fields [] (x ∷ xs) h = absurd h
as_many fields (r ∷ records) [] h = absurd h
as_many fields (r ∷ records) (x ∷ xs) h = ap suc (as_many fields records xs h.1)

-- a record of a log that means a table, by its number
later_of : (fields : Fields) (records : List (List ℕ)) (xs : List TableBatch) (i : ℕ) (r : List ℕ) → AreRecords fields records xs → slice_get records (suc i) ≡ Some r
    → (x : TableBatch) × (slice_get xs i ≡ Some x) × IsRecordOf fields (x ∷ []) r
later_of fields [] xs i r h is = absurd h
later_of fields (first ∷ records) xs i r h is = one_of fields records xs i r h.1 is

first_of : (fields : Fields) (records : List (List ℕ)) (xs : List TableBatch) (r : List ℕ) → AreRecords fields records xs → slice_get records 0 ≡ Some r → IsRecordOf fields [] r
first_of fields [] xs r h is = absurd h
first_of fields (first ∷ records) xs r h is = let same : first ≡ r = cc in subst (IsRecordOf fields []) same h.0

records_count : (fields : Fields) (records : List (List ℕ)) (xs : List TableBatch) → AreRecords fields records xs → length records ≡ suc (length xs)
records_count fields [] xs h = absurd h
records_count fields (first ∷ records) xs h = ap suc (as_many fields records xs h.1)

module _ (b : List ℕ) (t : ArrowTable) (m : MeansLog b t) where
  same : records_in b ≡ m.records
  same = rw m.framed refl

  same_fields : m.fields ≡ t.fields
  same_fields = ap (λ (u : ArrowTable). u.fields) (sym m.is)

  same_batches : m.batches ≡ t.batches
  same_batches = ap (λ (u : ArrowTable). u.batches) (sym m.is)

  are : AreRecords t.fields (records_in b) t.batches
  are =
      let a : AreRecords t.fields m.records m.batches = subst (λ (f : Fields). AreRecords f m.records m.batches) same_fields m.are in
      let c : AreRecords t.fields (records_in b) m.batches = subst (λ (l : List (List ℕ)). AreRecords t.fields l m.batches) (sym same) a in
      subst (AreRecords t.fields (records_in b)) same_batches c

  pub later : (i : ℕ) (r : List ℕ) → slice_get (records_in b) (suc i) ≡ Some r → (x : TableBatch) × (slice_get t.batches i ≡ Some x) × IsRecordOf t.fields (x ∷ []) r
  later i r is = later_of t.fields (records_in b) t.batches i r are is

  pub first : (r : List ℕ) → slice_get (records_in b) 0 ≡ Some r → IsRecordOf t.fields [] r
  first r is = first_of t.fields (records_in b) t.batches r are is

  pub count : length (records_in b) ≡ suc (length t.batches)
  count = records_count t.fields (records_in b) t.batches are

  pub framed : log_records b ≡ Some (records_in b)
  framed = m.framed ∙ ap (λ (l : List (List ℕ)). Some l) (sym same)
