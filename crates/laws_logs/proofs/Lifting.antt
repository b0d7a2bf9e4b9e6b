-- Records of bytes as batches.
use Rattle.std.proofs.Common.{◌≡◌, ℕ, List, [], ◌∷◌, ◌++◌, Option, Some, refl, sym, ◌∙◌, ap, subst, inl, inr, ⊎_elim, arith, zero, suc, length, take}
use Rattle.arrow_spec.specs.Files.{ArrowTable, TableBatch}
use Rattle.arrow_spec.specs.Kinds.{Fields}
use Rattle.ipc_log_disk.specs.Crashes.{Images}
use Rattle.ipc_record_log.specs.Logs.{Holds}
use Rattle.ipc_record_log.specs.Records.{HasFront, IsBeforeOrAfter, log_records}
use Rattle.laws_logs.specs.Tables.{AreBatches, AreRecords, HoldsTable, IsRecordOf, MeansBeforeOrAfter, MeansFront, MeansLog, table_of, with_batch, with_batches}

same_table : {fields fields' : Fields} {xs ys : List TableBatch} {r : List ℕ} → (h : IsRecordOf fields xs r) (k : IsRecordOf fields' ys r) → h.table ≡ k.table
same_table h k = let is : Some h.table ≡ Some k.table = sym h.means ∙ k.means in cc

same_batches : (fields : Fields) (records : List (List ℕ)) (xs ys : List TableBatch) → AreBatches fields records xs → AreBatches fields records ys → xs ≡ ys
same_batches fields [] [] [] h k = refl
same_batches fields [] [] (y ∷ ys) h k = absurd k
same_batches fields [] (x ∷ xs) ys h k = absurd h
same_batches fields (r ∷ records) [] ys h k = absurd h
same_batches fields (r ∷ records) (x ∷ xs) [] h k = absurd k
same_batches fields (r ∷ records) (x ∷ xs) (y ∷ ys) h k =
    let one : x ∷ [] ≡ y ∷ [] = sym h.0.same_batches ∙ ap (λ (t : ArrowTable). t.batches) (same_table h.0 k.0) ∙ k.0.same_batches in
    let rest = same_batches fields records xs ys h.1 k.1 in
    cc

same_meaning : (fields fields' : Fields) (records : List (List ℕ)) (xs ys : List TableBatch) → AreRecords fields records xs → AreRecords fields' records ys → table_of fields xs ≡ table_of fields' ys
same_meaning fields fields' [] xs ys h k = absurd h
same_meaning fields fields' (first ∷ records) xs ys h k =
    let one : fields ≡ fields' = sym h.0.same_fields ∙ ap (λ (t : ArrowTable). t.fields) (same_table h.0 k.0) ∙ k.0.same_fields in
    let h' : AreBatches fields' records xs = subst (λ (f : Fields). AreBatches f records xs) one h.1 in
    let rest = same_batches fields' records xs ys h' k.1 in
    ap (λ (f : Fields). table_of f xs) one ∙ ap (λ (l : List TableBatch). table_of fields' l) rest

pub one_meaning : (b : List ℕ) (t u : ArrowTable) → MeansLog b t → MeansLog b u → t ≡ u
one_meaning b t u h k =
    let same : h.records ≡ k.records = let is : Some h.records ≡ Some k.records = sym h.framed ∙ k.framed in cc in
    h.is ∙ same_meaning h.fields k.fields k.records h.batches k.batches (subst (λ (l : List (List ℕ)). AreRecords h.fields l h.batches) same h.are) k.are ∙ sym k.is

more_batches : (fields : Fields) (records : List (List ℕ)) (xs : List TableBatch) (r : List ℕ) (x : TableBatch) → AreBatches fields records xs → IsRecordOf fields (x ∷ []) r → AreBatches fields (records ++ r ∷ []) (xs ++ x ∷ [])
more_batches fields [] [] r x h k = (k, tt)
more_batches fields [] (y ∷ ys) r x h k = absurd h
more_batches fields (q ∷ records) [] r x h k = absurd h
more_batches fields (q ∷ records) (y ∷ ys) r x h k = (h.0, more_batches fields records ys r x h.1 k)

more_records : (fields : Fields) (records : List (List ℕ)) (xs : List TableBatch) (r : List ℕ) (x : TableBatch) → AreRecords fields records xs → IsRecordOf fields (x ∷ []) r → AreRecords fields (records ++ r ∷ []) (xs ++ x ∷ [])
more_records fields [] xs r x h k = absurd h
more_records fields (first ∷ records) xs r x h k = (h.0, more_batches fields records xs r x h.1 k)

pub one_batch_more : (b c r : List ℕ) (t : ArrowTable) (x : TableBatch) (records : List (List ℕ)) → MeansLog b t → log_records b ≡ Some records → IsRecordOf t.fields (x ∷ []) r → log_records c ≡ Some (records ++ r ∷ []) → MeansLog c (with_batch t x)
one_batch_more b c r t x records h framed k more =
    let same : h.records ≡ records = let is : Some h.records ≡ Some records = sym h.framed ∙ framed in cc in
    let k' : IsRecordOf h.fields (x ∷ []) r = subst (λ (u : ArrowTable). IsRecordOf u.fields (x ∷ []) r) h.is k in
    record {
      fields = h.fields;
      batches = h.batches ++ x ∷ [];
      is = ap (λ (u : ArrowTable). with_batch u x) h.is;
      records = records ++ r ∷ [];
      framed = more;
      are = subst (λ (l : List (List ℕ)). AreRecords h.fields (l ++ r ∷ []) (h.batches ++ x ∷ [])) same (more_records h.fields h.records h.batches r x h.are k');
    }

pub same_records : (b c : List ℕ) (t : ArrowTable) → MeansLog b t → log_records c ≡ log_records b → MeansLog c t
same_records b c t h same = record { fields = h.fields; batches = h.batches; is = h.is; records = h.records; framed = same ∙ h.framed; are = h.are }

-- ── on a disk ──

pub records_are_table : (content : Option (List ℕ)) (images : Images) (b : List ℕ) (t : ArrowTable) (records : List (List ℕ)) → MeansLog b t → log_records b ≡ Some records → Holds content images records → HoldsTable content images t
records_are_table content images b t records m framed h = record {
  b = h.b;
  told = h.told;
  means = same_records b h.b t m (h.means ∙ sym framed);
  durable = λ c left. same_records b c t m (h.durable c left ∙ sym framed);
}

pub more_records_are_table : (content : Option (List ℕ)) (images : Images) (b r : List ℕ) (t : ArrowTable) (x : TableBatch) (records : List (List ℕ)) → MeansLog b t → log_records b ≡ Some records → IsRecordOf t.fields (x ∷ []) r
    → Holds content images (records ++ r ∷ []) → HoldsTable content images (with_batch t x)
more_records_are_table content images b r t x records m framed k h = record {
  b = h.b;
  told = h.told;
  means = one_batch_more b h.b r t x records m framed k h.means;
  durable = λ c left. one_batch_more b c r t x records m framed k (h.durable c left);
}

pub crashed_append : (b c r : List ℕ) (t : ArrowTable) (x : TableBatch) (records : List (List ℕ)) → MeansLog b t → log_records b ≡ Some records → IsRecordOf t.fields (x ∷ []) r → IsBeforeOrAfter records r c → MeansBeforeOrAfter t x c
crashed_append b c r t x records m framed k is = ⊎_elim
    (λ before. inl (same_records b c t m (before ∙ sym framed)))
    (λ behind. inr (one_batch_more b c r t x records m framed k behind))
    is

-- ── over a whole run ──

taken_batches : (fields : Fields) (records : List (List ℕ)) (xs : List TableBatch) (n : ℕ) → AreBatches fields records xs → AreBatches fields (take n records) (take n xs)
taken_batches fields records xs zero h = tt
taken_batches fields [] [] (suc n) h = tt
taken_batches fields [] (x ∷ xs) (suc n) h = absurd h
taken_batches fields (r ∷ records) [] (suc n) h = absurd h
taken_batches fields (r ∷ records) (x ∷ xs) (suc n) h = (h.0, taken_batches fields records xs n h.1)

joined_batches : (fields : Fields) (records more : List (List ℕ)) (xs ys : List TableBatch) → AreBatches fields records xs → AreBatches fields more ys → AreBatches fields (records ++ more) (xs ++ ys)
joined_batches fields [] more [] ys h k = k
joined_batches fields [] more (x ∷ xs) ys h k = absurd h
joined_batches fields (r ∷ records) more [] ys h k = absurd h
joined_batches fields (r ∷ records) more (x ∷ xs) ys h k = (h.0, joined_batches fields records more xs ys h.1 k)

joined_records : (fields : Fields) (records more : List (List ℕ)) (xs ys : List TableBatch) → AreRecords fields records xs → AreBatches fields more ys → AreRecords fields (records ++ more) (xs ++ ys)
joined_records fields [] more xs ys h k = absurd h
joined_records fields (first ∷ records) more xs ys h k = (h.0, joined_batches fields records more xs ys h.1 k)

as_many : (fields : Fields) (records : List (List ℕ)) (xs : List TableBatch) → AreBatches fields records xs → length records ≡ length xs
as_many fields [] [] h = refl
as_many fields [] (x ∷ xs) h = absurd h
as_many fields (r ∷ records) [] h = absurd h
as_many fields (r ∷ records) (x ∷ xs) h = ap (λ (n : ℕ). suc n) (as_many fields records xs h.1)

pub crashed_run : (b c : List ℕ) (t : ArrowTable) (records more : List (List ℕ)) (xs : List TableBatch) → MeansLog b t → log_records b ≡ Some records → AreBatches t.fields more xs → HasFront records more c → MeansFront t xs c
crashed_run b c t records more xs h framed k front =
    let same : h.records ≡ records = let is : Some h.records ≡ Some records = sym h.framed ∙ framed in cc in
    let k' : AreBatches h.fields more xs = subst (λ (u : ArrowTable). AreBatches u.fields more xs) h.is k in
    record {
      count = front.count;
      few = omega (arith, front.few, as_many t.fields more xs k);
      means = record {
        fields = h.fields;
        batches = h.batches ++ take front.count xs;
        is = ap (λ (u : ArrowTable). with_batches u (take front.count xs)) h.is;
        records = records ++ take front.count more;
        framed = front.means;
        are = subst (λ (l : List (List ℕ)). AreRecords h.fields (l ++ take front.count more) (h.batches ++ take front.count xs)) same
            (joined_records h.fields h.records (take front.count more) h.batches (take front.count xs) h.are (taken_batches h.fields more xs front.count k'));
      };
    }
