-- What a log of records means as a table: the first record is a stream that has the fields and no batch, and each later one a stream of one batch of the same fields.
use Rattle.std.specs.Prelude.{◌≡◌, ◌⊎◌, ℕ, zero, suc, ◌≤◌, List, [], ◌∷◌, ◌++◌, length, take, drop, nat_eq, nat_le, ⊤, Bool, true, false, Option, Some, None, Ok}
use Rattle.arrow_spec.specs.Files.{ArrowTable, TableBatch}
use Rattle.arrow_spec.specs.Kinds.{Fields}
use Rattle.arrow_spec.specs.Messages.{message_of}
use Rattle.arrow_spec.specs.Readings.{◌>>=◌, Reading}
use Rattle.arrow_spec.specs.Streams.{Framed, body_in, closed, next_message, stream_table}
use Rattle.ipc_log_disk.specs.Crashes.{Images}
use Rattle.ipc_record_log.specs.Logs.{Holds}
use Rattle.ipc_record_log.specs.Records.{HasFront, IsBeforeOrAfter, log_records}

-- what stands behind a message, and whether it is a dictionary
pub record Passed : Type 0 where
  pub rest : List ℕ
  pub is_dictionary : Bool

-- a message is passed over, with its body
unfoldable pub pass_of : Framed → Reading Passed
pass_of f = do
  m ← message_of f.metadata (λ tag. nat_le tag 3)
  body ← body_in f m
  Ok (record { rest = drop m.body f.behind; is_dictionary = nat_eq m.tag 2 })

-- the same of the next message, if there is one
abbrev pub pass_if_any : Option Framed → Reading (Option Passed)
pass_if_any None = Ok None
pass_if_any (Some f) = pass_of f >>= λ p. Ok (Some p)

-- the next message is passed over; there is none at an end mark or where fewer than four bytes are left
unfoldable pub next_pass : List ℕ → Reading (Option Passed)
next_pass b = next_message b >>= pass_if_any

-- one more, if it is a dictionary
abbrev pub counted_in : Bool → ℕ → ℕ
counted_in true n = suc n
counted_in false n = n

-- how many of the messages of a stream are dictionaries
unfoldable pub dictionaries_from : ℕ → List ℕ → Reading ℕ
dictionaries_from zero b = Ok 0
dictionaries_from (suc most) b = do
  next ← next_pass b
  elim next [ None ↦ Ok 0 | Some p ↦ dictionaries_from most p.rest >>= λ n. Ok (counted_in p.is_dictionary n) ]

-- a record is a closed stream of these fields and batches, with at most 2^20 dictionary messages
pub record IsRecordOf (fields : Fields) (batches : List TableBatch) (bytes : List ℕ) : Type 0 where
  pub whole : closed bytes
  pub table : ArrowTable
  pub means : stream_table bytes None ≡ Some table
  pub same_fields : table.fields ≡ fields
  pub same_batches : table.batches ≡ batches
  pub count : ℕ
  pub counted : dictionaries_from (length bytes) bytes ≡ Ok count
  pub few : count ≤ 1048576

-- each of the records has one batch of these fields
abbrev pub AreBatches : Fields → List (List ℕ) → List TableBatch → Type 0
AreBatches fields [] [] = ⊤
AreBatches fields [] (x ∷ xs) = ⊥
AreBatches fields (r ∷ rs) [] = ⊥
AreBatches fields (r ∷ rs) (x ∷ xs) = IsRecordOf fields (x ∷ []) r × AreBatches fields rs xs

-- the records of a log of these fields
abbrev pub AreRecords : Fields → List (List ℕ) → List TableBatch → Type 0
AreRecords fields [] batches = ⊥
AreRecords fields (first ∷ records) batches = IsRecordOf fields [] first × AreBatches fields records batches

-- the table of fields and batches, with no pairs
abbrev pub table_of : Fields → List TableBatch → ArrowTable
table_of fields batches = record { metadata = []; custom = []; fields = fields; batches = batches }

-- a log's bytes mean this table
pub record MeansLog (b : List ℕ) (t : ArrowTable) : Type 0 where
  pub fields : Fields
  pub batches : List TableBatch
  pub is : t ≡ table_of fields batches
  pub records : List (List ℕ)
  pub framed : log_records b ≡ Some records
  pub are : AreRecords fields records batches

-- the table with one batch more
abbrev pub with_batch : ArrowTable → TableBatch → ArrowTable
with_batch t x = record t { batches = t.batches ++ x ∷ [] }

-- the table with some batches more
abbrev pub with_batches : ArrowTable → List TableBatch → ArrowTable
with_batches t xs = record t { batches = t.batches ++ xs }

-- ── on a disk ──

-- the disk's bytes mean this table, and so does each image that a crash now may leave
pub record HoldsTable (content : Option (List ℕ)) (images : Images) (t : ArrowTable) : Type 0 where
  pub b : List ℕ
  pub told : content ≡ Some b
  pub means : MeansLog b t
  pub durable : (c : List ℕ) → images c → MeansLog c t

-- bytes mean this table, or it with one batch more
abbrev pub MeansBeforeOrAfter : ArrowTable → TableBatch → List ℕ → Type 0
MeansBeforeOrAfter t x c = MeansLog c t ⊎ MeansLog c (with_batch t x)

-- bytes mean this table with some of more batches, from their front, none skipped and none in part
pub record MeansFront (t : ArrowTable) (more : List TableBatch) (c : List ℕ) : Type 0 where
  pub count : ℕ
  pub few : count ≤ length more
  pub means : MeansLog c (with_batches t (take count more))

-- ── laws ──

-- bytes mean one table at most
abbrev pub OneMeaning : Type 0
OneMeaning = (b : List ℕ) (t u : ArrowTable) → MeansLog b t → MeansLog b u → t ≡ u

-- one record more is one batch more
abbrev pub OneBatchMore : Type 0
OneBatchMore = (b c r : List ℕ) (t : ArrowTable) (x : TableBatch) (records : List (List ℕ)) → MeansLog b t → log_records b ≡ Some records → IsRecordOf t.fields (x ∷ []) r → log_records c ≡ Some (records ++ r ∷ []) → MeansLog c (with_batch t x)

-- the same records are the same table
abbrev pub SameTable : Type 0
SameTable = (b c : List ℕ) (t : ArrowTable) → MeansLog b t → log_records c ≡ log_records b → MeansLog c t

-- where a disk holds these records, of bytes that mean a table, it holds the table
abbrev pub RecordsAreTable : Option (List ℕ) → Images → Type 0
RecordsAreTable content images = (b : List ℕ) (t : ArrowTable) (records : List (List ℕ)) → MeansLog b t → log_records b ≡ Some records → Holds content images records → HoldsTable content images t

-- and with one record more, the table with one batch more
abbrev pub MoreRecordsAreTable : Option (List ℕ) → Images → Type 0
MoreRecordsAreTable content images = (b r : List ℕ) (t : ArrowTable) (x : TableBatch) (records : List (List ℕ)) → MeansLog b t → log_records b ≡ Some records → IsRecordOf t.fields (x ∷ []) r
    → Holds content images (records ++ r ∷ []) → HoldsTable content images (with_batch t x)

-- where a crash leaves the records from before, or these and one more, it leaves the table from before, or it and one batch more
abbrev pub CrashedAppend : Type 0
CrashedAppend = (b c r : List ℕ) (t : ArrowTable) (x : TableBatch) (records : List (List ℕ)) → MeansLog b t → log_records b ≡ Some records → IsRecordOf t.fields (x ∷ []) r → IsBeforeOrAfter records r c → MeansBeforeOrAfter t x c

-- over a whole run a crash leaves the table from before and some of the new batches, from the first on, none in part
abbrev pub CrashedRun : Type 0
CrashedRun = (b c : List ℕ) (t : ArrowTable) (records more : List (List ℕ)) (xs : List TableBatch) → MeansLog b t → log_records b ≡ Some records → AreBatches t.fields more xs → HasFront records more c → MeansFront t xs c
