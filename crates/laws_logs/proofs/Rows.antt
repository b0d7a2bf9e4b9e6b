-- Logs as they are written, of one nullable Int32 column.
use Rattle.std.proofs.Common.{◌≡◌, ℕ, List, [], ◌∷◌, ◌++◌, take, get_or, length, Some, None, refl, sym, subst, arith, Vec}
use Rattle.std.specs.Prelude.{Ok}
use Rattle.arrow_spec.specs.Files.{ArrowTable}
use Rattle.arrow_spec.specs.Streams.{closed, end_mark, stream_table}
use Rattle.ipc_log_disk.specs.Below.{overwritten}
use Rattle.ipc_log_disk.specs.Histories.{crashed_after, torn_by}
use Rattle.ipc_log_disk.specs.declared.change.Change.TheVariants.{Written, Synced}
use Rattle.std.specs.declared.alloc.Global.{Global}
use Rattle.ipc_record_log.specs.Records.{behind_gate, length_bytes, log_records, open_records, record_length}
use Rattle.laws_logs.specs.Tables.{IsRecordOf, MeansLog, dictionaries_from, next_pass, pass_of, table_of}
use Rattle.laws_worked.proofs.Int32Table.{computed, int32_table, int32_stream-closed, int32_stream-table}
use Rattle.laws_worked.proofs.Vectors.{int32_stream}

-- the stream without batches: the schema's message and the end mark
abbrev pub empty_stream : List ℕ
empty_stream = take 136 int32_stream ++ end_mark

-- a log that is begun with the schema, and one with the batch of three rows behind it
abbrev pub begun_log : List ℕ
begun_log = open_records (empty_stream ∷ []) ++ 0 ∷ []

abbrev pub appended_log : List ℕ
appended_log = open_records (empty_stream ∷ int32_stream ∷ []) ++ 0 ∷ []

pub begun_log-length : length begun_log ≡ 169
unfolding length_bytes
begun_log-length = refl

pub begun_log-gates : (get_or begun_log 8 0 ≡ 1) × (get_or begun_log 168 1 ≡ 0)
unfolding length_bytes
begun_log-gates = (refl, refl)

pub appended_log-length : length appended_log ≡ 609
unfolding length_bytes
appended_log-length = refl

pub appended_log-gates : (get_or appended_log 168 0 ≡ 1) × (get_or appended_log 608 1 ≡ 0)
unfolding length_bytes
appended_log-gates = (refl, refl)

pub begun_log-records : log_records begun_log ≡ Some (empty_stream ∷ [])
unfolding length_bytes log_records record_length
begun_log-records = refl

pub appended_log-records : log_records appended_log ≡ Some (empty_stream ∷ int32_stream ∷ [])
unfolding length_bytes log_records record_length
appended_log-records = refl

empty_stream-closed : closed empty_stream
unfolding computed
empty_stream-closed = refl

abbrev pub empty_table : ArrowTable
empty_table = record int32_table { batches = [] }

empty_stream-table : stream_table empty_stream None ≡ Some empty_table
unfolding computed
empty_stream-table = refl

empty_stream-counted : dictionaries_from (length empty_stream) empty_stream ≡ Ok 0
unfolding computed dictionaries_from next_pass pass_of
empty_stream-counted = refl

int32_stream-counted : dictionaries_from (length int32_stream) int32_stream ≡ Ok 0
unfolding computed dictionaries_from next_pass pass_of
int32_stream-counted = refl

empty_record : IsRecordOf int32_table.fields [] empty_stream
empty_record = record {
  whole = empty_stream-closed;
  table = empty_table;
  means = empty_stream-table;
  same_fields = refl;
  same_batches = refl;
  count = 0;
  counted = empty_stream-counted;
  few = omega arith;
}

int32_record : IsRecordOf int32_table.fields int32_table.batches int32_stream
int32_record = record {
  whole = int32_stream-closed;
  table = int32_table;
  means = int32_stream-table;
  same_fields = refl;
  same_batches = refl;
  count = 0;
  counted = int32_stream-counted;
  few = omega arith;
}

pub begun_log-means : MeansLog begun_log (table_of int32_table.fields [])
begun_log-means = record {
  fields = int32_table.fields;
  batches = [];
  is = refl;
  records = empty_stream ∷ [];
  framed = begun_log-records;
  are = (empty_record, tt);
}

pub appended_log-means : MeansLog appended_log (table_of int32_table.fields int32_table.batches)
appended_log-means = record {
  fields = int32_table.fields;
  batches = int32_table.batches;
  is = refl;
  records = empty_stream ∷ int32_stream ∷ [];
  framed = appended_log-records;
  are = (empty_record, (int32_record, tt));
}

-- ── where an append of the batch stops ──

-- the write behind the closed gate, a sync, the gate, and a sync; each byte that is not on the disk is one byte
module _ (fill : ℕ) (behind gate : Vec ℕ Global) (behind_is : behind.items ≡ behind_gate int32_stream ++ 0 ∷ []) (gate_is : gate.items ≡ 1 ∷ []) where
  pub stop_1 : log_records (crashed_after fill 609 begun_log (Written 169 behind 440 ∷ [])) ≡ Some (empty_stream ∷ [])
  unfolding length_bytes log_records record_length
  stop_1 = refl

  pub stop_2 : log_records (crashed_after fill 609 begun_log (Synced ∷ Written 169 behind 440 ∷ [])) ≡ Some (empty_stream ∷ [])
  unfolding length_bytes log_records record_length
  stop_2 = subst (λ (l : List ℕ). log_records (overwritten begun_log 169 l) ≡ Some (empty_stream ∷ [])) (sym behind_is) refl

  pub stop_4 : log_records (crashed_after fill 609 begun_log (Synced ∷ Written 168 gate 1 ∷ Synced ∷ Written 169 behind 440 ∷ [])) ≡ Some (empty_stream ∷ int32_stream ∷ [])
  unfolding length_bytes log_records record_length
  stop_4 =
      subst (λ (l : List ℕ). log_records (overwritten (overwritten begun_log 169 l) 168 gate.items) ≡ Some (empty_stream ∷ int32_stream ∷ [])) (sym behind_is)
      (subst (λ (g : List ℕ). log_records (overwritten (overwritten begun_log 169 (behind_gate int32_stream ++ 0 ∷ [])) 168 g) ≡ Some (empty_stream ∷ int32_stream ∷ [])) (sym gate_is) refl)

-- behind the third call the gate may be on the disk or not
module _ (behind gate : Vec ℕ Global) (behind_is : behind.items ≡ behind_gate int32_stream ++ 0 ∷ []) where
  pub stop_3-shut : log_records (crashed_after 0 609 begun_log (Written 168 gate 1 ∷ Synced ∷ Written 169 behind 440 ∷ [])) ≡ Some (empty_stream ∷ [])
  unfolding length_bytes log_records record_length
  stop_3-shut = subst (λ (l : List ℕ). log_records (torn_by 0 609 168 1 (overwritten begun_log 169 l)) ≡ Some (empty_stream ∷ [])) (sym behind_is) refl

  pub stop_3-open : log_records (crashed_after 1 609 begun_log (Written 168 gate 1 ∷ Synced ∷ Written 169 behind 440 ∷ [])) ≡ Some (empty_stream ∷ int32_stream ∷ [])
  unfolding length_bytes log_records record_length
  stop_3-open = subst (λ (l : List ℕ). log_records (torn_by 1 609 168 1 (overwritten begun_log 169 l)) ≡ Some (empty_stream ∷ int32_stream ∷ [])) (sym behind_is) refl
