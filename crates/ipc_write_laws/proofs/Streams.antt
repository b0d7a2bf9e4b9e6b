-- What a writer frames of a table without dictionaries means the table that is written: it is a stream of messages that are all batches.
use Rattle.std.proofs.Common.{◌≡◌, List, [], ◌∷◌, ◌++◌, Some, None, refl, sym, ap, subst, ◌∙◌, true}
use Rattle.std.specs.Prelude.{map, ℤ, pos, negsuc}
use Rattle.std.specs.List.{AllByRecursion, flat_map}
use Rattle.std.proofs.lemmas.List.{flat_map_more}
use Rattle.std.proofs.lemmas.List.Concat.{flat_map_single}
use Rattle.std.proofs.lemmas.List.Folds.{flat_map-map}
use Rattle.arrow_spec.specs.Flat.{little}
use Rattle.arrow_spec.specs.Kinds.{Fields, Metadata, bare, numbered, same}
use Rattle.arrow_spec.specs.Arrays.{Dictionaries, found}
use Rattle.arrow_spec.specs.Sent.{may_be_sent, schema_message, stream_schema}
use Rattle.arrow_spec.specs.Framing.{message_bytes}
use Rattle.arrow_spec.specs.Streams.{closed, end_mark, stream_table, unended}
use Rattle.arrow_spec.specs.WrittenSchemas.{IdsMayBeWritten}
use Rattle.arrow_spec.proofs.IntegerSchemas.{is_same}
use Rattle.arrow_spec.proofs.NumberedFields.{numbered_may}
use Rattle.ipc_write_laws.specs.Columns.{Means}
use Rattle.ipc_write_laws.specs.Streams.{MayBeWritten, StreamMayBeWritten, TableMayBeWritten, WrittenBatch, bare_table, batch_bytes, table_batch, written_so_far, written_stream, written_table}
use Rattle.ipc_write_laws.specs.Messages.{AllMayBeWritten, BatchMayBeWritten, IsKnown, MessagesMayBeWritten, batch, batch_in, bytes_of, none_known, stream_so_far, table_of_messages}
use Rattle.ipc_write_laws.proofs.Messages.{messages_front_means, messages_stream_means}

-- ── batches as messages ──

same_self : (id : ℤ) → same id id ≡ true
same_self (pos n) = is_same n
same_self (negsuc n) = is_same n

-- where nothing is known no dictionary was read
none_read : (d : Dictionaries) → IsKnown none_known d → [] ≡ d
none_read [] known = refl
none_read (x ∷ d) known = let here : found (x ∷ d) x.id ≡ None = known x.id in absurd (let clash = rw (same_self x.id) at here in cc)

batch_may : (fs : Fields) (x : WrittenBatch) → MayBeWritten fs x → BatchMayBeWritten fs none_known x
batch_may fs x w = record {
  kinds = w.kinds;
  good = λ d known. subst (λ (e : Dictionaries). AllByRecursion (λ k. Means little e x.rows k) x.columns) (none_read d known) w.good;
  few = w.few;
  nodes = w.nodes;
  views = w.views;
  custom = w.custom;
  size = w.size;
}

batches_may : (fs : Fields) (xs : List WrittenBatch) → AllByRecursion (λ x. MayBeWritten fs x) xs → AllMayBeWritten fs none_known (map batch xs)
batches_may fs [] w = tt
batches_may fs (x ∷ xs) w = (batch_may fs x w.0, batches_may fs xs w.1)

stream_may : (fs : Fields) (kv custom : Metadata) (xs : List WrittenBatch) → StreamMayBeWritten fs kv custom xs → MessagesMayBeWritten fs kv custom (map batch xs)
stream_may fs kv custom xs w = record {
  schema = w.schema;
  message = w.message;
  ids = subst (λ gs. IdsMayBeWritten gs) w.plain (numbered_may fs kv w.schema).1;
  readable = w.readable;
  size = ap (λ gs. may_be_sent (schema_message little gs kv custom)) (sym w.plain) ∙ w.size;
  messages = batches_may fs xs w.batches;
}

same_bytes : (fs : Fields) (kv custom : Metadata) (xs : List WrittenBatch) → numbered fs 0 ≡ fs → stream_so_far fs kv custom (map batch xs) ≡ written_so_far fs kv custom xs
same_bytes fs kv custom xs plain =
    ap (λ gs. message_bytes (schema_message little gs kv custom).node [] ++ flat_map bytes_of (map batch xs)) (sym plain)
    ∙ ap (λ t. message_bytes (stream_schema fs kv custom).node [] ++ t) (flat_map-map bytes_of batch xs)

same_batches : (fs : Fields) (kv custom : Metadata) (xs : List WrittenBatch) → Some (table_of_messages fs kv custom (map batch xs)) ≡ Some (bare_table fs kv custom xs)
same_batches fs kv custom xs = ap (λ ts. Some (record { metadata = kv; custom = custom; fields = bare fs; batches = ts })) (flat_map-map batch_in batch xs ∙ flat_map_single table_batch xs)

-- a written stream is closed, and its table is the written one
pub bare_stream_means : (fs : Fields) (kv custom : Metadata) (xs : List WrittenBatch) → StreamMayBeWritten fs kv custom xs → closed (written_stream fs kv custom xs) × (stream_table (written_stream fs kv custom xs) None ≡ Some (bare_table fs kv custom xs))
bare_stream_means fs kv custom xs w =
    let whole = messages_stream_means fs kv custom (map batch xs) (stream_may fs kv custom xs w) in
    subst (λ b. closed (b ++ end_mark) × (stream_table (b ++ end_mark) None ≡ Some (bare_table fs kv custom xs))) (same_bytes fs kv custom xs w.plain) (whole.0, whole.1 ∙ same_batches fs kv custom xs)

-- what was written before the end mark means the written table, and is not ended
pub bare_front_means : (fs : Fields) (kv custom : Metadata) (xs : List WrittenBatch) → StreamMayBeWritten fs kv custom xs → unended (written_so_far fs kv custom xs) × (stream_table (written_so_far fs kv custom xs) None ≡ Some (bare_table fs kv custom xs))
bare_front_means fs kv custom xs w =
    let front = messages_front_means fs kv custom (map batch xs) (stream_may fs kv custom xs w) in
    subst (λ b. unended b × (stream_table b None ≡ Some (bare_table fs kv custom xs))) (same_bytes fs kv custom xs w.plain) (front.0, front.1 ∙ same_batches fs kv custom xs)

-- ── where the unions state their ids ──

whether_stated : (fs : Fields) (kv custom : Metadata) (xs : List WrittenBatch) → TableMayBeWritten fs kv custom xs → StreamMayBeWritten fs kv custom xs
whether_stated fs kv custom xs w = record { schema = w.schema; message = w.message; plain = w.plain; readable = w.readable; size = w.size; batches = w.batches }

same_table : (fs : Fields) (kv custom : Metadata) (xs : List WrittenBatch) → bare fs ≡ fs → Some (bare_table fs kv custom xs) ≡ Some (written_table fs kv custom xs)
same_table fs kv custom xs e = ap (λ gs. Some (written_table gs kv custom xs)) e

pub written_stream_means : (fs : Fields) (kv custom : Metadata) (xs : List WrittenBatch) → TableMayBeWritten fs kv custom xs → closed (written_stream fs kv custom xs) × (stream_table (written_stream fs kv custom xs) None ≡ Some (written_table fs kv custom xs))
written_stream_means fs kv custom xs w = let whole = bare_stream_means fs kv custom xs (whether_stated fs kv custom xs w) in (whole.0, whole.1 ∙ same_table fs kv custom xs w.no_ids)

pub written_front_means : (fs : Fields) (kv custom : Metadata) (xs : List WrittenBatch) → TableMayBeWritten fs kv custom xs → unended (written_so_far fs kv custom xs) × (stream_table (written_so_far fs kv custom xs) None ≡ Some (written_table fs kv custom xs))
written_front_means fs kv custom xs w = let front = bare_front_means fs kv custom xs (whether_stated fs kv custom xs w) in (front.0, front.1 ∙ same_table fs kv custom xs w.no_ids)

-- ── one batch more ──

-- a written stream grows by a batch's message at its end
pub one_more_batch : (fs : Fields) (kv custom : Metadata) (xs : List WrittenBatch) (x : WrittenBatch) → written_so_far fs kv custom (xs ++ x ∷ []) ≡ written_so_far fs kv custom xs ++ batch_bytes x
one_more_batch fs kv custom xs x = sym (flat_map_more batch_bytes (message_bytes (stream_schema fs kv custom).node []) xs x)

all_and_one : {A : Type 0} (P : A → Type 0) (xs : List A) (x : A) → AllByRecursion P xs → P x → AllByRecursion P (xs ++ x ∷ [])
all_and_one P [] x h p = (p, tt)
all_and_one P (y ∷ ys) x h p = (h.0, all_and_one P ys x h.1 p)

-- and may be written with it if the batch may
pub one_more_bare : (fs : Fields) (kv custom : Metadata) (xs : List WrittenBatch) (x : WrittenBatch) → StreamMayBeWritten fs kv custom xs → MayBeWritten fs x → StreamMayBeWritten fs kv custom (xs ++ x ∷ [])
one_more_bare fs kv custom xs x w may = record { schema = w.schema; message = w.message; plain = w.plain; readable = w.readable; size = w.size; batches = all_and_one (λ x. MayBeWritten fs x) xs x w.batches may }

pub one_more_may : (fs : Fields) (kv custom : Metadata) (xs : List WrittenBatch) (x : WrittenBatch) → TableMayBeWritten fs kv custom xs → MayBeWritten fs x → TableMayBeWritten fs kv custom (xs ++ x ∷ [])
one_more_may fs kv custom xs x w may = record { schema = w.schema; message = w.message; plain = w.plain; no_ids = w.no_ids; readable = w.readable; size = w.size; batches = all_and_one (λ x. MayBeWritten fs x) xs x w.batches may }
