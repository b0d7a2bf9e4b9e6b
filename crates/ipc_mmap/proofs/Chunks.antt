-- Chunks, by the record batches that their blocks mean.
use Rattle.std.proofs.Common.{◌≡◌, ℕ, List, [], length, Bool, Option, None, Ok, Err, refl, sym, ap, subst, ◌∙◌}
use Rattle.std.specs.Prelude.{nat_le, not}
use Rattle.arrow_spec.specs.declared.error.Feature.TheVariants as features
use Rattle.arrow_spec.specs.declared.error.IpcError.{IpcError}
use Rattle.arrow_spec.specs.declared.error.IpcError.TheVariants.{Unsupported}
use Rattle.arrow_spec.specs.declared.error.OutOfSpecKind.TheVariants as kinds
use Rattle.arrow_spec.specs.declared.message.Block.{Block}
use Rattle.arrow_spec.specs.declared.message.MetadataVersion.{MetadataVersion}
use Rattle.arrow_spec.specs.Readings.{Reading, Refuses, bind, free_of, natural, only_if, refusals, unless}
use Rattle.arrow_spec.specs.Arrays.{Dictionaries}
use Rattle.arrow_spec.specs.Columns.{columns_at}
use Rattle.arrow_spec.specs.Counts.{first_place}
use Rattle.arrow_spec.specs.Features.{chosen_floats}
use Rattle.arrow_spec.specs.Flat.{order_by}
use Rattle.arrow_spec.specs.Kinds.{Metadata}
use Rattle.arrow_spec.specs.Messages.{BatchHeader}
use Rattle.arrow_spec.specs.Files.{Asked, Meta, TableBatch, as_asked, batch_of_tables, block_body, lengths_sum, none_negative, record_batch_of, share, to_read}
use Rattle.arrow_spec.proofs.Projection.{on}
use Rattle.ipc_read.specs.Batches.{batch_reading, columns_asked}
use Rattle.ipc_read.proofs.BatchTables.{reading_is, refused_first, refused_place}
use Rattle.ipc_files.specs.Blocks.{asked_under, batch_given, batch_in}
use Rattle.ipc_files.specs.FileBlocks.{PairedMessage, block_record, file_block, given}
use Rattle.ipc_files.specs.Requests.{asked}
use Rattle.ipc_files.proofs.BlockMessages.{batch_by_record}
use Rattle.ipc_files.proofs.GivenBlocks.{given_reads}
use Rattle.ipc_files.proofs.ReadBlocks.{batch_is_given, given_message_refused}

-- ── pairs ──

abbrev pub with_pairs : Metadata → TableBatch → TableBatch
with_pairs custom t = record { rows = t.rows; columns = t.columns; custom = custom }

-- a batch by the readings of its parts
abbrev read_by : {A : Type 0} → Reading (Unit {0}) → Reading ℕ → Reading (Unit {0}) → Reading (Unit {0}) → (ℕ → Reading A) → (ℕ → A → Metadata → TableBatch) → Metadata → Reading TableBatch
read_by compression rows negative sum columns made custom =
    bind compression (λ _. bind rows (λ n. bind negative (λ _. bind sum (λ _. bind (columns n) (λ xs. Ok (made n xs custom))))))

columns_beside : {A : Type 0} (columns : Reading A) (made : A → Metadata → TableBatch) (custom : Metadata) → ((xs : A) → made xs custom ≡ with_pairs custom (made xs []))
    → bind columns (λ xs. Ok (made xs custom)) ≡ bind (bind columns (λ xs. Ok (made xs []))) (λ t. Ok (with_pairs custom t))
unfolding bind
columns_beside (Err e) made custom same = refl
columns_beside (Ok xs) made custom same = ap Ok (same xs)

read_beside : {A : Type 0} (compression : Reading (Unit {0})) (rows : Reading ℕ) (negative sum : Reading (Unit {0})) (columns : ℕ → Reading A) (made : ℕ → A → Metadata → TableBatch) (custom : Metadata)
    → ((n : ℕ) (xs : A) → made n xs custom ≡ with_pairs custom (made n xs []))
    → read_by compression rows negative sum columns made custom ≡ bind (read_by compression rows negative sum columns made []) (λ t. Ok (with_pairs custom t))
unfolding bind
read_beside (Err e) rows negative sum columns made custom same = refl
read_beside (Ok x) (Err e) negative sum columns made custom same = refl
read_beside (Ok x) (Ok n) (Err e) sum columns made custom same = refl
read_beside (Ok x) (Ok n) (Ok y) (Err e) columns made custom same = refl
read_beside (Ok x) (Ok n) (Ok y) (Ok z) columns made custom same = columns_beside (columns n) (made n) custom (same n)

-- a batch is the same whatever pairs its message has, but for these
pairs_beside : (a : Asked) (v : MetadataVersion) (custom : Metadata) (tables : BatchHeader) (body : List ℕ) (left : Option ℕ) → batch_of_tables to_read a v custom tables body left ≡ bind (batch_of_tables to_read a v [] tables body left) (λ t. Ok (with_pairs custom t))
unfolding batch_of_tables bind
pairs_beside a v custom tables body left =
    read_beside (unless (not tables.compressed) (Unsupported features.Compression)) (natural tables.length) (only_if (none_negative tables.buffers) kinds.UnexpectedNegativeInteger)
    (only_if (nat_le (lengths_sum tables.buffers) a.most) (kinds.InvalidBuffersLength (lengths_sum tables.buffers) a.most))
    (λ n. columns_at (record_batch_of a.order v tables body) a.dictionaries a.columns a.fields 0 first_place n (share left n))
    (λ n columns custom. record { rows = share left n; columns = as_asked a.columns columns; custom = custom }) custom (λ n columns. refl)

-- ── a block ──

abbrev pub all_of : List ℕ → Meta → Dictionaries → Asked
all_of b meta d = asked_under b meta d (asked None None)

-- what is refused of the columns' kinds
pub kinds_refused : (b : List ℕ) (meta : Meta) (d : Dictionaries) (x : Block) (e : IpcError) → Refuses e (chosen_floats None meta.schema.fields 0) → Refuses e (refusals (batch_in (asked None None) b meta d x))
unfolding batch_in
kinds_refused b meta d x e h = refused_first (free_of (chosen_floats None meta.schema.fields 0)) _ e (refused_place _ e h)

readable : (b : List ℕ) (meta : Meta) (d : Dictionaries) (x : Block) → chosen_floats None meta.schema.fields 0 ≡ [] → batch_in (asked None None) b meta d x ≡ batch_given b (all_of b meta d) x None
unfolding batch_in bind
readable b meta d x h = rw h refl

-- what is refused of its message
pub message_refused : (b : List ℕ) (meta : Meta) (d : Dictionaries) (x : Block) (e : IpcError) → chosen_floats None meta.schema.fields 0 ≡ [] → Refuses e (refusals (given x (block_record b))) → Refuses e (refusals (batch_in (asked None None) b meta d x))
message_refused b meta d x e fine h = subst (λ r. Refuses e (refusals r)) (sym (readable b meta d x fine)) (given_message_refused e b (all_of b meta d) x None h)

-- by its message, what it means is what the tables do, with the message's pairs
by_message : (b : List ℕ) (meta : Meta) (d : Dictionaries) (x : Block) (m : PairedMessage) → chosen_floats None meta.schema.fields 0 ≡ [] → given x (block_record b) ≡ Ok m
    → batch_in (asked None None) b meta d x ≡ bind (batch_of_tables to_read (all_of b meta d) m.version [] m.tables (block_body b (file_block x)) None) (λ t. Ok (with_pairs m.custom t))
by_message b meta d x m fine is =
    let a = all_of b meta d in
    let r = given_reads x (block_record b) m is in
    readable b meta d x fine ∙ batch_is_given b a x None r.is ∙ batch_by_record to_read b a (file_block x) None ∙ on (block_record b (file_block x)) _ m r.read
    ∙ pairs_beside a m.version m.custom m.tables (block_body b (file_block x)) None

tables_read : (b : List ℕ) (meta : Meta) (d : Dictionaries) (is_little : Bool) (size : ℕ) (v : MetadataVersion) (tables : BatchHeader) (bytes body : List ℕ) → chosen_floats None meta.schema.fields 0 ≡ [] → order_by is_little ≡ meta.schema.order → size ≡ length b → bytes ≡ body
    → batch_reading None None is_little meta.schema.fields d size v tables bytes ≡ batch_of_tables to_read (all_of b meta d) v [] tables body None
tables_read b meta d is_little size v tables bytes body fine order whole there =
    reading_is None None is_little meta.schema.fields d size v tables bytes fine
    ∙ ap (λ o. batch_of_tables to_read (columns_asked None o meta.schema.fields d size) v [] tables bytes None) order
    ∙ ap (λ n. batch_of_tables to_read (columns_asked None meta.schema.order meta.schema.fields d n) v [] tables bytes None) whole
    ∙ ap (λ y. batch_of_tables to_read (columns_asked None meta.schema.order meta.schema.fields d (length b)) v [] tables y None) there

-- what is refused of its columns
pub columns_refused : (b : List ℕ) (meta : Meta) (d : Dictionaries) (x : Block) (m : PairedMessage) (is_little : Bool) (size : ℕ) (bytes : List ℕ) (e : IpcError) → chosen_floats None meta.schema.fields 0 ≡ [] → given x (block_record b) ≡ Ok m → order_by is_little ≡ meta.schema.order → size ≡ length b → bytes ≡ block_body b (file_block x)
    → Refuses e (refusals (batch_reading None None is_little meta.schema.fields d size m.version m.tables bytes)) → Refuses e (refusals (batch_in (asked None None) b meta d x))
columns_refused b meta d x m is_little size bytes e fine is order whole there h =
    subst (λ r. Refuses e (refusals r)) (sym (by_message b meta d x m fine is)) (refused_first (batch_of_tables to_read (all_of b meta d) m.version [] m.tables (block_body b (file_block x)) None) _ e
    (subst (λ r. Refuses e (refusals r)) (tables_read b meta d is_little size m.version m.tables bytes (block_body b (file_block x)) fine order whole there) h))

-- and what the chunk shows
pub chunk_shown : (b : List ℕ) (meta : Meta) (d : Dictionaries) (x : Block) (m : PairedMessage) (is_little : Bool) (size : ℕ) (bytes : List ℕ) (t : TableBatch) → chosen_floats None meta.schema.fields 0 ≡ [] → given x (block_record b) ≡ Ok m → order_by is_little ≡ meta.schema.order → size ≡ length b → bytes ≡ block_body b (file_block x)
    → batch_reading None None is_little meta.schema.fields d size m.version m.tables bytes ≡ Ok t → batch_in (asked None None) b meta d x ≡ Ok (with_pairs m.custom t)
chunk_shown b meta d x m is_little size bytes t fine is order whole there h =
    by_message b meta d x m fine is
    ∙ on (batch_of_tables to_read (all_of b meta d) m.version [] m.tables (block_body b (file_block x)) None) (λ t. Ok (with_pairs m.custom t)) t (sym (tables_read b meta d is_little size m.version m.tables bytes (block_body b (file_block x)) fine order whole there) ∙ h)
