-- Values and batches that stand at their blocks' places are read there.
use Rattle.std.proofs.Common.{◌≡◌, ℕ, ◌^◌, ◌<◌, ◌≤◌, List, [], ◌∷◌, length, Option, None, Ok, Bool, refl, sym, ap, subst, ◌∙◌, arith, true, false}
use Rattle.std.specs.Prelude.{nat_eq, nat_le, ◌||◌}
use Rattle.std.proofs.lemmas.Bool.{le-leb, leb-true}
use Rattle.arrow_spec.specs.declared.error.OutOfSpecKind.{OutOfSpecKind}
use Rattle.arrow_spec.specs.declared.error.OutOfSpecKind.TheVariants.{DuplicateDictionary, InvalidBuffersLength}
use Rattle.arrow_spec.specs.declared.message.MetadataVersion.{MetadataVersion}
use Rattle.arrow_spec.specs.declared.message.MetadataVersion.TheVariants.{V5}
use Rattle.arrow_spec.specs.Readings.{bind, is_absent, only_if}
use Rattle.arrow_spec.specs.Held.{Stands}
use Rattle.arrow_spec.specs.Kinds.{Fields, field, none, Metadata}
use Rattle.arrow_spec.specs.Cells.{Cell}
use Rattle.arrow_spec.specs.Counts.{Written}
use Rattle.arrow_spec.specs.Arrays.{Dictionaries, found}
use Rattle.arrow_spec.specs.Messages.{BatchHeader, batch_at, dictionary_at, message_of, message_pairs, version_of}
use Rattle.arrow_spec.specs.Files.{Asked, FileBlock, TableBatch, batch_of, batch_of_tables, dictionaries_of, dictionary_of, lengths_sum, to_read}
use Rattle.arrow_spec.specs.Framing.{padded, padded_size}
use Rattle.arrow_spec.specs.Laws.{TablesFit, header_of}
use Rattle.arrow_spec.specs.Sent.{SentMessage, node_rows}
use Rattle.arrow_spec.proofs.BatchTables.{batch_message_back}
use Rattle.arrow_spec.proofs.Bodies.{length-body}
use Rattle.arrow_spec.proofs.Projection.{on}
use Rattle.arrow_spec.proofs.ReadPairs.{is_true, through}
use Rattle.arrow_spec.proofs.SentMessages.{sent_bounds}
use Rattle.ipc_write_laws.specs.Streams.{WrittenBatch, batch_bytes, body_for, pieces_of, table_batch, written_batch, written_of}
use Rattle.ipc_write_laws.specs.Messages.{BatchMayBeWritten, IsKnown, Known, ValuesMayBeWritten, WrittenValues, values_bytes, values_message, with_values}
use Rattle.ipc_write_laws.proofs.Batches.{batch_read}
use Rattle.ipc_write_laws.proofs.Counts.{batch_counts}
use Rattle.ipc_write_laws.proofs.SentBatches.{written_of_one}
use Rattle.ipc_write_laws.proofs.Messages.{held_values, sized_values, values_fit, values_same}
use Rattle.ipc_write_laws.proofs.ValuesMessages.{values_message_back}
use Rattle.laws_files.specs.Files.{IsDeltaOrFirst, all_of, block_of, read_meta, read_schema}
use Rattle.laws_files.proofs.Framed.{body_long, body_taken, message_there, metadata_is}

-- a batch that was read is read where its buffers may be so long together as they are
pub lengths_fit : (a : Asked) (v : MetadataVersion) (custom : Metadata) (tables : BatchHeader) (body : List ℕ) (x : TableBatch) → batch_of_tables to_read a v custom tables body None ≡ Ok x → lengths_sum tables.buffers ≤ a.most
unfolding batch_of_tables
lengths_fit a v custom tables body x h = through _ _ x h λ u u_is h1. through _ _ x h1 λ rows rows_are h2. through _ _ x h2 λ u' u'_is h3. through _ _ x h3 λ room room_is h4. leb-true _ _ (is_true _ _ room room_is)

pub with_room : (a : Asked) (most : ℕ) (v : MetadataVersion) (custom : Metadata) (tables : BatchHeader) (body : List ℕ) (x : TableBatch) → lengths_sum tables.buffers ≤ most → batch_of_tables to_read a v custom tables body None ≡ Ok x
    → batch_of_tables to_read (record { order = a.order; fields = a.fields; columns = a.columns; dictionaries = a.dictionaries; most = most }) v custom tables body None ≡ Ok x
unfolding batch_of_tables
with_room a most v custom tables body x le h =
    through _ _ x h λ u u_is h1. through _ _ x h1 λ rows rows_are h2. through _ _ x h2 λ u' u'_is h3. through _ _ x h3 λ room room_is h4.
    let test : only_if (nat_le (lengths_sum tables.buffers) most) (InvalidBuffersLength (lengths_sum tables.buffers) most) ≡ Ok tt = rw (le-leb _ _ le) refl in
    on _ _ u u_is ∙ on _ _ rows rows_are ∙ on _ _ u' u'_is ∙ on _ _ tt test ∙ h4

-- and so where they may be longer
roomy : (a : Asked) (more : ℕ) (v : MetadataVersion) (custom : Metadata) (tables : BatchHeader) (body : List ℕ) (x : TableBatch) → a.most ≤ more → batch_of_tables to_read a v custom tables body None ≡ Ok x
    → batch_of_tables to_read (record { order = a.order; fields = a.fields; columns = a.columns; dictionaries = a.dictionaries; most = more }) v custom tables body None ≡ Ok x
roomy a more v custom tables body x le h = with_room a more v custom tables body x (omega (arith, lengths_fit a v custom tables body x h, le)) h

-- ── batches ──

-- what a batch that may be written has in its tables fits them
batch_fit : (fs : Fields) (c : Known) (x : WrittenBatch) → BatchMayBeWritten fs c x → TablesFit x.rows (written_of x.columns)
batch_fit fs c x w =
    let bounds = sent_bounds (written_batch x) w.size in
    let counts = batch_counts 3 x.rows (length (body_for x.columns)) (written_of x.columns) x.custom bounds.0 in
    record { few = w.few; nodes = w.nodes; node_count = counts.0; buffers = omega (arith, bounds.1, length-body (pieces_of x.columns) 0); buffer_count = counts.1; views = w.views }

pub batch_there : (b : List ℕ) (at : ℕ) (fs : Fields) (c : Known) (d : Dictionaries) (x : WrittenBatch) → Stands b at (batch_bytes x) → IsKnown c d → BatchMayBeWritten fs c x
    → batch_of to_read b (all_of fs d (length b)) (block_of at (written_batch x)) None ≡ Ok (table_batch x)
unfolding batch_of bind
batch_there b at fs c d x h known w =
    let m = written_batch x in
    let body = body_for x.columns in
    let bounds = sent_bounds m w.size in
    let read = batch_message_back (λ k. nat_eq k 3) x.rows (written_of x.columns) body x.custom [] refl (batch_fit fs c x w) bounds.1 w.custom bounds.0 in
    let next = read.0 in
    let e : next.framed.metadata ≡ padded m.node = metadata_is _ _ _ body x.custom m.node bounds.0 next in
    let there = message_there b at m body h refl bounds.0 3 next.found (subst (λ md. message_of md (λ k. nat_eq k 3) ≡ Ok next.found) e next.read) in
    let tables : batch_at (padded m.node) next.found.header ≡ Ok (header_of x.rows (written_of x.columns)) = subst (λ md. batch_at md next.found.header ≡ Ok (header_of x.rows (written_of x.columns))) e read.1 in
    let version : version_of (padded m.node) next.found ≡ Ok V5 = subst (λ md. version_of md next.found ≡ Ok V5) e next.version in
    let pairs : message_pairs (padded m.node) ≡ Ok x.custom = subst (λ md. message_pairs md ≡ Ok x.custom) e next.custom_is in
    let rows = roomy _ (length b) V5 x.custom _ body _ (body_long b at m body h refl bounds.0) (batch_read fs x.columns d x.rows x.custom w.kinds (w.good d known)) in
    rw (there, tables, version, pairs, body_taken b at m body h refl bounds.0, rows) refl

-- ── values ──

-- they are a delta, or the first of their id
may_stand : (is_delta : Bool) (cells : Option (List Cell)) (k : OutOfSpecKind) → (is_delta ≡ false → cells ≡ None) → only_if (is_delta || false || is_absent cells) k ≡ Ok tt
may_stand true cells k h = refl
may_stand false cells k h = rw (h refl) refl

values_read : (fs : Fields) (kv : Metadata) (c : Known) (d : Dictionaries) (x : WrittenValues) (rows most : ℕ) → rows ≡ x.rows → length (body_for (x.column ∷ [])) ≤ most → IsKnown c d → ValuesMayBeWritten fs c x → IsDeltaOrFirst c x
    → dictionary_of (read_schema fs kv) d most (record { id = x.id; is_delta = x.is_delta; values = header_of rows (written_of (x.column ∷ [])) }) V5 (body_for (x.column ∷ [])) false ≡ Ok (held_values x)
unfolding dictionary_of bind
values_read fs kv c d x rows most counted long known w first =
    let cells = roomy _ most V5 [] _ (body_for (x.column ∷ [])) _ long (batch_read (field [] true [] x.column.kind none) (x.column ∷ []) d x.rows [] (refl, tt) (w.good d known, tt)) in
    let new : only_if (x.is_delta || false || is_absent (found d x.id)) DuplicateDictionary ≡ Ok tt = may_stand x.is_delta (found d x.id) DuplicateDictionary (λ e. known x.id ∙ first e) in
    rw (counted, w.kind, new, w.readable, cells) refl

pub values_long : (x : WrittenValues) → length (body_for (x.column ∷ [])) ≡ (values_message x).body
values_long x = omega (arith, length-body (pieces_of (x.column ∷ [])) 0)

pub values_there : (b : List ℕ) (at : ℕ) (fs : Fields) (kv : Metadata) (c : Known) (d : Dictionaries) (x : WrittenValues) (records dictionaries blocks : List FileBlock) → Stands b at (values_bytes x) → IsKnown c d → ValuesMayBeWritten fs c x → IsDeltaOrFirst c x
    → dictionaries_of b (read_meta fs kv records dictionaries) d (block_of at (values_message x) ∷ blocks) ≡ dictionaries_of b (read_meta fs kv records dictionaries) (held_values x ∷ d) blocks
unfolding dictionaries_of bind
values_there b at fs kv c d x records dictionaries blocks h known w first =
    let m = values_message x in
    let all = written_of (x.column ∷ []) in
    let body = body_for (x.column ∷ []) in
    let same = values_same x in
    let bounds = sent_bounds m w.size in
    let short : padded_size (sized_values x).node < 2 ^ 31 = subst (λ (y : SentMessage). padded_size y.node < 2 ^ 31) (sym same) bounds.0 in
    let few : length body < 2 ^ 63 = omega (arith, bounds.1, values_long x) in
    let read = values_message_back (λ k. nat_eq k 2) x.id x.is_delta all body [] refl w.small (values_fit fs c x w) few short in
    let next = read.0 in
    let e : next.framed.metadata ≡ padded m.node = metadata_is _ _ _ body [] (sized_values x).node short next ∙ ap (λ (y : SentMessage). padded y.node) same in
    let there = message_there b at m body h (values_long x) bounds.0 2 next.found (subst (λ md. message_of md (λ k. nat_eq k 2) ≡ Ok next.found) e next.read) in
    let tables : dictionary_at (padded m.node) next.found.header ≡ Ok (record { id = x.id; is_delta = x.is_delta; values = header_of (node_rows all.nodes) all }) = subst (λ md. dictionary_at md next.found.header ≡ Ok (record { id = x.id; is_delta = x.is_delta; values = header_of (node_rows all.nodes) all })) e read.1 in
    let version : version_of (padded m.node) next.found ≡ Ok V5 = subst (λ md. version_of md next.found ≡ Ok V5) e next.version in
    let counted : node_rows all.nodes ≡ x.rows = ap (λ (a : Written). node_rows a.nodes) (written_of_one x.column) ∙ w.rows in
    let cells = values_read fs kv c d x (node_rows all.nodes) (length b) counted (body_long b at m body h (values_long x) bounds.0) known w first in
    rw (dictionaries_of, there) (rw (bind, tables, version, body_taken b at m body h (values_long x) bounds.0, cells) refl)

-- what is known with them
pub values_known : (c : Known) (d : Dictionaries) (x : WrittenValues) → IsKnown c d → IsKnown (with_values x c) (held_values x ∷ d)
values_known c d x known = λ id. rw (known id) refl
