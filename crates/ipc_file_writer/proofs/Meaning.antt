-- What a file means since it was begun.
use Rattle.std.proofs.Common.{◌≡◌, ◌++◌, ◌∷◌, ◌+◌, ◌≤◌, ◌<◌, ◌^◌, ℕ, List, [], length, map, None, Some, Ok, Option, Result, true, min, refl, sym, ap, ◌∙◌, subst, arith, append-nil, length-append}
use Rattle.std.specs.Prelude.{nat_le}
use Rattle.std.specs.List.{AllByRecursion, flat_map}
use Rattle.std.specs.Rc.{rc_value}
use Rattle.std.proofs.lemmas.Bool.{and_parts, leb-true}
use Rattle.arrow_spec.specs.declared.error.IpcError.{IpcError}
use Rattle.arrow_spec.specs.declared.error.IpcError.TheVariants.{TooLarge}
use Rattle.arrow_spec.specs.Features.{chosen_floats}
use Rattle.arrow_spec.specs.Footers.{footer_node}
use Rattle.arrow_spec.specs.Files.{FileBlock, TableBatch, «all»}
use Rattle.arrow_spec.specs.Flat.{little}
use Rattle.arrow_spec.specs.Framing.{message_bytes}
use Rattle.arrow_spec.specs.Kinds.{Fields, Metadata, have_same_kinds}
use Rattle.arrow_spec.specs.Layout.{layout, size}
use Rattle.arrow_spec.specs.Meaning.{file_table}
use Rattle.arrow_spec.specs.Sent.{SentMessage, schema_message}
use Rattle.arrow_spec.specs.WrittenSchemas.{Ascend, FieldsFit}
use Rattle.arrow_spec.specs.WrittenSchemas as schemas
use Rattle.arrow_spec.proofs.ReadPairs.{is_true, same_read, through}
use Rattle.arrow_types.specs.Schemas.{Keyed, fields_in}
use Rattle.arrow_arrays.specs.Batches.{Batch}
use Rattle.arrow_arrays.specs.Parts.{forest}
use Rattle.laws_files.specs.FileLaws.{BlockFits}
use Rattle.ipc_fields.specs.IpcFields.{Ids, ids_of, metadata_of}
use Rattle.ipc_messages.specs.Below.{Moved, begun, columns_fault, columns_of, unless_fault, Sending, ToSend, held_by, options_of, file_block, WriteOptions, batch_message}
use Rattle.laws_files.specs.Below.{bytes_of}
use Rattle.ipc_messages.proofs.Below.{same_message}
use Rattle.ipc_messages.specs.Messages.{Sizes, chunk_text, sent_sizes, sizes_of}
use Rattle.ipc_messages.specs.Schemas.{SchemaIsSaid, StartMayBeWritten, stream_text}
use Rattle.laws_writers.specs.Heard.{cells_held}
use Rattle.laws_writers.specs.Chunks.{chunk_of}
use Rattle.laws_writers.specs.Written.{cells_of, said_fields}
use Rattle.laws_writers.proofs.Chunks.{message_under}
use Rattle.arrow_spec.proofs.OwnPairs.{nodes_own}
use Rattle.laws_writers.proofs.Written.{schema_is_put}
use Rattle.laws_files.specs.Files.{Begun, FrontMeans, MayBeEnded, batch_blocks, ended, file_end, file_front, footer_of, only_begun, values_blocks, with_more}
use Rattle.laws_files.specs.Files as files
use Rattle.laws_files.specs.WrittenLaws.{EndedFrontMeansItsTable}
use Rattle.laws_files.proofs.Tables.{front_same, only_begun_means}
use Rattle.laws_writers.proofs.FileChunks.{chunk_goes}
use Rattle.ipc_file_writer.specs.declared.file.FileCore.{FileCore}
use Rattle.ipc_file_writer.specs.Blocks.{are_placed, behind, behind_all, block_at, blocks_at, chunk_sizes, file_blocks, is_placed}
use Rattle.ipc_file_writer.specs.Calls.{HasSent, ending_of, file_ids, file_schema}
use Rattle.ipc_file_writer.specs.Ends.{file_ending, file_footer, file_start, no_pairs}
use Rattle.ipc_file_writer.specs.Written.{EndsFile, MeansItsTable, HasNothing, IsFile, cells_by, file_fields, front_by, own_fields}
use Rattle.ipc_file_writer.proofs.Growing.{behind_values}
use Rattle.ipc_file_writer.proofs.PlacedBlocks.{blocks_more}
use Rattle.ipc_file_writer.proofs.Said.{said_regular}

-- bytes and blocks that are the same
abbrev begun_of : List ℕ → List FileBlock → List FileBlock → Begun
begun_of x ds rs = record { bytes = x; dictionaries = ds; records = rs }

pub same_front : (a b : List ℕ) (c d e f : List FileBlock) → a ≡ b → c ≡ d → e ≡ f → begun_of a c e ≡ begun_of b d f
same_front a b c d e f h k l = rw (h, k, l) refl

-- ── begin ──

-- the front of a file is that of a schema as it is said
started : (options : WriteOptions) (fs : Fields) (below : Ids) (bytes message : List ℕ) → stream_text options fs below no_pairs ≡ Ok message → file_front ++ message ≡ bytes → message ≡ message_bytes (schema_message little (said_fields fs below) [] []).node [] ++ []
    → bytes ≡ files.file_start (said_fields fs below)
started options fs below bytes message h e f =
    let one = message_bytes (schema_message little (said_fields fs below) [] []).node [] in
    sym e ∙ ap (λ x. file_front ++ x) (f ∙ append-nil one)

pub begun_file : (options : WriteOptions) (c : FileCore) (bytes : List ℕ) → file_start options (fields_in (rc_value c.schema)) (ids_of c.ipc_schema.fields.items) ≡ Ok bytes → StartMayBeWritten (own_fields c) no_pairs → HasNothing c → c.blocks.end ≡ length bytes
    → SchemaIsSaid (own_fields c) [] → IsFile (cells_by c) c bytes []
unfolding file_start
begun_file options c bytes text may nothing end said =
    through _ _ bytes text λ message message_is rest.
    let fs = fields_in (rc_value c.schema) in
    let below = ids_of c.ipc_schema.fields.items in
    let put = schema_is_put options fs below no_pairs (held_by c.tracker) message message_is said may.message nothing.held in
    let is : bytes ≡ files.file_start (file_fields c) = started options fs below bytes message message_is (same_read _ bytes rest) put.1 in
    let ds : file_blocks c.blocks.dictionaries ≡ [] = ap (map file_block) nothing.dictionaries in
    let rs : file_blocks c.blocks.records ≡ [] = ap (map file_block) nothing.records in
    let front : only_begun (file_fields c) ≡ front_by c bytes = same_front _ _ _ _ _ _ (sym is) (sym ds) (sym rs) in
    let known = front_same (file_fields c) (only_begun (file_fields c)) (λ id. None) (cells_by c) [] (λ id. ap cells_held (sym (nothing.held id))) (only_begun_means (file_fields c)) in
    record {
      end = end;
      means = subst (λ x. FrontMeans (file_fields c) x (cells_by c) []) front known;
      schema = put.0.may.schema;
      ids = put.0.may.ids;
      floats = put.0.may.readable;
      dictionaries_fit = subst (AllByRecursion BlockFits) (sym ds) tt;
      records_fit = subst (AllByRecursion BlockFits) (sym rs) tt;
    }

-- ── blocks ──

values_at : (fs : Fields) (sent : List ToSend) (b : Batch) (at : ℕ) → values_blocks at (chunk_of fs sent b) ≡ blocks_at at (map sent_sizes sent)
values_at fs [] b at = refl
values_at fs (s ∷ sent) b at = ap (λ xs. block_at at (sent_sizes s) ∷ xs) (values_at fs sent b (behind at (sent_sizes s)))

batch_at : (fs : Fields) (sent : List ToSend) (b : Batch) (at : ℕ) → batch_blocks at (chunk_of fs sent b) ≡ block_at (behind_all at (map sent_sizes sent)) (sizes_of (batch_message b)) ∷ []
batch_at fs [] b at = ap (λ (m : SentMessage). block_at at (sizes_of m) ∷ []) (message_under fs b ∙ sym (same_message b))
batch_at fs (s ∷ sent) b at = batch_at fs sent b (behind at (sent_sizes s))

pub all_both : (xs ys : List FileBlock) → AllByRecursion BlockFits xs → AllByRecursion BlockFits ys → AllByRecursion BlockFits (xs ++ ys)
all_both [] ys h k = k
all_both (x ∷ xs) ys h k = (h.0, all_both xs ys h.1 k)

pub all_parts : (xs ys : List FileBlock) → AllByRecursion BlockFits (xs ++ ys) → AllByRecursion BlockFits xs × AllByRecursion BlockFits ys
all_parts [] ys h = (tt, h)
all_parts (x ∷ xs) ys h = let rest = all_parts xs ys h.1 in ((h.0, rest.0), rest.1)

-- blocks that are placed fit
pub placed_fit : (xs : List Sizes) (at : ℕ) → are_placed at xs ≡ true → AllByRecursion BlockFits (blocks_at at xs)
placed_fit [] at h = tt
placed_fit (x ∷ xs) at h =
    let both = and_parts (is_placed at x) (are_placed (behind at x) xs) h in
    let one = and_parts (nat_le x.front 2147483647) (nat_le (behind at x) 9223372036854775807) both.0 in
    let front : x.front ≤ 2147483647 = leb-true x.front 2147483647 one.0 in
    let near : behind at x ≤ 9223372036854775807 = leb-true (behind at x) 9223372036854775807 one.1 in
    (record { offset = omega (arith, near); metadata = omega (arith, front); body = omega (arith, near) }, placed_fit xs (behind at x) both.1)

-- ── batches ──

pub fields_stay : (s t : List Keyed) (v z : Ids) → t ≡ s → z ≡ v → said_fields (fields_in s) v ≡ said_fields (fields_in t) z
fields_stay s t v z e f = rw (e, f) refl

found_so : (f : Option IpcError) (r : Result Sending IpcError) (t : Sending) → unless_fault f r ≡ Ok t → r ≡ Ok t
found_so None r t h = h
found_so (Some e) r t h = cc

pub sent_file : (m : Moved) (old new : FileCore) (b : Batch) (h : HasSent m old new b) → have_same_kinds (fields_in (file_schema old)) (columns_of (forest b.arrays)) ≡ true → old.tracker.cannot_replace ≡ true
    → (x : List ℕ) (bs : List TableBatch) → IsFile (cells_by old) old x bs → IsFile (cells_by new) new (x ++ chunk_text h.sent b) (bs ++ cells_of b ∷ [])
sent_file m old new b h types kept x bs w =
    let fs = fields_in (file_schema old) in
    let below = file_ids old in
    let gs = said_fields fs below in
    let t : Sending = record { held = held_by new.tracker; used = h.used; sent = h.sent } in
    let found = found_so (columns_fault (columns_of (forest b.arrays)) below) _ t h.is_found in
    let ms = chunk_of gs h.sent b in
    let goes = chunk_goes old.options (options_of old.tracker) fs below b (begun old.tracker) t h.sent (front_by old x) bs kept found refl h.may.may types w.ids w.floats w.means in
    let xs = map sent_sizes h.sent in
    let y = sizes_of (batch_message b) in
    let bytes : x ++ flat_map bytes_of ms ≡ x ++ chunk_text h.sent b = ap (λ z. x ++ z) goes.1 in
    let ds : file_blocks old.blocks.dictionaries ++ values_blocks (length x) ms ≡ file_blocks new.blocks.dictionaries
    = ap (λ z. file_blocks old.blocks.dictionaries ++ z) (ap (λ n. values_blocks n ms) (sym w.end) ∙ values_at gs h.sent b old.blocks.end) ∙ sym h.blocks.dictionaries in
    let rs : file_blocks old.blocks.records ++ batch_blocks (length x) ms ≡ file_blocks new.blocks.records
    = ap (λ z. file_blocks old.blocks.records ++ z) (ap (λ n. batch_blocks n ms) (sym w.end) ∙ batch_at gs h.sent b old.blocks.end ∙ ap (λ n. block_at n y ∷ []) (behind_values old.blocks.end h.sent)) ∙ sym h.blocks.records in
    let front : with_more (front_by old x) ms ≡ front_by new (x ++ chunk_text h.sent b) = same_front _ _ _ _ _ _ bytes ds rs in
    let stay : gs ≡ file_fields new = fields_stay (file_schema old) (file_schema new) (file_ids old) (file_ids new) (ap rc_value h.stays.schema) (ap (λ z. ids_of z.fields.items) h.stays.ipc_schema) in
    let fit = all_parts (blocks_at old.blocks.end xs) (block_at (behind_all old.blocks.end xs) y ∷ []) (subst (AllByRecursion BlockFits) (blocks_more old.blocks.end xs y) (placed_fit (chunk_sizes h.sent b) old.blocks.end h.may.placed)) in
    let here = subst (λ z. FrontMeans gs z (cells_by new) (bs ++ cells_of b ∷ [])) front goes.0 in
    record {
      end = h.blocks.end ∙ ap (λ n. n + length (chunk_text h.sent b)) w.end ∙ sym (length-append x (chunk_text h.sent b));
      means = subst (λ gs. FrontMeans gs (front_by new (x ++ chunk_text h.sent b)) (cells_by new) (bs ++ cells_of b ∷ [])) stay here;
      schema = subst (λ gs. schemas.SchemaMayBeWritten gs []) stay w.schema;
      ids = subst (λ gs. schemas.IdsMayBeWritten gs) stay w.ids;
      floats = subst (λ gs. chosen_floats None gs 0 ≡ []) stay w.floats;
      dictionaries_fit = subst (AllByRecursion BlockFits) (sym h.blocks.dictionaries) (all_both (file_blocks old.blocks.dictionaries) (blocks_at old.blocks.end xs) w.dictionaries_fit fit.0);
      records_fit = subst (AllByRecursion BlockFits) (ap (λ n. file_blocks old.blocks.records ++ block_at n y ∷ []) (behind_values old.blocks.end h.sent) ∙ sym h.blocks.records)
          (all_both (file_blocks old.blocks.records) (block_at (behind_all old.blocks.end xs) y ∷ []) w.records_fit fit.1);
    }

-- ── end ──

-- a footer says a schema's fields with their own pairs alone
same_footer : (fs : Fields) (pairs custom : Metadata) (ds rs : List FileBlock) (levels : ℕ) → FieldsFit levels (schemas.own_fields fs) → footer_node (schemas.own_fields fs) pairs custom ds rs ≡ footer_node fs pairs custom ds rs
same_footer fs pairs custom ds rs levels fit = rw (nodes_own fs levels fit) refl

ended_table : EndedFrontMeansItsTable → (c : FileCore) (bytes : List ℕ) → ending_of c ≡ Ok bytes → Ascend [] (metadata_of c.pairs.footer) → length (metadata_of c.pairs.footer) ≤ 1048576 → SchemaIsSaid (own_fields c) (metadata_of c.pairs.schema) → MeansItsTable c bytes
unfolding file_ending
ended_table law c bytes text own_up few said k x bs w =
    through _ _ bytes text λ schema schema_is h1. through _ _ bytes h1 λ small small_is h2. through _ _ bytes h2 λ placed placed_is h3.
    let fs = own_fields c in
    let own = metadata_of c.pairs.schema in
    let custom = metadata_of c.pairs.footer in
    let footer = file_footer (fields_in (file_schema c)) (file_ids c) c.pairs c.blocks in
    let same : footer_of (file_fields c) own custom (front_by c x) ≡ footer = same_footer fs own custom (file_blocks c.blocks.dictionaries) (file_blocks c.blocks.records) 64 w.schema.fit in
    let short : size footer ≤ min c.options.metadata_limit 2147483647 = leb-true (size footer) (min c.options.metadata_limit 2147483647) (is_true _ TooLarge small small_is) in
    let may : MayBeEnded (file_fields c) own custom (front_by c x) = record {
      schema = said.schema;
      ids = w.ids;
      own = record { ascend = own_up; few = few };
      readable = w.floats;
      dictionaries = w.dictionaries_fit;
      records = w.records_fit;
      size = subst (λ n. size n < 2 ^ 31) (sym same) (omega (arith, short));
    } in
    let e : x ++ bytes ≡ ended (file_fields c) own custom (front_by c x) = ap (λ z. x ++ z) (sym (same_read _ bytes h3)) ∙ ap (λ n. x ++ file_end (layout n)) (sym same) in
    ap (λ z. file_table z «all») e ∙ law (file_fields c) own custom (front_by c x) k bs w.means may

pub ended_file : EndedFrontMeansItsTable → (c : FileCore) (bytes : List ℕ) → ending_of c ≡ Ok bytes → Ascend [] (metadata_of c.pairs.schema) → Ascend [] (metadata_of c.pairs.footer) → length (metadata_of c.pairs.footer) ≤ 1048576 → EndsFile c bytes
ended_file law c bytes text up own_up few = record {
  said = λ said. ended_table law c bytes text own_up few said;
  written = λ reg k x bs w. ended_table law c bytes text own_up few (said_regular (own_fields c) [] (metadata_of c.pairs.schema) w.schema w.ids reg up) k x bs w;
}
