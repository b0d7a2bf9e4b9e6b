-- What a file means behind messages that were encoded before.
use Rattle.std.proofs.Common.{◌≡◌, ◌++◌, ◌∷◌, ◌+◌, ℕ, List, [], length, map, None, refl, sym, ap, ◌∙◌, subst, arith, append-nil, length-append}
use Rattle.std.specs.List.{AllByRecursion, flat_map}
use Rattle.std.specs.Rc.{rc_value}
use Rattle.std.proofs.lemmas.Grind.{flat_map-append}
use Rattle.std.proofs.lemmas.List.{map-append}
use Rattle.arrow_spec.specs.Features.{chosen_floats}
use Rattle.arrow_spec.specs.Files.{TableBatch}
use Rattle.arrow_spec.specs.WrittenSchemas.{IdsMayBeWritten, SchemaMayBeWritten}
use Rattle.laws_files.specs.FileLaws.{BlockFits}
use Rattle.ipc_fields.specs.IpcFields.{ids_of}
use Rattle.ipc_messages.specs.Below.{Moved, EncodedData}
use Rattle.laws_files.specs.Below.{WrittenBatch, batch_bytes, body_for, table_batch, written_batch, Known, WrittenValues, batch_in, bytes_of, values_bytes, values_message, with_messages}
use Rattle.ipc_messages.specs.Framed.{given_sizes, given_text}
use Rattle.laws_files.specs.Files.{FrontMeans, MayBeAdded, batch_blocks, values_blocks, with_more}
use Rattle.laws_files.proofs.Lists.{message_long}
use Rattle.laws_files.proofs.Messages.{values_long}
use Rattle.laws_files.proofs.Tables.{front_goes_on}
use Rattle.ipc_file_writer.specs.declared.file.FileCore.{FileCore}
use Rattle.ipc_file_writer.specs.Blocks.{behind, behind_all, block_at, blocks_at, file_blocks}
use Rattle.ipc_file_writer.specs.Calls.{file_ids, file_schema}
use Rattle.ipc_file_writer.specs.Given.{AreEncoded, AreGivenPut, IsEncoded, given_chunk, written_chunk}
use Rattle.ipc_file_writer.specs.Written.{IsFile, file_fields, front_by}
use Rattle.ipc_file_writer.proofs.Meaning.{all_both, all_parts, fields_stay, placed_fit, same_front}
use Rattle.ipc_file_writer.proofs.PlacedBlocks.{behind_more, blocks_more}

-- ── one message ──

values_total : (v : WrittenValues) (e : EncodedData) → IsEncoded (values_message v) (values_bytes v) e → length (given_text e) ≡ (given_sizes e).front + (given_sizes e).body
values_total v e h = ap length h.text ∙ message_long (values_message v) (body_for (v.column ∷ [])) (values_long v) ∙ ap (λ s. s.front + s.body) (sym h.sizes)

batch_total : (y : WrittenBatch) (e : EncodedData) → IsEncoded (written_batch y) (batch_bytes y) e → length (given_text e) ≡ (given_sizes e).front + (given_sizes e).body
batch_total y e h = ap length h.text ∙ message_long (written_batch y) (body_for y.columns) refl ∙ ap (λ s. s.front + s.body) (sym h.sizes)

-- ── one behind another ──

given_batches : (vs : List WrittenValues) (y : WrittenBatch) → flat_map batch_in (written_chunk vs y) ≡ table_batch y ∷ []
given_batches [] y = refl
given_batches (v ∷ vs) y = given_batches vs y

given_bytes : (vs : List WrittenValues) (y : WrittenBatch) (ds : List EncodedData) (b : EncodedData) → AreEncoded vs ds → IsEncoded (written_batch y) (batch_bytes y) b → flat_map bytes_of (written_chunk vs y) ≡ flat_map given_text (given_chunk ds b)
given_bytes [] y [] b h k = ap (λ x. x ++ []) (sym k.text)
given_bytes [] y (d ∷ ds) b h k = absurd h
given_bytes (v ∷ vs) y [] b h k = absurd h
given_bytes (v ∷ vs) y (d ∷ ds) b h k = ap (λ x. x ++ flat_map bytes_of (written_chunk vs y)) (sym h.0.text) ∙ ap (λ x. given_text d ++ x) (given_bytes vs y ds b h.1 k)

given_values : (vs : List WrittenValues) (y : WrittenBatch) (ds : List EncodedData) (at : ℕ) → AreEncoded vs ds → values_blocks at (written_chunk vs y) ≡ blocks_at at (map given_sizes ds)
given_values [] y [] at h = refl
given_values [] y (d ∷ ds) at h = absurd h
given_values (v ∷ vs) y [] at h = absurd h
given_values (v ∷ vs) y (d ∷ ds) at h =
    ap (λ s. block_at at s ∷ values_blocks (behind at s) (written_chunk vs y)) (sym h.0.sizes) ∙ ap (λ xs. block_at at (given_sizes d) ∷ xs) (given_values vs y ds (behind at (given_sizes d)) h.1)

given_record : (vs : List WrittenValues) (y : WrittenBatch) (ds : List EncodedData) (b : EncodedData) (at : ℕ) → AreEncoded vs ds → IsEncoded (written_batch y) (batch_bytes y) b → batch_blocks at (written_chunk vs y) ≡ block_at (behind_all at (map given_sizes ds)) (given_sizes b) ∷ []
given_record [] y [] b at h k = ap (λ s. block_at at s ∷ []) (sym k.sizes)
given_record [] y (d ∷ ds) b at h k = absurd h
given_record (v ∷ vs) y [] b at h k = absurd h
given_record (v ∷ vs) y (d ∷ ds) b at h k = ap (λ s. batch_blocks (behind at s) (written_chunk vs y)) (sym h.0.sizes) ∙ given_record vs y ds b (behind at (given_sizes d)) h.1 k

given_end : (vs : List WrittenValues) (ds : List EncodedData) (at : ℕ) → AreEncoded vs ds → behind_all at (map given_sizes ds) ≡ at + length (flat_map given_text ds)
given_end [] [] at h = omega arith
given_end [] (d ∷ ds) at h = absurd h
given_end (v ∷ vs) [] at h = absurd h
given_end (v ∷ vs) (d ∷ ds) at h = omega (arith, given_end vs ds (behind at (given_sizes d)) h.1, length-append (given_text d) (flat_map given_text ds), values_total v d h.0)

whole_end : (vs : List WrittenValues) (y : WrittenBatch) (ds : List EncodedData) (b : EncodedData) (at : ℕ) → AreEncoded vs ds → IsEncoded (written_batch y) (batch_bytes y) b → behind_all at (map given_sizes (given_chunk ds b)) ≡ at + length (flat_map given_text (given_chunk ds b))
whole_end vs y ds b at h k =
    let sizes = map given_sizes ds in
    let here : behind_all at (map given_sizes (given_chunk ds b)) ≡ behind (behind_all at sizes) (given_sizes b) = ap (behind_all at) (map-append given_sizes ds (b ∷ [])) ∙ behind_more at sizes (given_sizes b) in
    let all : length (flat_map given_text (given_chunk ds b)) ≡ length (flat_map given_text ds) + length (given_text b)
    = ap length (flat_map-append given_text ds (b ∷ []) ∙ ap (λ x. flat_map given_text ds ++ x) (append-nil (given_text b))) ∙ length-append (flat_map given_text ds) (given_text b) in
    omega (arith, here, all, given_end vs ds at h, batch_total y b k)

-- ── the file ──

pub given_file : (m : Moved) (old new : FileCore) (ds : List EncodedData) (b : EncodedData) → AreGivenPut m old new ds b → (k : Known) (x : List ℕ) (bs : List TableBatch) (vs : List WrittenValues) (y : WrittenBatch)
    → AreEncoded vs ds → IsEncoded (written_batch y) (batch_bytes y) b → MayBeAdded (file_fields old) k (written_chunk vs y) → IsFile k old x bs
    → IsFile (with_messages (written_chunk vs y) k) new (x ++ flat_map given_text (given_chunk ds b)) (bs ++ table_batch y ∷ [])
given_file m old new ds b h k x bs vs y are is may w =
    let gs = file_fields old in
    let ms = written_chunk vs y in
    let text = flat_map given_text (given_chunk ds b) in
    let at = old.blocks.end in
    let sizes = map given_sizes ds in
    let z = given_sizes b in
    let on : FrontMeans gs (with_more (front_by old x) ms) (with_messages ms k) (bs ++ table_batch y ∷ [])
    = subst (λ ys. FrontMeans gs (with_more (front_by old x) ms) (with_messages ms k) (bs ++ ys)) (given_batches vs y) (front_goes_on gs (front_by old x) k bs ms w.means may) in
    let bytes : x ++ flat_map bytes_of ms ≡ x ++ text = ap (λ t. x ++ t) (given_bytes vs y ds b are is) in
    let own_ds : file_blocks old.blocks.dictionaries ++ values_blocks (length x) ms ≡ file_blocks new.blocks.dictionaries
    = ap (λ t. file_blocks old.blocks.dictionaries ++ t) (ap (λ n. values_blocks n ms) (sym w.end) ∙ given_values vs y ds at are) ∙ sym h.blocks.dictionaries in
    let own_rs : file_blocks old.blocks.records ++ batch_blocks (length x) ms ≡ file_blocks new.blocks.records
    = ap (λ t. file_blocks old.blocks.records ++ t) (ap (λ n. batch_blocks n ms) (sym w.end) ∙ given_record vs y ds b at are is) ∙ sym h.blocks.records in
    let front : with_more (front_by old x) ms ≡ front_by new (x ++ text) = same_front _ _ _ _ _ _ bytes own_ds own_rs in
    let stay : gs ≡ file_fields new = fields_stay (file_schema old) (file_schema new) (file_ids old) (file_ids new) (ap rc_value h.held.stays.schema) (ap (λ s. ids_of s.fields.items) h.held.stays.ipc_schema) in
    let fit = all_parts (blocks_at at sizes) (block_at (behind_all at sizes) z ∷ [])
    (subst (AllByRecursion BlockFits) (ap (blocks_at at) (map-append given_sizes ds (b ∷ [])) ∙ blocks_more at sizes z) (placed_fit (map given_sizes (given_chunk ds b)) at h.may.placed)) in
    record {
      end = h.blocks.end ∙ whole_end vs y ds b at are is ∙ ap (λ n. n + length text) w.end ∙ sym (length-append x text);
      means = subst (λ gs. FrontMeans gs (front_by new (x ++ text)) (with_messages ms k) (bs ++ table_batch y ∷ [])) stay (subst (λ f. FrontMeans gs f (with_messages ms k) (bs ++ table_batch y ∷ [])) front on);
      schema = subst (λ gs. SchemaMayBeWritten gs []) stay w.schema;
      ids = subst (λ gs. IdsMayBeWritten gs) stay w.ids;
      floats = subst (λ gs. chosen_floats None gs 0 ≡ []) stay w.floats;
      dictionaries_fit = subst (AllByRecursion BlockFits) (sym h.blocks.dictionaries) (all_both (file_blocks old.blocks.dictionaries) (blocks_at at sizes) w.dictionaries_fit fit.0);
      records_fit = subst (AllByRecursion BlockFits) (sym h.blocks.records) (all_both (file_blocks old.blocks.records) (block_at (behind_all at sizes) z ∷ []) w.records_fit fit.1);
    }
