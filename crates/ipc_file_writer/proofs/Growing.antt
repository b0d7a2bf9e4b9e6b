-- The blocks of a file behind which those of a batch and of its dictionaries stand.
use Rattle.std.proofs.Common.{◌≡◌, ℕ, ◌+◌, List, [], ◌∷◌, ◌++◌, length, map, get_or, drop, refl, ap, ◌∙◌, arith, length-append}
use Rattle.std.specs.List.{flat_map}
use Rattle.std.proofs.lemmas.List.{map-append}
use Rattle.arrow_arrays.specs.Batches.{Batch}
use Rattle.laws_files.specs.Below.{batch_bytes}
use Rattle.ipc_messages.specs.Below.{ToSend, file_block, batch_message, written_batch_of}
use Rattle.ipc_messages.specs.Messages.{Sizes, chunk_text, sent_sizes, sizes_of, values_text}
use Rattle.ipc_messages.proofs.Lengths.{length-batch, length-values}
use Rattle.ipc_file_writer.specs.declared.blocks.ChunkBlocks.{ChunkBlocks}
use Rattle.ipc_file_writer.specs.declared.blocks.FileBlocks.{FileBlocks}
use Rattle.ipc_file_writer.specs.Blocks.{HasMore, IsChunkPlaced, SameBlocks, behind_all, block_at, blocks_at, chunk_sizes}
use Rattle.ipc_file_writer.proofs.PlacedBlocks.{behind_more, blocks_more}

-- ── how long messages are ──

abbrev total : Sizes → ℕ
total x = x.front + x.body

pub behind_values : (at : ℕ) (sent : List ToSend) → behind_all at (map sent_sizes sent) ≡ at + length (flat_map values_text sent)
behind_values at [] = omega arith
behind_values at (s ∷ sent) =
    omega (arith, behind_values (at + total (sent_sizes s)) sent, length-append (values_text s) (flat_map values_text sent), length-values s)

pub behind_chunk : (at : ℕ) (sent : List ToSend) (b : Batch) → behind_all at (chunk_sizes sent b) ≡ at + length (chunk_text sent b)
behind_chunk at sent b =
    let here : behind_all at (chunk_sizes sent b) ≡ behind_all at (map sent_sizes sent) + total (sizes_of (batch_message b)) = behind_more at (map sent_sizes sent) (sizes_of (batch_message b)) in
    omega (arith, here, behind_values at sent, length-append (flat_map values_text sent) (batch_bytes (written_batch_of b)), length-batch b)

-- ── the last of a list ──

pub last_two : {A : Type 0} (xs ys : List A) (x y : A) → xs ++ x ∷ [] ≡ ys ++ y ∷ [] → (xs ≡ ys) × (x ≡ y)
last_two [] [] x y e = (refl, ap (λ l. get_or l 0 x) e)
last_two [] (z ∷ ys) x y e = absurd (omega (arith, ap length e, length-append ys (y ∷ [])))
last_two (w ∷ xs) [] x y e = absurd (omega (arith, ap length e, length-append xs (x ∷ [])))
last_two (w ∷ xs) (z ∷ ys) x y e =
    let rest = last_two xs ys x y (ap (drop 1) e) in
    (ap (λ v. v ∷ xs) (ap (λ l. get_or l 0 w) e) ∙ ap (λ l. z ∷ l) rest.0, rest.1)

-- ── a batch and its dictionaries ──

-- behind a file's blocks are those of the messages of a batch and of its dictionaries
pub grown : (old middle new : FileBlocks) (sent : List ToSend) (b : Batch) (c : ChunkBlocks) → SameBlocks old middle → IsChunkPlaced old.end (chunk_sizes sent b) c
    → new.dictionaries.items ≡ middle.dictionaries.items ++ c.dictionaries.items → new.records.items ≡ middle.records.items ++ c.batch ∷ [] → new.end ≡ c.end → HasMore old new sent b
grown old middle new sent b c s p d r e =
    let xs = map sent_sizes sent in
    let y = sizes_of (batch_message b) in
    let parts = last_two (map file_block c.dictionaries.items) (blocks_at old.end xs) (file_block c.batch) (block_at (behind_all old.end xs) y) (p.blocks ∙ blocks_more old.end xs y) in
    record {
      dictionaries = ap (map file_block) (d ∙ ap (λ ys. ys ++ c.dictionaries.items) s.dictionaries) ∙ map-append file_block old.dictionaries.items c.dictionaries.items ∙ ap (λ ys. map file_block old.dictionaries.items ++ ys) parts.0;
      records = ap (map file_block) (r ∙ ap (λ ys. ys ++ c.batch ∷ []) s.records) ∙ map-append file_block old.records.items (c.batch ∷ [])
          ∙ ap (λ z. map file_block old.records.items ++ z ∷ []) (parts.1 ∙ ap (λ n. block_at n y) (behind_values old.end sent));
      end = e ∙ p.end ∙ behind_chunk old.end sent b;
    }
