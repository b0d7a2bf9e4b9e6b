-- How many rows a batch has that was read of a block, and how many bytes its message.
use Rattle.std.proofs.Common.{◌≡◌, ℕ, ◌+◌, ◌^◌, ◌<◌, ◌≤◌, ◌&&◌, List, [], length, true, Option, Some, None, Ok, ℤ, pos, negsuc, ap, arith}
use Rattle.std.specs.Prelude.{FitsSigned, nat_le, min}
use Rattle.std.specs.Int.{w64}
use Rattle.std.proofs.lemmas.Bool.{and_parts, leb-true}
use Rattle.arrow_spec.specs.declared.message.MetadataVersion.{MetadataVersion}
use Rattle.arrow_spec.specs.Files.{Asked, TableBatch, batch_of_tables, share, to_read}
use Rattle.arrow_spec.specs.Kinds.{Metadata}
use Rattle.arrow_spec.specs.Layout.{size, up_to}
use Rattle.arrow_spec.specs.Messages.{BatchHeader}
use Rattle.arrow_spec.specs.Readings.{natural}
use Rattle.arrow_spec.proofs.ReadPairs.{same_read, through}
use Rattle.arrow_arrays.specs.Batches.{Batch}
use Rattle.ipc_stream_writer.specs.Below.{ToSend, chunk_text}
use Rattle.ipc_reader.specs.Below.{batch_message, is_within, written_batch_of}
use Rattle.ipc_write_laws.specs.Streams.{batch_bytes}
use Rattle.ipc_stream_writer.proofs.Below.{length-batch}
use Rattle.laws_transcode.specs.Files.{HeaderFits}

few_of : (n : ℤ) (rows : ℕ) → FitsSigned w64 n → natural n ≡ Ok rows → rows < 2 ^ 63
few_of (pos n) rows fits h = let same : n ≡ rows = same_read n rows h in omega (arith, fits.sfits, same)
few_of (negsuc n) rows fits h = cc

within_share : (left : Option ℕ) (n : ℕ) → share left n ≤ n
within_share None n = omega arith
within_share (Some l) n = omega arith

-- they are less than 2^63
pub few_rows : (a : Asked) (v : MetadataVersion) (custom : Metadata) (tables : BatchHeader) (body : List ℕ) (left : Option ℕ) (x : TableBatch) → HeaderFits tables → batch_of_tables to_read a v custom tables body left ≡ Ok x → x.rows < 2 ^ 63
unfolding batch_of_tables
few_rows a v custom tables body left x fits h =
    through _ _ x h λ c c_is h1. through _ _ x h1 λ rows rows_is h2. through _ _ x h2 λ n n_is h3. through _ _ x h3 λ s s_is h4. through _ _ x h4 λ columns columns_is h5. through _ _ x h5 λ z z_is h6.
    let few = few_of tables.length rows fits.rows rows_is in
    let same : share left rows ≡ x.rows = ap (λ (y : TableBatch). y.rows) (same_read _ x h6) in
    omega (arith, few, same, within_share left rows)

within_parts : (b : Batch) → is_within 2147483647 b ≡ true → (up_to 8 (size (batch_message b).node) ≤ 2147483647) × ((batch_message b).body ≤ 9223372036854775807)
unfolding is_within
within_parts b h =
    let node = up_to 8 (size (batch_message b).node) in
    let first = and_parts (nat_le node (min 2147483647 2147483647) && nat_le (batch_message b).body 9223372036854775807) (nat_le b.height 9223372036854775807) h in
    let both = and_parts (nat_le node (min 2147483647 2147483647)) (nat_le (batch_message b).body 9223372036854775807) first.0 in
    let small = leb-true node (min 2147483647 2147483647) both.0 in
    let short = leb-true (batch_message b).body 9223372036854775807 both.1 in
    (omega (arith, small), omega (arith, short))

-- behind the first batch no dictionary's values stand before a batch
pub later_length : (sent : List ToSend) (b : Batch) → sent ≡ [] → is_within 2147483647 b ≡ true → length (chunk_text sent b) ≤ 2 ^ 63 + 2 ^ 32
later_length sent b none h =
    let parts = within_parts b h in
    let same : length (chunk_text sent b) ≡ length (batch_bytes (written_batch_of b)) = ap (λ ss. length (chunk_text ss b)) none in
    omega (arith, same, length-batch b, parts.0, parts.1)
