-- A batch's message is that of its columns as they are written, and it may be sent where it is within the limits.
use Rattle.std.proofs.Common.{◌≡◌, ℕ, ◌+◌, ◌-◌, ◌%◌, ◌^◌, ◌<◌, List, [], ◌++◌, Bool, true, false, length, min, refl, sym, ap, ◌∙◌, arith, subst, true≢false}
use Rattle.std.specs.Prelude.{nat_le, ◌&&◌}
use Rattle.std.proofs.lemmas.Bool.{leb-true}
use Rattle.std.proofs.lemmas.List.{length-append, length-replicate}
use Rattle.arrow_spec.specs.Layout.{Node, layout, size, up_to, zeros}
use Rattle.arrow_spec.specs.Framing.{body_bytes, message_bytes, prefixed}
use Rattle.arrow_spec.specs.Sent.{message, batch_node, may_be_sent}
use Rattle.arrow_spec.proofs.NextMessages.{length-layout}
use Rattle.arrow_arrays.specs.Batches.{Batch}
use Rattle.ipc_write_arrays.specs.Below.{written_of, body_for, written_batch, batch_bytes}
use Rattle.ipc_write.specs.Batches.{columns_pieces, batch_message, batch_body, is_within, written_batch_of}
use Rattle.ipc_write.specs.Outcomes.{message_frame, metadata_frame}
use Rattle.ipc_write.proofs.ColumnSteps.{same_pieces}
use Rattle.ipc_write.proofs.PlannedMessages.{short_is_sent, short_then_sent}
use Rattle.ipc_write.proofs.Putting.{aligned_pieces, frame_whole}

-- ── the message ──

pub same_body : (b : Batch) → batch_body b ≡ body_for (written_batch_of b).columns
same_body b = ap (body_bytes 0) (same_pieces b.arrays)

pub same_message : (b : Batch) → batch_message b ≡ written_batch (written_batch_of b)
unfolding batch_message
same_message b = ap (λ xs. message 3 (batch_node b.height (written_of (written_batch_of b).columns)) (length xs) b.custom) (same_body b)

-- a body that ends at a multiple of 64 is followed by no zeros
pub framed_whole : (n : Node) (body : List ℕ) → length body % 64 ≡ 0 → message_frame (layout n) body ≡ message_bytes n body
unfolding message_bytes
framed_whole n body h = sym (frame_whole (layout n) body h) ∙ ap (λ k. prefixed (up_to 8 k) (layout n ++ zeros (up_to 8 k - k)) ++ body) (length-layout n)

-- what is framed of a batch is the batch as it is written
pub framed_is_batch : (b : Batch) → message_frame (layout (batch_message b).node) (batch_body b) ≡ batch_bytes (written_batch_of b)
framed_is_batch b = framed_whole (batch_message b).node (batch_body b) (aligned_pieces (columns_pieces b.arrays)) ∙ ap (λ x. message_bytes x.node (batch_body b)) (same_message b) ∙ ap (message_bytes (written_batch (written_batch_of b)).node) (same_body b)

-- ── the limits ──

pub within_is_sent : (b : Batch) → is_within 2147483647 b ≡ true → may_be_sent (batch_message b) ≡ true
unfolding is_within
within_is_sent b h = short_then_sent b.height (batch_message b) h

pub beyond_is_not_sent : (b : Batch) → b.height < 2 ^ 63 → is_within 2147483647 b ≡ false → may_be_sent (batch_message b) ≡ false
unfolding is_within
beyond_is_not_sent b few h = sym (short_is_sent b.height (batch_message b) few) ∙ h

all_of : (a b c : Bool) → (a && b && c) ≡ true → (a ≡ true) × (b ≡ true)
all_of true true c h = (refl, refl)
all_of true false c h = absurd (true≢false (sym h))
all_of false b c h = absurd (true≢false (sym h))

-- the padded metadata and the body of a batch within the limits
pub within_limits : (b : Batch) → is_within 2147483647 b ≡ true → (up_to 8 (length (layout (batch_message b).node)) < 2 ^ 31) × (length (batch_body b) < 2 ^ 63)
unfolding is_within batch_message
within_limits b h =
    let x = up_to 8 (size (batch_message b).node) in
    let both = all_of (nat_le x (min 2147483647 2147483647)) (nat_le (length (batch_body b)) 9223372036854775807) (nat_le b.height 9223372036854775807) h in
    let small : x < 2 ^ 31 = omega (arith, leb-true x (min 2147483647 2147483647) both.0) in
    let short : length (batch_body b) < 2 ^ 63 = omega (arith, leb-true (length (batch_body b)) 9223372036854775807 both.1) in
    (subst (λ n. up_to 8 n < 2 ^ 31) (sym (length-layout (batch_message b).node)) small, short)

-- a message has bytes
pub frame_some : (metadata body : List ℕ) → 0 < length (message_frame metadata body)
unfolding message_frame
frame_some metadata body =
    let zero_count = up_to 8 (length metadata) - length metadata in
    let front : length (metadata_frame metadata) ≡ 8 + up_to 8 (length metadata) = omega (arith, length-append metadata (zeros zero_count), length-replicate {A = ℕ} zero_count 0) in
    omega (arith, front, length-append (metadata_frame metadata) (body ++ zeros (up_to 64 (length body) - length body)))

-- how many bytes a message has whose body ends at a multiple of 64
pub length-frame : (metadata body : List ℕ) → length body % 64 ≡ 0 → length (message_frame metadata body) ≡ 8 + up_to 8 (length metadata) + length body
length-frame metadata body h =
    let zero_count = up_to 8 (length metadata) - length metadata in
    let front : length (metadata_frame metadata) ≡ 8 + up_to 8 (length metadata) = omega (arith, length-append metadata (zeros zero_count), length-replicate {A = ℕ} zero_count 0) in
    sym (ap length (frame_whole metadata body h)) ∙ length-append (metadata_frame metadata) body ∙ ap (λ n. n + length body) front
