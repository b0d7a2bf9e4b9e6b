-- How many bytes messages have.
use Rattle.std.proofs.Common.{◌≡◌, ℕ, ◌+◌, ◌*◌, ◌^◌, ◌<◌, ◌≤◌, ◌&&◌, true, List, [], ◌∷◌, ◌++◌, length, map, take, refl, sym, ap, ◌∙◌, arith, append-nil, length-append}
use Rattle.std.specs.List.{flat_map}
use Rattle.std.specs.Prelude.{min, nat_le}
use Rattle.std.proofs.lemmas.Bool.{and_parts, leb-true}
use Rattle.std.proofs.lemmas.List.{map-append, take_all}
use Rattle.arrow_spec.specs.Flat.{little}
use Rattle.arrow_spec.specs.Framing.{body_bytes, message_bytes, padded, padded_size}
use Rattle.arrow_spec.specs.Layout.{Node, size, up_to}
use Rattle.arrow_spec.specs.Sent.{body_of}
use Rattle.arrow_spec.proofs.Bodies.{length-body}
use Rattle.arrow_spec.proofs.NextMessages.{length-padded}
use Rattle.arrow_arrays.specs.Batches.{Batch}
use Rattle.arrow_arrays.specs.Parts.{rows_in}
use Rattle.ipc_write.specs.Below.{batch_bytes, body_for, written_batch, pieces_in}
use Rattle.ipc_dictionaries.specs.NewDictionaries.{ToSend}
use Rattle.ipc_messages.specs.Encoded.{all_fit, fits}
use Rattle.ipc_write.specs.Batches.{batch_message, is_within, written_batch_of}
use Rattle.ipc_write.specs.declared.options.WriteOptions.{WriteOptions}
use Rattle.ipc_write.proofs.Written.{same_message}
use Rattle.ipc_messages.specs.declared.planned.PlannedMessage.{PlannedMessage}
use Rattle.ipc_messages.specs.Chunks.{MayBeSent}
use Rattle.ipc_messages.specs.Messages.{Sizes, chunk_text, message_of, planned_sizes, sent_sizes, sizes_of, total, values_text}

-- ── one message ──

pub length-message : (n : Node) (body : List ℕ) → length (message_bytes n body) ≡ 8 + padded_size n + length body
unfolding message_bytes
length-message n body = omega (arith, length-append (padded n) body, length-padded n)

pub length-values : (s : ToSend) → length (values_text s) ≡ (sent_sizes s).front + (sent_sizes s).body
length-values s =
    let ps = pieces_in little s.part in
    let whole : body_of 0 (map length (ps ++ [])) ≡ body_of 0 (map length ps) = ap (λ xs. body_of 0 (map length xs)) (append-nil ps) in
    omega (arith, length-message (message_of s).node (body_bytes 0 ps), whole, length-body ps 0)

pub length-batch : (b : Batch) → length (batch_bytes (written_batch_of b)) ≡ (sizes_of (batch_message b)).front + (sizes_of (batch_message b)).body
length-batch b =
    let x = written_batch_of b in
    let long : length (batch_bytes x) ≡ (sizes_of (written_batch x)).front + (sizes_of (written_batch x)).body = omega (arith, length-message (written_batch x).node (body_for x.columns)) in
    long ∙ ap (λ m. (sizes_of m).front + (sizes_of m).body) (sym (same_message b))

-- ── messages ──

total-more : (xs : List Sizes) (x : Sizes) → total (xs ++ x ∷ []) ≡ total xs + (x.front + x.body)
total-more [] x = omega arith
total-more (y ∷ xs) x = omega (arith, total-more xs x)

total-values : (sent : List ToSend) → total (map sent_sizes sent) ≡ length (flat_map values_text sent)
total-values [] = refl
total-values (s ∷ sent) = omega (arith, total-values sent, length-append (values_text s) (flat_map values_text sent), length-values s)

pub chunk_length : (sent : List ToSend) (b : Batch) → total (map sent_sizes sent ++ sizes_of (batch_message b) ∷ []) ≡ length (chunk_text sent b)
chunk_length sent b =
    omega (arith, total-more (map sent_sizes sent) (sizes_of (batch_message b)), total-values sent, length-append (flat_map values_text sent) (batch_bytes (written_batch_of b)), length-batch b)

-- one more
pub total_more : (ms : List PlannedMessage) (i : ℕ) (m : PlannedMessage) (old : ℕ) → take (i + 1) ms ≡ take i ms ++ m ∷ [] → old ≡ total (map planned_sizes (take i ms))
    → old + ((planned_sizes m).front + (planned_sizes m).body) ≡ total (map planned_sizes (take (i + 1) ms))
total_more ms i m old e h =
    let more : total (map planned_sizes (take (i + 1) ms)) ≡ total (map planned_sizes (take i ms)) + ((planned_sizes m).front + (planned_sizes m).body)
    = ap (λ xs. total (map planned_sizes xs)) e ∙ ap total (map-append planned_sizes (take i ms) (m ∷ [])) ∙ total-more (map planned_sizes (take i ms)) (planned_sizes m) in
    omega (arith, more, h)

-- all of them
pub total_all : (ms : List PlannedMessage) (i n : ℕ) → length ms ≤ i → n ≡ total (map planned_sizes (take i ms)) → n ≡ total (map planned_sizes ms)
total_all ms i n h e = e ∙ ap (λ xs. total (map planned_sizes xs)) (take_all i ms h)

-- ── bounds ──

short_values : (options : WriteOptions) (s : ToSend) → fits options s ≡ true → (sent_sizes s).front + (sent_sizes s).body ≤ 2 ^ 63 + 2 ^ 32
short_values options s h =
    let m = message_of s in
    let node = nat_le (up_to 8 (size m.node)) (min options.metadata_limit 2147483647) in
    let first = and_parts (node && nat_le m.body 9223372036854775807) (nat_le (rows_in s.part) 9223372036854775807) h in
    let both = and_parts node (nat_le m.body 9223372036854775807) first.0 in
    let small = leb-true (up_to 8 (size m.node)) (min options.metadata_limit 2147483647) both.0 in
    let short = leb-true m.body 9223372036854775807 both.1 in
    omega (arith, small, short)

short_all : (options : WriteOptions) (sent : List ToSend) → all_fit options sent ≡ true → length (flat_map values_text sent) ≤ length sent * (2 ^ 63 + 2 ^ 32)
short_all options [] h = omega arith
short_all options (s ∷ sent) h =
    let both = and_parts (fits options s) (all_fit options sent) h in
    omega (arith, length-append (values_text s) (flat_map values_text sent), length-values s, short_values options s both.0, short_all options sent both.1)

short_batch : (limit : ℕ) (b : Batch) → is_within limit b ≡ true → length (batch_bytes (written_batch_of b)) ≤ 2 ^ 63 + 2 ^ 32
unfolding is_within
short_batch limit b h =
    let m = batch_message b in
    let node = nat_le (up_to 8 (size m.node)) (min limit 2147483647) in
    let first = and_parts (node && nat_le m.body 9223372036854775807) (nat_le b.height 9223372036854775807) h in
    let both = and_parts node (nat_le m.body 9223372036854775807) first.0 in
    let small = leb-true (up_to 8 (size m.node)) (min limit 2147483647) both.0 in
    let short = leb-true m.body 9223372036854775807 both.1 in
    omega (arith, length-batch b, small, short)

-- as many messages as a list can have
pub few_bytes : (options : WriteOptions) (sent : List ToSend) (b : Batch) → length sent < 2 ^ 63 → MayBeSent options sent b → length (chunk_text sent b) < 2 ^ 127 + 2 ^ 96
few_bytes options sent b few may =
    let values = short_all options sent may.fit in
    let own = short_batch options.metadata_limit b may.within in
    omega (arith, length-append (flat_map values_text sent) (batch_bytes (written_batch_of b)), few, values, own)
