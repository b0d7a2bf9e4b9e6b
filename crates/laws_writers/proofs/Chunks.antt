-- Messages of values and of a batch may be written where the values of their dictionaries are known.
use Rattle.std.proofs.Common.{◌≡◌, ◌++◌, ℕ, ◌^◌, ◌<◌, ℤ, List, [], ◌∷◌, Bool, true, Some, None, length, map, min, refl, sym, ap, subst, ◌∙◌, append-nil, append_assoc, arith}
use Rattle.std.specs.Prelude.{FitsSigned, nat_le, ◌&&◌}
use Rattle.std.specs.Int.{w64}
use Rattle.std.specs.List.{flat_map, AllByRecursion}
use Rattle.std.specs.Option.{unwrap_or}
use Rattle.std.proofs.lemmas.Bool.{and_from, and_parts, leb-true, le-leb}
use Rattle.std.proofs.lemmas.List.{append_cancel_left}
use Rattle.arrow_spec.specs.Bodies.{NodeFits}
use Rattle.arrow_spec.specs.Features.{chosen_floats}
use Rattle.arrow_spec.specs.Flat.{little}
use Rattle.arrow_spec.specs.Framing.{body_bytes, message_bytes}
use Rattle.arrow_spec.specs.Kinds.{Kind, Fields, uses_in, values_under}
use Rattle.arrow_spec.specs.Counts.{Written}
use Rattle.arrow_spec.specs.Layout.{size, up_to}
use Rattle.arrow_spec.specs.Sent.{SentMessage, batch_node, may_be_sent, message}
use Rattle.arrow_spec.specs.WrittenSchemas.{CustomMayBeWritten, IdsMayBeWritten}
use Rattle.ipc_messages.specs.Below.{Batch, Parts, forest, kind_in, fields_with, ToSend}
use Rattle.laws_files.specs.Below.{batch_bytes, body_for, pieces_of, written_batch, written_of, AllMayBeWritten, BatchMayBeWritten, Known, ValuesMayBeWritten, bytes_of, message_of_values, values_bytes, with_messages, with_values}
use Rattle.laws_columns.specs.Below.{other_fields, column_in, pieces_in, batch_message, columns_written, is_within, top_column, written_batch_of, AllMean, AreAlike, columns_under, NodesFit, is_short, WriteOptions, MayBeValues}
use Rattle.laws_columns.proofs.Below.{first_rows, columns_mean, columns_under_are_of, same_message}
use Rattle.ipc_messages.specs.Encoded.{AllMayBeValues, all_fit, fits}
use Rattle.ipc_messages.specs.Messages.{chunk_text, values_text}
use Rattle.laws_columns.specs.Laws.{batch_under}
use Rattle.laws_columns.proofs.ReadColumns.{written_under}
use Rattle.laws_writers.specs.Heard.{AllHaveValuesAt, AllMayStand, MayStand, heard, with_part}
use Rattle.laws_writers.proofs.Apart.{columns_of_kinds}
use Rattle.laws_writers.proofs.Stated.{sent_may_stand}
use Rattle.laws_writers.proofs.Walks.{sent_is_known}
use Rattle.laws_writers.specs.Chunks.{chunk_of, values_as, values_of}
use Rattle.laws_writers.specs.ChunkLaws.{ChunkMayBeWritten}
use Rattle.laws_writers.proofs.Held.{columns_alike, columns_held, held_at}
use Rattle.laws_writers.proofs.Uses.{free_under, under_has}

-- ── sizes ──

-- a message within a limit may be sent, and has few rows
record IsSmall (rows : ℕ) (m : SentMessage) : Type 0 where
  size : may_be_sent m ≡ true
  few : rows < 2 ^ 63

small_by : (limit rows : ℕ) (m : SentMessage) → is_short limit rows m ≡ true → IsSmall rows m
unfolding may_be_sent
small_by limit rows m h =
    let x = up_to 8 (size m.node) in
    let first = and_parts (nat_le x (min limit 2147483647) && nat_le m.body 9223372036854775807) (nat_le rows 9223372036854775807) h in
    let both = and_parts (nat_le x (min limit 2147483647)) (nat_le m.body 9223372036854775807) first.0 in
    record {
      size = and_from (nat_le x 2147483647) (nat_le m.body 9223372036854775807) (le-leb x 2147483647 (omega (arith, leb-true x (min limit 2147483647) both.0))) both.1;
      few = omega (arith, leb-true rows 9223372036854775807 first.1);
    }

small_batch : (limit : ℕ) (b : Batch) → is_within limit b ≡ true → IsSmall b.height (batch_message b)
unfolding is_within
small_batch limit b h = small_by limit b.height (batch_message b) h

-- ── values ──

values_are : (fs : Fields) (s : ToSend) (k : Kind) → values_under s.id (uses_in fs) ≡ Some k → values_of fs s ≡ values_as k s
values_are fs s k e = ap (λ o. values_as (unwrap_or o (kind_in s.part)) s) e

one_may : (options : WriteOptions) (deltas : Bool) (fs : Fields) (c : Known) (s : ToSend) → IdsMayBeWritten fs → chosen_floats None fs 0 ≡ [] → MayStand deltas fs c s → MayBeValues s.part → fits options s ≡ true → ValuesMayBeWritten fs c (values_of fs s)
one_may options deltas fs c s ids_may floats w may h =
    let k = w.kind in
    let small = small_by options.metadata_limit (values_as k s).rows _ h in
    subst (ValuesMayBeWritten fs c) (sym (values_are fs s k w.under)) (record {
      kind = w.under;
      readable = free_under fs s.id k floats w.under;
      good = λ d told. may.means k d w.alike (held_at deltas c d told s.part k w.values);
      rows = first_rows s.part w.sound;
      small = under_has (λ i l. FitsSigned w64 i) (uses_in fs) s.id k ids_may.within w.under;
      few = small.few;
      nodes = subst (AllByRecursion NodeFits) (append-nil (column_in little s.part).nodes) may.nodes.nodes;
      views = subst (AllByRecursion (λ n. n < 2 ^ 63)) (append-nil (column_in little s.part).views) may.nodes.views;
      size = small.size;
    })

-- ── a batch ──

pub pieces_under : (fs : Fields) (ps : List Parts) → pieces_of (columns_under fs ps) ≡ pieces_of (map top_column ps)
pieces_under fs [] = refl
pieces_under fs (p ∷ ps) = ap (λ xs. (top_column p).pieces ++ xs) (pieces_under (other_fields fs) ps)

pub message_under : (fs : Fields) (b : Batch) → written_batch (batch_under fs b) ≡ written_batch (written_batch_of b)
message_under fs b =
    ap (λ (w : Written). message 3 (batch_node b.height w) (length (body_for (columns_under fs b.arrays))) b.custom) (written_under fs b.arrays)
    ∙ ap (λ xs. message 3 (batch_node b.height (written_of (map top_column b.arrays))) (length (body_bytes 0 xs)) b.custom) (pieces_under fs b.arrays)

batch_may : (options : WriteOptions) (deltas : Bool) (fs : Fields) (c : Known) (b : Batch) → is_within options.metadata_limit b ≡ true → AllMean b.height b.arrays → NodesFit (columns_written b.arrays) → AreAlike fs b.arrays → AllHaveValuesAt deltas c fs (forest b.arrays)
    → CustomMayBeWritten b.custom → BatchMayBeWritten fs c (batch_under fs b)
batch_may options deltas fs c b within mean fit alike known custom =
    let small = small_batch options.metadata_limit b within in
    record {
      kinds = columns_under_are_of fs b.arrays alike;
      good = λ d told. columns_mean d b.height fs b.arrays mean alike (columns_held deltas c d told b.arrays fs known);
      few = small.few;
      nodes = subst (λ (w : Written). AllByRecursion NodeFits w.nodes) (sym (written_under fs b.arrays)) fit.nodes;
      views = subst (λ (w : Written). AllByRecursion (λ n. n < 2 ^ 63) w.views) (sym (written_under fs b.arrays)) fit.views;
      custom = custom;
      size = ap may_be_sent (message_under fs b ∙ sym (same_message b)) ∙ small.size;
    }

-- ── one behind another ──

module _ (options : WriteOptions) (deltas : Bool) (fs : Fields) (b : Batch) (ids_may : IdsMayBeWritten fs) (floats : chosen_floats None fs 0 ≡ []) where
  all_may : (sent : List ToSend) (c : Known) → AllMayStand deltas fs c sent → AllMayBeValues sent → all_fit options sent ≡ true → ((e : Known) → AllHaveValuesAt deltas e fs (forest b.arrays) → BatchMayBeWritten fs e (batch_under fs b))
      → AllHaveValuesAt deltas (λ q. heard q sent (c q)) fs (forest b.arrays) → AllMayBeWritten fs c (chunk_of fs sent b)
  all_may [] c stand may fit last known = (last c known, tt)
  all_may (s ∷ ss) c stand may fit last known =
      let both = and_parts (fits options s) (all_fit options ss) fit in
      (one_may options deltas fs c s ids_may floats stand.0 may.0 both.0, all_may ss (λ q. with_part q s (c q)) stand.1 may.1 both.1 last known)

one_text : (fs : Fields) (s : ToSend) → values_bytes (values_of fs s) ≡ values_text s
one_text fs s = ap (λ xs. message_bytes (message_of_values s.id s.is_delta (written_of (column_in little s.part ∷ []))).node (body_bytes 0 xs)) (append-nil (pieces_in little s.part))

chunk_bytes : (fs : Fields) (sent : List ToSend) (b : Batch) → flat_map bytes_of (chunk_of fs sent b) ≡ chunk_text sent b
chunk_bytes fs [] b =
    append-nil (batch_bytes (batch_under fs b)) ∙ ap (λ (m : SentMessage). message_bytes m.node (body_for (columns_under fs b.arrays))) (message_under fs b)
    ∙ ap (λ xs. message_bytes (written_batch (written_batch_of b)).node (body_bytes 0 xs)) (pieces_under fs b.arrays)
chunk_bytes fs (s ∷ ss) b =
    ap (λ xs. xs ++ flat_map bytes_of (chunk_of fs ss b)) (one_text fs s) ∙ ap (λ xs. values_text s ++ xs) (chunk_bytes fs ss b) ∙ sym (append_assoc (values_text s) (flat_map values_text ss) (batch_bytes (written_batch_of b)))

chunk_known : (fs : Fields) (sent : List ToSend) (b : Batch) (c : Known) (q : ℤ) → with_messages (chunk_of fs sent b) c q ≡ heard q sent (c q)
chunk_known fs [] b c q = refl
chunk_known fs (s ∷ ss) b c q = chunk_known fs ss b (with_values (values_of fs s) c) q

pub may_follow : ChunkMayBeWritten
may_follow options o fs below b s t sent c e more known may same ids_may floats =
    let gs = fields_with fs below in
    let ps = forest b.arrays in
    let stand = sent_may_stand o fs ps below s t sent c e more known may.batch.whole.sound same ids_may.agree in
    let told = sent_is_known o fs ps below s t e may.batch.whole.sound same ids_may.agree in
    let is : told.more ≡ sent = append_cancel_left s.sent told.more sent (sym told.sent ∙ more) in
    let alike = columns_alike b.arrays fs below (columns_of_kinds ps fs same) in
    record {
      may = all_may options o.deltas gs b ids_may floats sent c stand.0 may.values may.fit (λ z known_then. batch_may options o.deltas gs z b may.within may.batch.means may.batch.nodes alike known_then may.batch.whole.custom) stand.1;
      bytes_are = chunk_bytes gs sent b;
      known = λ q. chunk_known gs sent b c q ∙ ap (λ ms. heard q ms (c q)) (sym is) ∙ ap (heard q told.more) (known q) ∙ told.known q;
    }
