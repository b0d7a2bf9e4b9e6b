-- The tables of a batch and of a dictionary batch are read back, of whatever kinds.
use Rattle.std.proofs.Common.{◌≡◌, ℕ, suc, ◌+◌, ◌*◌, ◌^◌, ◌<◌, ◌≤◌, List, [], ◌∷◌, ◌++◌, length, Some, None, Ok, refl, subst, arith, true, Bool, ℤ, pos, SFits}
use Rattle.std.specs.Prelude.{map as each_of}
use Rattle.std.specs.Int.{w64, to_le_bytes, cast_unsigned}
use Rattle.std.specs.List.{flat_map, AllByRecursion}
use Rattle.std.proofs.lemmas.List.Concat.{flat_map-cons}
use Rattle.arrow_spec.specs.Readings.{bind, ◌>>=◌, each}
use Rattle.arrow_spec.specs.Flat.{Table, signed_at, slot_bool, slot_table, slot_vector}
use Rattle.arrow_spec.specs.Layout as layout
use Rattle.arrow_spec.specs.Layout.{Slots}
use Rattle.arrow_spec.specs.Held.{Stands, HoldsSlots}
use Rattle.arrow_spec.specs.Messages.{numbers_at, batch_at, dictionary_at}
use Rattle.arrow_spec.specs.Counts.{Written}
use Rattle.arrow_spec.specs.Sent.{flag, node_bytes, buffer_bytes, placed, views_slot, batch_slots, batch_node, dictionary_slots, node_rows, message}
use Rattle.arrow_spec.specs.Framing.{message_bytes, padded_size}
use Rattle.arrow_spec.specs.Kinds.{Metadata}
use Rattle.arrow_spec.specs.WrittenSchemas.{CustomMayBeWritten}
use Rattle.arrow_spec.specs.Laws.{IsNextMessage, TablesFit, header_of}
use Rattle.arrow_spec.proofs.Standing.{stands_left}
use Rattle.arrow_spec.proofs.Found.{right_at, within}
use Rattle.arrow_spec.proofs.Lengths.{length-numbers64}
use Rattle.arrow_spec.proofs.Slots.{flag_back, table_absent, table_there, vector_absent, vector_there, zero_back}
use Rattle.arrow_spec.proofs.MessageTables.{fits_pos, signed_stands, nodes_slot, buffers_slot}
use Rattle.arrow_spec.proofs.MessagesFit.{batch_fits, dictionary_fits, message_fits}
use Rattle.arrow_spec.proofs.Bodies.{placed_fits}
use Rattle.arrow_spec.proofs.NextMessages.{framed_message_is_next}

-- ── view counts ──

numbers_from : (zs : List ℤ) (b : List ℕ) (first i : ℕ) → AllByRecursion (λ z. SFits w64 z) zs → Stands b (first + 8 * i) (flat_map (λ x. to_le_bytes w64 (cast_unsigned w64 x)) zs) → each (λ j. signed_at w64 b (first + 8 * j)) i (length zs) ≡ Ok zs
unfolding bind
numbers_from [] b first i fits h = refl
numbers_from (z ∷ zs) b first i fits h =
    let u = to_le_bytes w64 (cast_unsigned w64 z) in
    let v = flat_map (λ x. to_le_bytes w64 (cast_unsigned w64 x)) zs in
    let both : Stands b (first + 8 * i) (u ++ v) = subst (λ t. Stands b (first + 8 * i) t) (flat_map-cons (λ x. to_le_bytes w64 (cast_unsigned w64 x)) z zs) h in
    let here : signed_at w64 b (first + 8 * i) ≡ Ok z = signed_stands b (first + 8 * i) z fits.0 (stands_left b (first + 8 * i) u v both) in
    let others : each (λ j. signed_at w64 b (first + 8 * j)) (suc i) (length zs) ≡ Ok zs = numbers_from zs b first (suc i) fits.1 (right_at b (first + 8 * i) u v (first + 8 * suc i) (omega arith) both) in
    rw (here, others) refl

counts_fit : (vs : List ℕ) → AllByRecursion (λ n. n < 2 ^ 63) vs → AllByRecursion (λ z. SFits w64 z) (each_of pos vs)
counts_fit [] h = tt
counts_fit (v ∷ vs) h = (fits_pos v h.0, counts_fit vs h.1)

views_back : (vs : List ℕ) (b : List ℕ) (t : Table) (i : ℕ) → AllByRecursion (λ n. n < 2 ^ 63) vs → HoldsSlots (views_slot vs layout.no_more) b t i → (slot_vector 8 b t i >>= numbers_at b) ≡ Ok (each_of pos vs)
unfolding bind
views_back [] b t i fits h = rw (vector_absent 8 b t i h.0) refl
views_back (v ∷ vs) b t i fits h =
    let zs = each_of pos (v ∷ vs) in
    let q = h.0.1 in
    let bytes : Stands b (q + 4) (flat_map (λ x. to_le_bytes w64 (cast_unsigned w64 x)) zs) = h.0.4.1 in
    let inside : q + 4 + length zs * 8 ≤ length b = omega (arith, within b (q + 4) (flat_map (λ x. to_le_bytes w64 (cast_unsigned w64 x)) zs) bytes, length-numbers64 zs) in
    let there = vector_there 8 b t i h.0.0 q (length zs) h.0.2 h.0.3 h.0.4.0 inside in
    let start : q + 4 ≡ q + 4 + 8 * 0 = omega arith in
    let numbers : each (λ j. signed_at w64 b (q + 4 + 8 * j)) 0 (length zs) ≡ Ok zs = numbers_from zs b (q + 4) 0 (counts_fit (v ∷ vs) fits) (subst (λ k. Stands b k (flat_map (λ x. to_le_bytes w64 (cast_unsigned w64 x)) zs)) start bytes) in
    rw (there, numbers) refl

-- ── batches ──

pub batch_back : (rows : ℕ) (w : Written) (b : List ℕ) (t : Table) → TablesFit rows w → HoldsSlots (batch_slots rows w) b t 0 → batch_at b t ≡ Ok (header_of rows w)
unfolding batch_at bind
batch_back rows w b t fit h =
    let last = layout.absent (views_slot w.views layout.no_more) in
    let s2 = layout.child (layout.structs (length (placed 0 w.lengths)) (flat_map buffer_bytes (placed 0 w.lengths))) last in
    let s1 = layout.child (layout.structs (length w.nodes) (flat_map node_bytes w.nodes)) s2 in
    let len = zero_back w64 (pos rows) s1 b t 0 (fits_pos rows fit.few) h in
    let ns = nodes_slot w.nodes s2 b t 1 fit.nodes len.1 in
    let bs = buffers_slot (placed 0 w.lengths) last b t 2 (placed_fits w.lengths 0 fit.buffers) len.1.1 in
    let compression : slot_table b t 3 ≡ Ok None = table_absent b t 3 len.1.1.1.0 in
    let views = views_back w.views b t 4 fit.views len.1.1.1.1 in
    rw (len.0, ns.1, ns.2, bs.1, bs.2, compression, views) refl

pub dictionary_back : (id : ℕ) (is_delta : Bool) (w : Written) (b : List ℕ) (t : Table) → id < 2 ^ 63 → TablesFit (node_rows w.nodes) w → HoldsSlots (dictionary_slots id is_delta w) b t 0 → dictionary_at b t ≡ Ok (record { id = pos id; is_delta = is_delta; values = header_of (node_rows w.nodes) w })
unfolding dictionary_at bind
dictionary_back id is_delta w b t few fit h =
    let number = zero_back w64 (pos id) (layout.child (batch_node (node_rows w.nodes) w) (flag is_delta layout.no_more)) b t 0 (fits_pos id few) h in
    let c = number.1.0 in
    let t' : Table = c.4.0 in
    let values : slot_table b t 1 ≡ Ok (Some t') = table_there b t 1 c.0 c.1 t' c.2 c.3 c.4.1 in
    let delta : slot_bool b t 2 ≡ Ok is_delta = (flag_back is_delta layout.no_more b t 2 number.1.1).0 in
    let batch = batch_back (node_rows w.nodes) w b t' fit c.4.2 in
    rw (number.0, values, delta, batch) refl

-- ── their messages ──

pub batch_message_back : (taken : ℕ → Bool) (rows : ℕ) (w : Written) (body : List ℕ) (custom : Metadata) (rest : List ℕ) → taken 3 ≡ true → TablesFit rows w → length body < 2 ^ 63 → CustomMayBeWritten custom → padded_size (message 3 (batch_node rows w) (length body) custom).node < 2 ^ 31
    → (next : IsNextMessage taken 3 (batch_slots rows w) body custom rest (message_bytes (message 3 (batch_node rows w) (length body) custom).node body ++ rest)) × (batch_at next.framed.metadata next.found.header ≡ Ok (header_of rows w))
batch_message_back taken rows w body custom rest expected fit few may short =
    let fits = message_fits 3 (length body) (batch_node rows w) custom (omega arith) few (batch_fits rows w fit.few fit.node_count fit.buffer_count) in
    let next = framed_message_is_next taken 3 (batch_slots rows w) body custom rest (omega arith) (omega arith) expected few may fits short in
    (next, batch_back rows w next.framed.metadata next.found.header fit next.header)

pub dictionary_message_back : (taken : ℕ → Bool) (id : ℕ) (is_delta : Bool) (w : Written) (body rest : List ℕ) → taken 2 ≡ true → id < 2 ^ 63 → TablesFit (node_rows w.nodes) w → length body < 2 ^ 63 → padded_size (message 2 (layout.table (dictionary_slots id is_delta w)) (length body) []).node < 2 ^ 31
    → (next : IsNextMessage taken 2 (dictionary_slots id is_delta w) body [] rest (message_bytes (message 2 (layout.table (dictionary_slots id is_delta w)) (length body) []).node body ++ rest))
    × (dictionary_at next.framed.metadata next.found.header ≡ Ok (record { id = pos id; is_delta = is_delta; values = header_of (node_rows w.nodes) w }))
dictionary_message_back taken id is_delta w body rest expected low fit few short =
    let values = batch_fits (node_rows w.nodes) w fit.few fit.node_count fit.buffer_count in
    let fits = message_fits 2 (length body) (layout.table (dictionary_slots id is_delta w)) [] (omega arith) few (dictionary_fits id is_delta w low values) in
    let next = framed_message_is_next taken 2 (dictionary_slots id is_delta w) body [] rest (omega arith) (omega arith) expected few (record { ascend = tt; few = omega arith }) fits short in
    (next, dictionary_back id is_delta w next.framed.metadata next.found.header low fit next.header)
