-- Messages that are planned one after another.
use Rattle.std.proofs.Common.{◌≡◌, ◌⊎◌, inl, inr, ℕ, ◌+◌, ◌<◌, ◌≤◌, ◌^◌, List, [], ◌∷◌, ◌++◌, Bool, true, false, map, length, min, drop, get_or, refl, sym, ap, ◌∙◌, subst, append_assoc, append-nil, arith, true≢false, Result, Ok, Err}
use Rattle.std.specs.Prelude.{◌&&◌, nat_le, IfOk, IfErr}
use Rattle.std.specs.List.{flat_map}
use Rattle.std.proofs.lemmas.Bool.{leb-true}
use Rattle.std.proofs.lemmas.Grind.{flat_map-append}
use Rattle.std.proofs.lemmas.List.{drop_all, map-append}
use Rattle.arrow_spec.specs.declared.error.IpcError.{IpcError}
use Rattle.arrow_spec.specs.declared.error.IpcError.TheVariants.{Memory, TooLarge}
use Rattle.arrow_spec.specs.Flat.{little}
use Rattle.arrow_spec.specs.Framing.{body_bytes, padded_size}
use Rattle.arrow_spec.specs.Layout.{layout, size, up_to}
use Rattle.arrow_spec.specs.Sent.{SentMessage}
use Rattle.arrow_spec.proofs.NextMessages.{length-layout}
use Rattle.arrow_arrays.specs.Batches.{Batch}
use Rattle.ipc_fields.proofs.Steps.{drop_item}
use Rattle.ipc_write.specs.Below.{pieces_in}
use Rattle.ipc_dictionaries.specs.NewDictionaries.{ToSend}
use Rattle.ipc_dictionaries.specs.Walks.{to_send}
use Rattle.ipc_dictionaries.specs.declared.walk.ToEncode.{ToEncode}
use Rattle.ipc_write.specs.Batches.{batch_body, batch_message, is_within}
use Rattle.ipc_write.specs.Encoding.{MayBeBatch}
use Rattle.ipc_write.specs.Outcomes.{Plans, message_frame, metadata_frame}
use Rattle.ipc_write.specs.Planned.{is_short}
use Rattle.ipc_write.specs.Values.{MayBeValues, PlansValues, values_message}
use Rattle.ipc_write.specs.declared.encoded.BodyPlan.{BodyPlan}
use Rattle.ipc_write.specs.declared.options.WriteOptions.{WriteOptions}
use Rattle.ipc_write.proofs.Putting.{aligned_pieces, frame_whole, plan_frame}
use Rattle.ipc_write.proofs.Written.{framed_is_batch, framed_whole, length-frame}
use Rattle.ipc_messages.specs.Chunks.{RefusesChunk}
use Rattle.ipc_messages.specs.Encoded.{AllMayBeValues, Refuses, RefusesOne, all_fit, fits}
use Rattle.ipc_messages.specs.declared.planned.PlannedMessage.{PlannedMessage}
use Rattle.ipc_messages.specs.Messages.{ArePlanned, IsBatchPlanned, IsChunkPlanned, IsPlanned, PlansBatch, PlansOne, chunk_text, message_of, planned_sizes, planned_text, Sizes, sent_sizes, sizes_of, values_text}

-- ── one message ──

-- a front and the buffers behind it are the framed message
pub front_text : (metadata front : List ℕ) (pieces : List (List ℕ)) → front ≡ message_frame metadata [] → front ++ body_bytes 0 pieces ≡ message_frame metadata (body_bytes 0 pieces)
front_text metadata front pieces e =
    ap (λ l. l ++ body_bytes 0 pieces) (e ∙ sym (frame_whole metadata [] refl) ∙ append-nil (metadata_frame metadata)) ∙ plan_frame metadata metadata pieces pieces refl refl

-- how long they are
abbrev sized : ℕ → ℕ → Sizes
sized front body = record { front = front; body = body }

pub front_sizes : (metadata front : List ℕ) (body : ℕ) → front ≡ message_frame metadata [] → sized (length front) body ≡ sized (8 + up_to 8 (length metadata)) body
front_sizes metadata front body e = ap (λ n. sized n body) (omega (arith, ap length e, length-frame metadata [] refl))

-- those of a message whose metadata is a node's
node_sizes : (metadata : List ℕ) (x : SentMessage) (n : ℕ) → metadata ≡ layout x.node → n ≡ x.body → sized (8 + up_to 8 (length metadata)) n ≡ sizes_of x
node_sizes metadata x n e f = ap (λ k. sized (8 + up_to 8 k) n) (ap length e ∙ length-layout x.node) ∙ ap (λ k. sized (8 + padded_size x.node) k) f

-- no metadata is too large that is small
pub only_memory : (e : IpcError) (n : ℕ) → n < 2 ^ 31 → (e ≡ Memory) ⊎ ((e ≡ TooLarge) × (2 ^ 31 ≤ n)) → e ≡ Memory
only_memory e n h (inl m) = m
only_memory e n h (inr l) = absurd (omega (arith, h, l.1))

first_of : (a b : Bool) → (a && b) ≡ true → a ≡ true
first_of true b h = refl
first_of false b h = absurd (true≢false (sym h))

second_of : (a b : Bool) → (a && b) ≡ true → b ≡ true
second_of true b h = h
second_of false b h = absurd (true≢false (sym h))

first_of_three : (a b c : Bool) → (a && b && c) ≡ true → a ≡ true
first_of_three true b c h = refl
first_of_three false b c h = absurd (true≢false (sym h))

small_at : (limit n : ℕ) (b c : Bool) → (nat_le n (min limit 2147483647) && b && c) ≡ true → n < 2 ^ 31
small_at limit n b c h = let first : n ≤ min limit 2147483647 = leb-true n (min limit 2147483647) (first_of_three (nat_le n (min limit 2147483647)) b c h) in omega (arith, first)

-- the metadata of a message within a limit
pub short_small : (limit rows : ℕ) (m : SentMessage) (metadata : List ℕ) → metadata ≡ layout m.node → is_short limit rows m ≡ true → up_to 8 (length metadata) < 2 ^ 31
short_small limit rows m metadata e h =
    let small : up_to 8 (size m.node) < 2 ^ 31 = small_at limit (up_to 8 (size m.node)) (nat_le m.body 9223372036854775807) (nat_le rows 9223372036854775807) h in
    subst (λ xs. up_to 8 (length xs) < 2 ^ 31) (sym e) (subst (λ n. up_to 8 n < 2 ^ 31) (sym (length-layout m.node)) small)

pub within_small : (limit : ℕ) (b : Batch) (metadata : List ℕ) → metadata ≡ layout (batch_message b).node → is_within limit b ≡ true → up_to 8 (length metadata) < 2 ^ 31
unfolding is_within
within_small limit b metadata e h = short_small limit b.height (batch_message b) metadata e h

-- the message of values
pub values_planned : (options : WriteOptions) (s : ToSend) (p : BodyPlan) (m : PlannedMessage) → PlansValues (Ok p) options s.id s.is_delta s.part → MayBeValues s.part
    → planned_text m ≡ message_frame p.ipc_message.items (body_bytes 0 p.buffers.items) → planned_sizes m ≡ record { front = 8 + up_to 8 (length p.ipc_message.items); body = p.body_length } → IsPlanned options s m
values_planned options s p m h k e f =
    let n = (values_message s.id s.is_delta s.part).node in
    let ps = pieces_in little s.part in
    record {
      fits = h.1;
      text = e ∙ ap (λ xs. message_frame xs (body_bytes 0 p.buffers.items)) h.2 ∙ ap (λ qs. message_frame (layout n) (body_bytes 0 qs)) h.3 ∙ framed_whole n (body_bytes 0 ps) (aligned_pieces ps);
      sizes = f ∙ node_sizes p.ipc_message.items (message_of s) p.body_length h.2 h.4;
      may = k;
    }

same_body_length : (b : Batch) → length (batch_body b) ≡ (batch_message b).body
unfolding batch_message
same_body_length b = refl

-- the message of a batch
pub batch_planned : (options : WriteOptions) (b : Batch) (p : BodyPlan) (m : PlannedMessage) → Plans (Ok p) options b → MayBeBatch b
    → planned_text m ≡ message_frame p.ipc_message.items (body_bytes 0 p.buffers.items) → planned_sizes m ≡ record { front = 8 + up_to 8 (length p.ipc_message.items); body = p.body_length } → IsBatchPlanned options b m
batch_planned options b p m h may e f = record {
  within = h.1;
  text = e ∙ ap (λ xs. message_frame xs (body_bytes 0 p.buffers.items)) h.2 ∙ ap (λ qs. message_frame (layout (batch_message b).node) (body_bytes 0 qs)) h.3 ∙ framed_is_batch b;
  sizes = f ∙ node_sizes p.ipc_message.items (batch_message b) p.body_length h.2 (h.4 ∙ same_body_length b);
  may = may;
}

-- with its front, or memory was wanted for it
pub values_framed : (r : Result PlannedMessage IpcError) (options : WriteOptions) (s : ToSend) (p : BodyPlan) → PlansValues (Ok p) options s.id s.is_delta s.part → MayBeValues s.part
    → IfOk r (λ m. planned_text m ≡ message_frame p.ipc_message.items (body_bytes 0 p.buffers.items)) → IfOk r (λ m. planned_sizes m ≡ record { front = 8 + up_to 8 (length p.ipc_message.items); body = p.body_length }) → IfErr r (λ e. e ≡ Memory) → PlansOne r options s
values_framed (Ok m) options s p h k e z f = values_planned options s p m h k e z
values_framed (Err x) options s p h k e z f = inl f

pub batch_framed : (r : Result PlannedMessage IpcError) (options : WriteOptions) (b : Batch) (p : BodyPlan) → Plans (Ok p) options b → MayBeBatch b
    → IfOk r (λ m. planned_text m ≡ message_frame p.ipc_message.items (body_bytes 0 p.buffers.items)) → IfOk r (λ m. planned_sizes m ≡ record { front = 8 + up_to 8 (length p.ipc_message.items); body = p.body_length }) → IfErr r (λ e. e ≡ Memory) → PlansBatch r options b
batch_framed (Ok m) options b p h may e z f = batch_planned options b p m h may e z
batch_framed (Err x) options b p h may e z f = inl f

-- ── messages of values ──

both_true : (a b : Bool) → a ≡ true → b ≡ true → (a && b) ≡ true
both_true a b e f = rw (e, f) refl

fit_more : (options : WriteOptions) (ss : List ToSend) (s : ToSend) → all_fit options ss ≡ true → fits options s ≡ true → all_fit options (ss ++ s ∷ []) ≡ true
fit_more options [] s h k = both_true (fits options s) true k refl
fit_more options (t ∷ ss) s h k = both_true (fits options t) (all_fit options (ss ++ s ∷ [])) (first_of (fits options t) (all_fit options ss) h) (fit_more options ss s (second_of (fits options t) (all_fit options ss) h) k)

may_more : (ss : List ToSend) (s : ToSend) → AllMayBeValues ss → MayBeValues s.part → AllMayBeValues (ss ++ s ∷ [])
may_more [] s h k = (k, tt)
may_more (t ∷ ss) s h k = (h.0, may_more ss s h.1 k)

refused_behind : (options : WriteOptions) (ss : List ToSend) (s : ToSend) (rest : List ToSend) (e : IpcError) → all_fit options ss ≡ true → Refuses e options s → RefusesOne e options (ss ++ s ∷ rest)
refused_behind options [] s rest e h k = inl k
refused_behind options (t ∷ ss) s rest e h k = inr (first_of (fits options t) (all_fit options ss) h, refused_behind options ss s rest e (second_of (fits options t) (all_fit options ss) h) k)

-- some of what is to be sent is planned, and this is left
pub record IsLeft (options : WriteOptions) (ms : List PlannedMessage) (left all : List ToSend) : Type 0 where
  pub done : List ToSend
  pub planned : ArePlanned options done ms
  pub whole : done ++ left ≡ all

pub left_begun : (options : WriteOptions) (ms : List PlannedMessage) (all : List ToSend) → ms ≡ [] → IsLeft options ms all all
left_begun options ms all e = record { done = []; planned = record { fit = refl; text = ap (flat_map planned_text) e; sizes = ap (map planned_sizes) e; may = tt }; whole = refl }

pub left_more : (options : WriteOptions) (ms is : List PlannedMessage) (left rest all : List ToSend) (s : ToSend) (m : PlannedMessage) → left ≡ s ∷ rest → IsPlanned options s m → is ≡ ms ++ m ∷ [] → IsLeft options ms left all → IsLeft options is rest all
left_more options ms is left rest all s m e p a l = record {
  done = l.done ++ s ∷ [];
  planned = record {
    fit = fit_more options l.done s l.planned.fit p.fits;
    text = ap (flat_map planned_text) a ∙ flat_map-append planned_text ms (m ∷ []) ∙ ap (λ xs. xs ++ (planned_text m ++ [])) l.planned.text ∙ ap (λ xs. flat_map values_text l.done ++ (xs ++ [])) p.text
        ∙ sym (flat_map-append values_text l.done (s ∷ []));
    sizes = ap (map planned_sizes) a ∙ map-append planned_sizes ms (m ∷ []) ∙ ap (λ xs. xs ++ planned_sizes m ∷ []) l.planned.sizes ∙ ap (λ x. map sent_sizes l.done ++ x ∷ []) p.sizes ∙ sym (map-append sent_sizes l.done (s ∷ []));
    may = may_more l.done s l.planned.may p.may;
  };
  whole = append_assoc l.done (s ∷ []) rest ∙ ap (λ x. l.done ++ x) (sym e) ∙ l.whole;
}

pub left_refused : (options : WriteOptions) (ms : List PlannedMessage) (left rest all : List ToSend) (s : ToSend) (e : IpcError) → left ≡ s ∷ rest → (e ≡ Memory) ⊎ Refuses e options s → IsLeft options ms left all → (e ≡ Memory) ⊎ RefusesOne e options all
left_refused options ms left rest all s e f (inl m) l = inl m
left_refused options ms left rest all s e f (inr k) l = inr (subst (RefusesOne e options) (ap (λ x. l.done ++ x) (sym f) ∙ l.whole) (refused_behind options l.done s rest e l.planned.fit k))

left_none : (options : WriteOptions) (ms : List PlannedMessage) (left all : List ToSend) → left ≡ [] → IsLeft options ms left all → ArePlanned options all ms
left_none options ms left all e l = subst (λ ss. ArePlanned options ss ms) (sym (append-nil l.done) ∙ ap (λ x. l.done ++ x) (sym e) ∙ l.whole) l.planned

pub next_message : (xs : List ToEncode) (i : ℕ) (x : ToEncode) → i < length xs → x ≡ get_or xs i x → map to_send (drop i xs) ≡ to_send x ∷ map to_send (drop (i + 1) xs)
next_message xs i x h e = ap (map to_send) (drop_item xs i x x h e)

pub all_planned : (options : WriteOptions) (ms : List PlannedMessage) (xs : List ToEncode) (i : ℕ) (all : List ToSend) → length xs ≤ i → IsLeft options ms (map to_send (drop i xs)) all → ArePlanned options all ms
all_planned options ms xs i all h l = left_none options ms (map to_send (drop i xs)) all (ap (map to_send) (drop_all i xs h)) l

-- ── and the batch behind them ──

pub chunk_planned : (options : WriteOptions) (sent : List ToSend) (b : Batch) (ms is : List PlannedMessage) (m : PlannedMessage) → ArePlanned options sent ms → IsBatchPlanned options b m → is ≡ ms ++ m ∷ []
    → IsChunkPlanned options sent b is
chunk_planned options sent b ms is m h k e = record {
  may = record { fit = h.fit; within = k.within; values = h.may; batch = k.may };
  text = ap (flat_map planned_text) e ∙ flat_map-append planned_text ms (m ∷ []) ∙ ap (λ xs. xs ++ (planned_text m ++ [])) h.text ∙ ap (λ xs. flat_map values_text sent ++ xs) (append-nil (planned_text m) ∙ k.text);
  sizes = ap (map planned_sizes) e ∙ map-append planned_sizes ms (m ∷ []) ∙ ap (λ xs. xs ++ planned_sizes m ∷ []) h.sizes ∙ ap (λ x. map sent_sizes sent ++ x ∷ []) k.sizes;
}

pub batch_refused : (e : IpcError) (options : WriteOptions) (sent : List ToSend) (b : Batch) (ms : List PlannedMessage) → ArePlanned options sent ms → (e ≡ Memory) ⊎ Plans (Err e) options b → (e ≡ Memory) ⊎ RefusesChunk e options sent b
batch_refused e options sent b ms h (inl m) = inl m
batch_refused e options sent b ms h (inr k) = inr (inr (h.fit, k))

pub values_refused : (e : IpcError) (options : WriteOptions) (sent : List ToSend) (b : Batch) → (e ≡ Memory) ⊎ RefusesOne e options sent → (e ≡ Memory) ⊎ RefusesChunk e options sent b
values_refused e options sent b (inl m) = inl m
values_refused e options sent b (inr k) = inr (inl k)
