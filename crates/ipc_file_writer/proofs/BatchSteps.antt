-- A batch that is planned, placed and put with its dictionaries, or not.
use Rattle.std.proofs.Common.{◌≡◌, ◌⊎◌, inl, inr, ℤ, ℕ, List, [], ◌∷◌, ◌++◌, Bool, true, false, map, Result, Ok, Err, refl, sym, ap, ◌∙◌, subst}
use Rattle.std.specs.Result.{IsErrAnd}
use Rattle.std.specs.List.{flat_map}
use Rattle.std.specs.Io.KnownBytes.{Appends}
use Rattle.arrow_spec.specs.declared.error.IpcError.{IpcError}
use Rattle.arrow_spec.specs.declared.error.IpcError.TheVariants.{Memory}
use Rattle.arrow_arrays.specs.Batches.{Batch}
use Rattle.arrow_arrays.specs.Parts.{Parts, forest}
use Rattle.ipc_fields.specs.IpcFields.{ids_of}
use Rattle.ipc_fields.specs.declared.ipc_field.IpcField.{IpcField}
use Rattle.ipc_messages.specs.Below.{Moved, NoneFalls, PutsPart, Sends as Found, undone, ToSend, held_by, to_send, NewDictionaries, DictionaryTracker, ToEncode}
use Rattle.ipc_messages.specs.Chunks.{MayBeSent, RefusesChunk, found}
use Rattle.ipc_messages.proofs.ChunkSteps.{kept_again, stops_behind, stops_found}
use Rattle.ipc_messages.specs.declared.planned.PlannedMessage.{PlannedMessage}
use Rattle.ipc_messages.specs.declared.puts.Stop.{Stop}
use Rattle.ipc_messages.specs.Messages.{IsChunkPlanned, Sizes, chunk_text, planned_sizes, planned_text}
use Rattle.ipc_messages.specs.Puts.{Grew, StopsIn, Untouched}
use Rattle.ipc_messages.specs.States.{state_behind}
use Rattle.ipc_file_writer.specs.declared.blocks.ChunkBlocks.{ChunkBlocks}
use Rattle.ipc_file_writer.specs.declared.blocks.FileBlocks.{FileBlocks}
use Rattle.ipc_file_writer.specs.declared.calls.PlannedChunk.{PlannedChunk}
use Rattle.ipc_file_writer.specs.declared.file.FileCore.{FileCore}
use Rattle.ipc_file_writer.specs.Blocks.{HasMore, IsChunkPlaced, PlacesChunk, are_placed, chunk_sizes}
use Rattle.ipc_file_writer.specs.Calls.{HasNoMore, MayBeAdded, RefusesMore, SendCause, Sends, Stays, file_ids}
use Rattle.ipc_file_writer.specs.Sending.{IsHeld, IsLeft, IsPlanned, IsPut, PutStops, PutsMore}
use Rattle.ipc_file_writer.proofs.Growing.{grown}

-- ── planned ──

-- the messages are refused
pub chunk_refused : (e : IpcError) (c : FileCore) (sent : List ToSend) (b : Batch) → (e ≡ Memory) ⊎ RefusesChunk e c.options sent b → (e ≡ Memory) ⊎ RefusesMore e c sent b
chunk_refused e c sent b (inl m) = inl m
chunk_refused e c sent b (inr h) = inr (inl h)

-- their places are
pub places_refused : (e : IpcError) (c : FileCore) (sent : List ToSend) (b : Batch) (xs : List Sizes) (qs : List PlannedMessage) → xs ≡ map planned_sizes qs → IsChunkPlanned c.options sent b qs → PlacesChunk (Err e) c.blocks.end xs
    → (e ≡ Memory) ⊎ RefusesMore e c sent b
places_refused e c sent b xs qs h p (inl m) = inl m
places_refused e c sent b xs qs h p (inr k) = inr (inr (k.0, p.may, ap (are_placed c.blocks.end) (sym p.sizes ∙ sym h) ∙ k.1))

pub placed_so : (c : FileCore) (sent : List ToSend) (b : Batch) (xs : List Sizes) (qs : List PlannedMessage) (k : ChunkBlocks) → xs ≡ map planned_sizes qs → IsChunkPlanned c.options sent b qs → IsChunkPlaced c.blocks.end xs k
    → IsChunkPlaced c.blocks.end (chunk_sizes sent b) k
placed_so c sent b xs qs k h p q = subst (λ ys. IsChunkPlaced c.blocks.end ys k) (h ∙ p.sizes) q

-- ── put ──

may_be_added : (c new : FileCore) (sent : List ToSend) (b : Batch) (p : PlannedChunk) → IsPlanned c new sent b p → MayBeAdded c sent b
may_be_added c new sent b p h = record { may = h.messages.may; placed = h.blocks.fit }

stops_so : (s : Bool) (m : Moved) (e : IpcError) (c new : FileCore) (sent : List ToSend) (b : Batch) (p : PlannedChunk) (text : List ℕ) → IsPlanned c new sent b p → text ≡ chunk_text sent b → StopsIn s m e text → PutStops s m e c sent b
stops_so true m e c new sent b p text h k q = (may_be_added c new sent b p h, subst (PutsPart m e) k q)
stops_so false m e c new sent b p text h k q = (inl q.0, q.1)

-- a put stopped
pub put_stopped : (r : Result (Unit {0}) Stop) (s : Stop) (m : Moved) (old new : FileCore) (sent : List ToSend) (b : Batch) (p : PlannedChunk) (ms : List PlannedMessage) → IsErrAnd r (λ t. t ≡ s) → IsPlanned old new sent b p
    → ms ≡ p.messages.items → StopsIn s.has_begun m s.error (flat_map planned_text ms) → PutsMore m r old new sent b
put_stopped (Ok u) s m old new sent b p ms f h e q = absurd f
put_stopped (Err t) s m old new sent b p ms f h e q =
    subst (λ k. PutsMore m (Err k) old new sent b) (sym f) (stops_so s.has_begun m s.error old new sent b p (flat_map planned_text ms) h (ap (flat_map planned_text) e ∙ h.messages.text) q, h.left)

-- all was put
pub all_put : (m : Moved) (old middle new : FileCore) (sent : List ToSend) (b : Batch) (p : PlannedChunk) (ms : List PlannedMessage) → IsPlanned old middle sent b p → ms ≡ p.messages.items
    → Appends m.old m.new (flat_map planned_text ms) × NoneFalls m → new.blocks.dictionaries.items ≡ middle.blocks.dictionaries.items ++ p.blocks.dictionaries.items
    → new.blocks.records.items ≡ middle.blocks.records.items ++ p.blocks.batch ∷ [] → new.blocks.end ≡ p.blocks.end → new.has_written ≡ true → IsHeld old new → IsPut m old new sent b
all_put m old middle new sent b p ms h e q d r n w k = record {
  may = may_be_added old middle sent b p h;
  appended = subst (Appends m.old m.new) (ap (flat_map planned_text) e ∙ h.messages.text) q.0;
  counts = q.1;
  blocks = grown old.blocks middle.blocks new.blocks sent b p.blocks h.left.blocks h.blocks d r n;
  written = w;
  held = k;
}

-- ── sent ──

-- what is found of a batch's dictionaries is not to be sent
pub not_found : (r : Result (Unit {0}) IpcError) (e : IpcError) (m : Moved) (old new : FileCore) (b : Batch) (arrays : List Parts) (fields : List IpcField) → IsErrAnd r (λ f. f ≡ e) → arrays ≡ b.arrays → fields ≡ old.ipc_schema.fields.items
    → Found (Err e) old.tracker new.tracker (forest arrays) (ids_of fields) → Untouched m → new.state ≡ old.state → new.blocks ≡ old.blocks → new.has_written ≡ old.has_written → Stays old new → Sends m r old new b
not_found (Ok u) e m old new b arrays fields f a i h t s k w y = absurd f
not_found (Err x) e m old new b arrays fields f a i h t s k w y =
    let own : Found (Err e) old.tracker new.tracker (forest arrays) (file_ids old) = subst (λ xs. Found (Err e) old.tracker new.tracker (forest arrays) (ids_of xs)) i h in
    let here : Found (Err e) old.tracker new.tracker (forest b.arrays) (file_ids old) = subst (λ ps. Found (Err e) old.tracker new.tracker (forest ps) (file_ids old)) a own in
    let both = stops_found e old.tracker new.tracker (forest b.arrays) (file_ids old) (λ sent. RefusesMore e old sent b) here in
    let same : HasNoMore old new = record {
      held = both.1;
      blocks = record { dictionaries = ap (λ (x : FileBlocks). x.dictionaries.items) k; records = ap (λ (x : FileBlocks). x.records.items) k; end = ap (λ (x : FileBlocks). x.end) k };
      written = w;
      stays = y;
    } in
    subst (λ z. Sends m (Err z) old new b) (sym f) (inl (both.0, record { untouched = t; state = s; same = same }))

-- a writer whose tracker alone is another
pub record Follows (old middle : FileCore) : Type 0 where
  pub state : middle.state ≡ old.state
  pub blocks : middle.blocks ≡ old.blocks
  pub written : middle.has_written ≡ old.has_written
  pub stays : Stays old middle

same_end : (old middle : FileCore) → Follows old middle → middle.blocks.end ≡ old.blocks.end
same_end old middle f = ap (λ (x : FileBlocks). x.end) f.blocks

may_too : (old middle : FileCore) (sent : List ToSend) (b : Batch) → Follows old middle → MayBeAdded middle sent b → MayBeAdded old sent b
may_too old middle sent b f h = record {
  may = subst (λ o. MayBeSent o sent b) f.stays.options h.may;
  placed = subst (λ n. are_placed n (chunk_sizes sent b) ≡ true) (same_end old middle f) h.placed;
}

refuses_too : (e : IpcError) (old middle : FileCore) (sent : List ToSend) (b : Batch) → Follows old middle → RefusesMore e middle sent b → RefusesMore e old sent b
refuses_too e old middle sent b f (inl h) = inl (subst (λ o. RefusesChunk e o sent b) f.stays.options h)
refuses_too e old middle sent b f (inr h) =
    inr (h.0, subst (λ o. MayBeSent o sent b) f.stays.options h.1, subst (λ n. are_placed n (chunk_sizes sent b) ≡ false) (same_end old middle f) h.2)

pub then_stays : (old middle new : FileCore) → Stays old middle → Stays middle new → Stays old new
then_stays old middle new h k = record {
  options = k.options ∙ h.options;
  schema = k.schema ∙ h.schema;
  ipc_schema = k.ipc_schema ∙ h.ipc_schema;
  pairs = k.pairs ∙ h.pairs;
  tracker = k.tracker ∙ h.tracker;
}

-- it is, and was sent
pub was_sent : (m : Moved) (old middle new : FileCore) (b : Batch) (n : NewDictionaries) (messages : List ToEncode) → Found (Ok n) old.tracker middle.tracker (forest b.arrays) (file_ids old) → messages ≡ n.messages.items
    → IsPut m middle new (map to_send messages) b → Follows old middle → Sends m (Ok tt) old new b
was_sent m old middle new b n messages h e c f =
    let sent = map to_send n.messages.items in
    let p : IsPut m middle new sent b = subst (λ xs. IsPut m middle new (map to_send xs) b) e c in
    record {
      used = h.0.0;
      sent = sent;
      is_found = subst (λ (t : DictionaryTracker). found old.tracker (forest b.arrays) (file_ids old) ≡ Ok (record { held = held_by t; used = h.0.0; sent = sent })) (sym p.held.tracker) h.0.1;
      may = may_too old middle sent b f p.may;
      appended = p.appended;
      counts = p.counts;
      blocks = subst (λ x. HasMore x new.blocks sent b) f.blocks p.blocks;
      written = p.written;
      state = p.held.state ∙ f.state;
      stays = then_stays old middle new f.stays p.held.stays;
    }

why_not : (e : IpcError) (old middle : FileCore) (b : Batch) (n : NewDictionaries) → Found (Ok n) old.tracker middle.tracker (forest b.arrays) (file_ids old) → Follows old middle
    → (e ≡ Memory) ⊎ RefusesMore e middle (map to_send n.messages.items) b → SendCause e old b
why_not e old middle b n h f (inl w) = inl w
why_not e old middle b n h f (inr r) =
    stops_behind e old.tracker middle.tracker (forest b.arrays) (file_ids old) n (λ sent. RefusesMore e old sent b) h (refuses_too e old middle (map to_send n.messages.items) b f r)

stopped_send : (s : Bool) (e : IpcError) (m : Moved) (old middle new : FileCore) (b : Batch) (n : NewDictionaries) → Found (Ok n) old.tracker middle.tracker (forest b.arrays) (file_ids old) → Follows old middle
    → PutStops s m e middle (map to_send n.messages.items) b → (e ≡ Memory → s ≡ true → Grew m.old m.new) → new.state ≡ state_behind s old.state → HasNoMore old new → Sends m (Err e) old new b
stopped_send true e m old middle new b n h f c w s k = inr (record {
  sending = record { held = held_by middle.tracker; used = h.0.0; sent = map to_send n.messages.items };
  is_found = h.0.1;
  may = may_too old middle (map to_send n.messages.items) b f c.0;
  failed = record { put = c.1; behind = λ is. w is refl; state = s; same = k };
})
stopped_send false e m old middle new b n h f c w s k = inl (why_not e old middle b n h f c.0, record { untouched = c.1; state = s; same = k })

-- what is left where it is undone
pub undone_so : (old middle left back new : FileCore) (b : Batch) (n : NewDictionaries) → Found (Ok n) old.tracker middle.tracker (forest b.arrays) (file_ids old) → IsLeft middle left → Follows old middle
    → ((q : ℤ) → held_by back.tracker q ≡ undone n.changes.items (held_by left.tracker) q) → back.blocks ≡ left.blocks → back.has_written ≡ left.has_written → Stays left back
    → HasNoMore back new → new.tracker ≡ back.tracker → HasNoMore old new
undone_so old middle left back new b n h l f u k w s p t = record {
  held = kept_again old.tracker middle.tracker new.tracker (forest b.arrays) (file_ids old) n h
      (λ q. ap (λ (x : DictionaryTracker). held_by x q) t ∙ u q ∙ ap (λ (x : DictionaryTracker). undone n.changes.items (held_by x) q) l.held.tracker);
  blocks = record {
    dictionaries = p.blocks.dictionaries ∙ ap (λ (x : FileBlocks). x.dictionaries.items) k ∙ l.blocks.dictionaries ∙ ap (λ (x : FileBlocks). x.dictionaries.items) f.blocks;
    records = p.blocks.records ∙ ap (λ (x : FileBlocks). x.records.items) k ∙ l.blocks.records ∙ ap (λ (x : FileBlocks). x.records.items) f.blocks;
    end = p.blocks.end ∙ ap (λ (x : FileBlocks). x.end) k ∙ l.blocks.end ∙ ap (λ (x : FileBlocks). x.end) f.blocks;
  };
  written = p.written ∙ w ∙ l.written ∙ f.written;
  stays = then_stays old middle new f.stays (then_stays middle left new l.held.stays (then_stays left back new s p.stays));
}

-- it is not, and what was held is held again
pub not_sent : (y : IpcError) (stop : Stop) (m : Moved) (old middle new : FileCore) (b : Batch) (n : NewDictionaries) (messages : List ToEncode) → y ≡ stop.error
    → Found (Ok n) old.tracker middle.tracker (forest b.arrays) (file_ids old) → messages ≡ n.messages.items → PutStops stop.has_begun m stop.error middle (map to_send messages) b → (stop.error ≡ Memory → stop.has_begun ≡ true → Grew m.old m.new) → Follows old middle
    → new.state ≡ state_behind stop.has_begun old.state → HasNoMore old new → Sends m (Err y) old new b
not_sent y stop m old middle new b n messages g h e c w f s k =
    subst (λ z. Sends m (Err z) old new b) (sym g)
    (stopped_send stop.has_begun stop.error m old middle new b n h f (subst (λ xs. PutStops stop.has_begun m stop.error middle (map to_send xs) b) e c) w s k)
