-- A batch that is sent with its dictionaries, or not.
use Rattle.std.proofs.Common.{◌≡◌, ◌⊎◌, inl, inr, ℕ, ◌+◌, ℤ, List, Bool, true, false, map, Result, Ok, Err, refl, sym, subst, arith}
use Rattle.std.specs.Result.{IsErrAnd}
use Rattle.arrow_spec.specs.declared.error.IpcError.{IpcError}
use Rattle.arrow_spec.specs.declared.error.IpcError.TheVariants.{Memory}
use Rattle.ipc_messages.specs.Below.{Batch, Parts, forest, Sends as Found, undone, held_by, to_send, NewDictionaries, DictionaryTracker, ToEncode}
use Rattle.ipc_fields.specs.IpcFields.{ids_of}
use Rattle.ipc_fields.specs.declared.ipc_field.IpcField.{IpcField}
use Rattle.ipc_bodies.specs.Puts.{Moved}
use Rattle.ipc_messages.specs.Chunks.{RefusesChunk}
use Rattle.ipc_messages.proofs.ChunkSteps.{kept_again, stops_behind, stops_found}
use Rattle.ipc_messages.specs.declared.puts.Stop.{Stop}
use Rattle.ipc_stream_writer.specs.declared.stream.StreamCore.{StreamCore}
use Rattle.ipc_stream_writer.specs.Calls.{SendCause, Sends, Stays}
use Rattle.ipc_stream_writer.proofs.Meaning.{still_written}
use Rattle.ipc_messages.specs.Puts.{Grew, SendStops, SendsChunk, Untouched, counted}
use Rattle.ipc_messages.specs.States.{state_behind}

-- what is found of a batch's dictionaries is not to be sent
pub not_found : (encode : List ℕ → List ℕ) (r : Result (Unit {0}) IpcError) (e : IpcError) (m : Moved) (old new : StreamCore) (b : Batch) (arrays : List Parts) (fields : List IpcField) → IsErrAnd r (λ f. f ≡ e) → arrays ≡ b.arrays → fields ≡ old.fields.items
    → Found (Err e) old.tracker new.tracker (forest arrays) (ids_of fields) → Untouched m → new.state ≡ old.state → new.byte_count ≡ old.byte_count → Stays old new → Sends encode m r old new b
not_found encode (Ok u) e m old new b arrays fields f a i h t s v k = absurd f
not_found encode (Err x) e m old new b arrays fields f a i h t s v k =
    let own : Found (Err e) old.tracker new.tracker (forest arrays) (ids_of old.fields.items) = subst (λ xs. Found (Err e) old.tracker new.tracker (forest arrays) (ids_of xs)) i h in
    let here : Found (Err e) old.tracker new.tracker (forest b.arrays) (ids_of old.fields.items) = subst (λ ps. Found (Err e) old.tracker new.tracker (forest ps) (ids_of old.fields.items)) a own in
    let both = stops_found e old.tracker new.tracker (forest b.arrays) (ids_of old.fields.items) (λ sent. RefusesChunk e old.options sent b) here in
    subst (λ y. Sends encode m (Err y) old new b) (sym f) (inl (both.0, record { untouched = t; state = s; held = both.1; count = v; stays = k; written = still_written old new both.1 v k }))

why_not : (e : IpcError) (old : StreamCore) (middle : DictionaryTracker) (x : Batch) (n : NewDictionaries) → Found (Ok n) old.tracker middle (forest x.arrays) (ids_of old.fields.items)
    → (e ≡ Memory) ⊎ RefusesChunk e old.options (map to_send n.messages.items) x → SendCause e old x
why_not e old middle x n h (inl w) = inl w
why_not e old middle x n h (inr r) = stops_behind e old.tracker middle (forest x.arrays) (ids_of old.fields.items) n (λ sent. RefusesChunk e old.options sent x) h r

-- it is, and was sent
pub was_sent : (encode : List ℕ → List ℕ) (m : Moved) (k : ℕ) (old new : StreamCore) (b : Batch) (n : NewDictionaries) (messages : List ToEncode) → Found (Ok n) old.tracker new.tracker (forest b.arrays) (ids_of old.fields.items) → messages ≡ n.messages.items
    → SendsChunk encode m (Ok k) old.options (map to_send messages) b → new.state ≡ old.state → Stays old new → new.byte_count ≡ counted (old.byte_count + k) → Sends encode m (Ok tt) old new b
was_sent encode m k old new b n messages h e c s y v =
    let here : SendsChunk encode m (Ok k) old.options (map to_send n.messages.items) b = subst (λ xs. SendsChunk encode m (Ok k) old.options (map to_send xs) b) e c in
    record {
      used = h.0.0;
      sent = map to_send n.messages.items;
      is_found = h.0.1;
      may = here.0;
      appended = here.1;
      counts = here.2;
      state = s;
      stays = y;
      count = omega (arith, v, here.3);
      few = omega (arith, here.3, here.4);
    }

stopped_send : (encode : List ℕ → List ℕ) (b : Bool) (e : IpcError) (m : Moved) (old new : StreamCore) (middle : DictionaryTracker) (x : Batch) (n : NewDictionaries) → Found (Ok n) old.tracker middle (forest x.arrays) (ids_of old.fields.items)
    → SendStops encode b m e old.options (map to_send n.messages.items) x → (e ≡ Memory → b ≡ true → Grew m.old m.new) → new.state ≡ state_behind b old.state → ((q : ℤ) → held_by new.tracker q ≡ undone n.changes.items (held_by middle) q) → new.byte_count ≡ old.byte_count → Stays old new → Sends encode m (Err e) old new x
stopped_send encode true e m old new middle x n h c w s u v k = inr (record {
  sending = record { held = held_by middle; used = h.0.0; sent = map to_send n.messages.items };
  is_found = h.0.1;
  may = c.0;
  failed = record { put = c.1; behind = λ is. w is refl; state = s; held = kept_again old.tracker middle new.tracker (forest x.arrays) (ids_of old.fields.items) n h u; count = v; stays = k };
})
stopped_send encode false e m old new middle x n h c w s u v k =
    let held = kept_again old.tracker middle new.tracker (forest x.arrays) (ids_of old.fields.items) n h u in
    inl (why_not e old middle x n h c.0, record { untouched = c.1; state = s; held = held; count = v; stays = k; written = still_written old new held v k })

-- it is not, and what was held is held again
pub not_sent : (encode : List ℕ → List ℕ) (y : IpcError) (stop : Stop) (m : Moved) (old new : StreamCore) (middle : DictionaryTracker) (x : Batch) (n : NewDictionaries) (messages : List ToEncode) → y ≡ stop.error → Found (Ok n) old.tracker middle (forest x.arrays) (ids_of old.fields.items)
    → messages ≡ n.messages.items → SendStops encode stop.has_begun m stop.error old.options (map to_send messages) x → (stop.error ≡ Memory → stop.has_begun ≡ true → Grew m.old m.new) → new.state ≡ state_behind stop.has_begun old.state
    → ((q : ℤ) → held_by new.tracker q ≡ undone n.changes.items (held_by middle) q) → new.byte_count ≡ old.byte_count → Stays old new → Sends encode m (Err y) old new x
not_sent encode y stop m old new middle x n messages f h e c w s u v k =
    subst (λ z. Sends encode m (Err z) old new x) (sym f) (stopped_send encode stop.has_begun stop.error m old new middle x n h (subst (λ xs. SendStops encode stop.has_begun m stop.error old.options (map to_send xs) x) e c) w s u v k)
