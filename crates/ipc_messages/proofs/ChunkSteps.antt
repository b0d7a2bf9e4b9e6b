-- What is found of dictionaries, and what is encoded of it.
use Rattle.std.proofs.Common.{◌≡◌, ◌⊎◌, inl, inr, ℤ, false, None, List, map, refl, ap, ◌∙◌, subst, Result, Ok, Err}
use Rattle.arrow_spec.specs.declared.error.IpcError.{IpcError}
use Rattle.arrow_spec.specs.declared.error.IpcError.TheVariants as errors
use Rattle.arrow_spec.specs.declared.error.Feature.TheVariants as features
use Rattle.arrow_spec.specs.Kinds.{Kind}
use Rattle.arrow_arrays.specs.Batches.{Batch}
use Rattle.arrow_arrays.specs.Parts.{Forest}
use Rattle.ipc_fields.specs.IpcFields.{Ids}
use Rattle.ipc_dictionaries.specs.Batches.{Sends}
use Rattle.ipc_dictionaries.specs.Changes.{undone}
use Rattle.ipc_dictionaries.specs.NewDictionaries.{ToSend}
use Rattle.ipc_dictionaries.specs.Tracker.{held_by, IsKept}
use Rattle.ipc_dictionaries.specs.Walks.{options_of, to_send}
use Rattle.ipc_dictionaries.specs.declared.sending.NewDictionaries.{NewDictionaries}
use Rattle.ipc_dictionaries.specs.declared.tracker.DictionaryTracker.{DictionaryTracker}
use Rattle.ipc_write.specs.Encoding.{MayBeBatch}
use Rattle.ipc_write.specs.Outcomes.{Encodes, Plans, Same}
use Rattle.ipc_write.specs.declared.encoded.EncodedData.{EncodedData}
use Rattle.ipc_write.specs.declared.options.WriteOptions.{WriteOptions}
use Rattle.ipc_messages.specs.Encoded.{AreMessagesOf, AddsEach, RefusesOne, messages_of}
use Rattle.ipc_messages.specs.Chunks.{found, IsSentBy, Stops, AddsDictionary, IsOfBatch, MayBeSent, RefusesChunk, cannot_be_sent}
use Rattle.ipc_messages.proofs.MessageSteps.{encoded_fit, encoded_may}

-- ── a batch ──

pub same_message : (m : EncodedData) → Same m m
same_message m = record { message = refl; body = refl }

pub batch_encoded : (options : WriteOptions) (b : Batch) (old new : EncodedData) → Encodes (Ok tt) options b old new → MayBeBatch b → IsOfBatch options b new
batch_encoded options b old new h may = record { uncompressed = h.0; within = h.1; message = h.2; body = h.3; may = may }

-- with what of its dictionaries is sent before it
pub may_be_sent : (options : WriteOptions) (sent : List ToSend) (ms : List EncodedData) (b : Batch) (m : EncodedData) → AreMessagesOf options sent ms → IsOfBatch options b m → MayBeSent options sent b
may_be_sent options sent ms b m h k = record { fit = encoded_fit options sent ms h; within = k.within; values = encoded_may options sent ms h; batch = k.may }

refused_batch : (e : IpcError) (options : WriteOptions) (b : Batch) (old new : EncodedData) → Encodes (Err e) options b old new → Plans (Err e) options b × Same old new
refused_batch (errors.Unsupported features.Compression) options b old new h = (h.0, h.1)
refused_batch (errors.Unsupported feature) options b old new h = absurd h
refused_batch errors.TooLarge options b old new h = ((h.0, h.1), h.2)
refused_batch errors.Memory options b old new h = (h.0, h.1)
refused_batch e options b old new h = absurd h

-- the batch is refused behind its dictionaries
pub batch_refused : (e : IpcError) (options : WriteOptions) (sent : List ToSend) (ms : List EncodedData) (b : Batch) (old new : EncodedData) → AreMessagesOf options sent ms → Encodes (Err e) options b old new
    → RefusesChunk e options sent b × Same old new
batch_refused e options sent ms b old new h k =
    let both : Plans (Err e) options b × Same old new = refused_batch e options b old new k in
    (inr (encoded_fit options sent ms h, both.0), both.1)

-- ── what is found ──

-- it is sent by messages
pub sent_by : (options : WriteOptions) (old new : DictionaryTracker) (columns : Forest) (below : Ids) (n : NewDictionaries) (ms : List EncodedData) → options.compression ≡ None → Sends (Ok n) old new columns below → AreMessagesOf options (map to_send n.messages.items) ms
    → IsSentBy options old new columns below ms
sent_by options old new columns below n ms none h k = record { uncompressed = none; used = h.0.0; sent = map to_send n.messages.items; is_found = h.0.1; messages = k }

-- it is not, for its messages or the batch's are refused
pub stops_behind : (e : IpcError) (old new : DictionaryTracker) (columns : Forest) (below : Ids) (n : NewDictionaries) (refused : List ToSend → Type 0) → Sends (Ok n) old new columns below → refused (map to_send n.messages.items)
    → Stops e (found old columns below) refused
stops_behind e old new columns below n refused h k =
    inr (inr (record { held = held_by new; used = h.0.0; sent = map to_send n.messages.items }, h.0.1, k))

-- it is not found
pub stops_found : (e : IpcError) (old new : DictionaryTracker) (columns : Forest) (below : Ids) (refused : List ToSend → Type 0) → Sends (Err e) old new columns below → Stops e (found old columns below) refused × IsKept (held_by old) (held_by new)
stops_found e old new columns below refused h = (by h.0, h.1)
  where
    by : (e ≡ errors.Memory) ⊎ (found old columns below ≡ Err e) → Stops e (found old columns below) refused
    by (inl m) = inl m
    by (inr f) = inr (inl f)

-- and what was held before is held again
pub kept_again : (old middle new : DictionaryTracker) (columns : Forest) (below : Ids) (n : NewDictionaries) → Sends (Ok n) old middle columns below → ((q : ℤ) → held_by new q ≡ undone n.changes.items (held_by middle) q)
    → IsKept (held_by old) (held_by new)
kept_again old middle new columns below n h u q = u q ∙ h.1.given q

-- a column's dictionaries are not added
pub adds_stopped : (e : IpcError) (options : WriteOptions) (old new : DictionaryTracker) (columns : Forest) (below : Ids) (n : NewDictionaries) → Sends (Ok n) old new columns below → (e ≡ errors.Memory) ⊎ RefusesOne e options (map to_send n.messages.items)
    → Stops e (found old columns below) (λ sent. RefusesOne e options sent)
adds_stopped e options old new columns below n h (inl m) = inl m
adds_stopped e options old new columns below n h (inr r) = stops_behind e old new columns below n (λ sent. RefusesOne e options sent) h r

-- ── options ──

pub same_options : (a b : DictionaryTracker) → options_of a ≡ options_of b → (a.cannot_replace ≡ b.cannot_replace) × (a.deltas ≡ b.deltas)
same_options a b e = (ap (λ o. o.cannot_replace) e, ap (λ o. o.deltas) e)

-- ── one dictionary ──

pub dictionary_added : (r : Result (Unit {0}) IpcError) (options : WriteOptions) (id : ℤ) (k : Kind) (parts values : Forest) (was is : List EncodedData) → options.compression ≡ None → parts ≡ values → cannot_be_sent options k values ≡ false
    → AddsEach r options (messages_of id false parts) was is → AddsDictionary r options id k values was is
dictionary_added (Ok u) options id k parts values was is none e f h = (f, h.0, h.1, subst (λ ps. AreMessagesOf options (messages_of id false ps) h.0) e h.2)
dictionary_added (Err x) options id k parts values was is none e f h = (inr (none, inr (f, subst (λ ps. (x ≡ errors.Memory) ⊎ RefusesOne x options (messages_of id false ps)) e h.0)), h.1)
