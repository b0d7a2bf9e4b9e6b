-- Why a batch that was read of a file is not written, whatever the file is.
use Rattle.std.proofs.Common.{◌≡◌, inl, inr, ℕ, ℤ, List, [], ◌∷◌, ◌⊎◌, true, false, Some, None, Err, refl, sym, ap, ◌∙◌, subst}
use Rattle.arrow_spec.specs.declared.error.IpcError.{IpcError}
use Rattle.arrow_spec.specs.declared.error.IpcError.TheVariants as errors
use Rattle.arrow_spec.specs.Kinds.{have_same_kinds, numbered, uses_in}
use Rattle.arrow_spec.specs.Schema.{uses_agree}
use Rattle.arrow_spec.proofs.NumberedFields.{uses_numbered}
use Rattle.arrow_types.specs.Schemas.{Keyed, fields_in}
use Rattle.arrow_arrays.specs.Batches.{Batch}
use Rattle.arrow_arrays.specs.Parts.{fault_each, forest}
use Rattle.ipc_fields.specs.IpcFields.{Ids, fields_with, ids_of}
use Rattle.ipc_bodies.specs.Encodings.{text_of}
use Rattle.ipc_bodies.specs.Puts.{Moved, PutsPart}
use Rattle.ipc_bodies.specs.declared.encoding.Encoding.{Encoding}
use Rattle.ipc_stream_writer.specs.Below.{begun, columns_fault, columns_of, unless_fault, Options, ToSend, arrays_sent, options_of, RefusesChunk, Stops, RefusesOne, is_started}
use Rattle.ipc_reader.specs.Below.{WriteOptions}
use Rattle.ipc_stream_writer.proofs.Below.{IsOfChunk, batch_refused}
use Rattle.ipc_stream_writer.specs.Calls.{LeavesAll, WriteCause, WriteFailed, found_before}
use Rattle.ipc_stream_writer.specs.declared.stream.StreamCore.{StreamCore}
use Rattle.laws_sent.proofs.Right.{columns_right}
use Rattle.laws_sent.proofs.Unreplaced.{none_replaced}
use Rattle.laws_sent.proofs.SayableFields.{numberable}
use Rattle.laws_walk.specs.Sends.{IsWriter, SendCause}

-- ── a put ──

pub put_cause : (e : IpcError) (m : Moved) (bs : List ℕ) (reads reads' : ℕ) → PutsPart m e bs → SendCause e reads reads' m.faults m.faults_now
put_cause errors.WriteFault m bs reads reads' p = p.2
put_cause errors.Memory m bs reads reads' p = tt
put_cause e m bs reads reads' p = absurd p

-- ── a chunk ──

-- its messages are refused for no values under an id
not_replaced_by : (id : ℤ) (options : WriteOptions) (ss : List ToSend) → RefusesOne (errors.DictionaryReplaced id) options ss → ⊥
not_replaced_by id options [] h = h
not_replaced_by id options (s ∷ ss) (inl h) = h
not_replaced_by id options (s ∷ ss) (inr h) = not_replaced_by id options ss h.1

-- one that is refused for no values under an id, where deltas are sent
chunk_cause : (e : IpcError) (reads reads' writes writes' : ℕ) → IsOfChunk true e → ((id : ℤ) → e ≡ errors.DictionaryReplaced id → ⊥) → SendCause e reads reads' writes writes'
chunk_cause errors.ReadFault reads reads' writes writes' h never = absurd h
chunk_cause errors.WriteFault reads reads' writes writes' h never = absurd h
chunk_cause errors.State reads reads' writes writes' h never = absurd h
chunk_cause errors.SchemaMismatch reads reads' writes writes' h never = absurd h
chunk_cause errors.NotRepresentable reads reads' writes writes' h never = absurd (let no : true ≡ false = h in cc)
chunk_cause (errors.DictionaryReplaced id) reads reads' writes writes' h never = absurd (never id refl)
chunk_cause e reads reads' writes writes' h never = tt

-- columns of the kinds of a writer's fields
module _ (s : List Keyed) (encoded : Encoding) (w : StreamCore) (writer : IsWriter s encoded w) (y : Batch) (kinds : have_same_kinds (fields_in s) (columns_of (forest y.arrays)) ≡ true) (sound : fault_each (forest y.arrays) ≡ None) where
  below : Ids
  below = ids_of w.fields.items

  numbers : fields_with (fields_in s) below ≡ numbered (fields_in s) 0
  unfolding below
  numbers = writer.ids.ids (numberable (fields_in s) writer.representable)

  -- they have no fault
  pub faultless : columns_fault (columns_of (forest y.arrays)) (ids_of w.fields.items) ≡ None
  unfolding below
  faultless = columns_right (fields_in s) below (forest y.arrays) kinds writer.ids.shaped (ap (λ fs. uses_agree [] (uses_in fs)) numbers ∙ uses_numbered (fields_in s)) writer.representable

  -- and no values that are fixed already
  pub unreplaced : (id : ℤ) → Stops (errors.DictionaryReplaced id) (found_before w y) (λ sent. RefusesChunk (errors.DictionaryReplaced id) w.options sent y) → ⊥
  unfolding below
  unreplaced id (inl memory) = cc
  unreplaced id (inr (inl refused)) =
      none_replaced (options_of w.tracker) (fields_in s) below (forest y.arrays) (begun w.tracker) id (ap (λ (o : Options). o.cannot_replace) writer.tracker) numbers kinds sound (λ q. refl)
      (subst (λ f. unless_fault f (arrays_sent (options_of w.tracker) (forest y.arrays) below (begun w.tracker)) ≡ Err (errors.DictionaryReplaced id)) faultless refused)
  unreplaced id (inr (inr (sending, found, inl values))) = not_replaced_by id w.options sending.sent values
  unreplaced id (inr (inr (sending, found, inr batch))) = batch.1

  stops_cause : (e : IpcError) (reads reads' writes writes' : ℕ) → Stops e (found_before w y) (λ sent. RefusesChunk e w.options sent y) → SendCause e reads reads' writes writes'
  unfolding below
  stops_cause e reads reads' writes writes' why = by (batch_refused e w.options w.tracker y below why)
    where
      by : (columns_fault (columns_of (forest y.arrays)) below ≡ Some e) ⊎ IsOfChunk w.tracker.deltas e → SendCause e reads reads' writes writes'
      by (inl fault) = absurd (let no : None ≡ Some e = sym faultless ∙ fault in cc)
      by (inr of) = chunk_cause e reads reads' writes writes' (subst (λ d. IsOfChunk d e) (ap (λ (o : Options). o.deltas) writer.tracker) of) (λ id is. unreplaced id (subst (λ x. Stops x (found_before w y) (λ sent. RefusesChunk x w.options sent y)) is why))

  suits : have_same_kinds (fields_in w.schema) (columns_of (forest y.arrays)) ≡ true
  suits = ap (λ t. have_same_kinds (fields_in t) (columns_of (forest y.arrays))) writer.schema ∙ kinds

  pub not_written : (e : IpcError) (w' : StreamCore) (m : Moved) (reads reads' : ℕ) → (WriteCause e w y None × LeavesAll m w w') ⊎ WriteFailed (text_of w.encoding) m e w w' y None → SendCause e reads reads' m.faults m.faults_now
  not_written e w' m reads reads' (inr failed) = put_cause e m _ reads reads' failed.sends.failed.put
  not_written e w' m reads reads' (inl (inl never, leaves)) = let clash : false ≡ true = sym never.1 ∙ ap is_started writer.state in cc
  not_written e w' m reads reads' (inl (inr (started, inl mismatch), leaves)) = absurd (mismatch.1 (record { types = suits; own = tt }))
  not_written e w' m reads reads' (inl (inr (started, inr why), leaves)) = stops_cause e reads reads' m.faults m.faults_now why.1
