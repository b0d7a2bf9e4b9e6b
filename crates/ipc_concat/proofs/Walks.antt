-- Why a batch of the kinds of a stream's fields is not written: memory was wanted, or a message is too large.
use Rattle.std.proofs.Common.{◌≡◌, ◌∙◌, ◌⊎◌, inl, inr, ℕ, ℤ, List, [], ◌∷◌, Bool, true, false, Option, Some, None, Result, Ok, Err, refl, sym, ap, subst}
use Rattle.std.specs.Prelude.{⊤, if◌then◌else◌, nat_le, not, ◌&&◌, is_some}
use Rattle.arrow_spec.specs.declared.error.IpcError.{IpcError}
use Rattle.arrow_spec.specs.declared.error.IpcError.TheVariants as errors
use Rattle.arrow_spec.specs.declared.error.Feature.TheVariants as features
use Rattle.arrow_spec.specs.Kinds.{have_same_kinds}
use Rattle.arrow_types.specs.Schemas.{Keyed, fields_in}
use Rattle.arrow_arrays.specs.Batches.{Batch}
use Rattle.arrow_arrays.specs.Heads.{indexed}
use Rattle.arrow_arrays.specs.Parts.{Forest, Parts, also, fault_each, forest, leaf, nested, none, rows_in}
use Rattle.arrow_arrays.specs.Columns.{columns_of}
use Rattle.ipc_fields.specs.IpcFields.{Ids, ids_of}
use Rattle.ipc_fields.specs.Uses.{first_id, first_ids, other_ids}
use Rattle.ipc_dictionaries.specs.NewDictionaries.{array_sent, dictionary_sent, has_several, holding, parts_sent, scoped, then_by, Options, Sending, ToSend, arrays_sent}
use Rattle.laws_walk.specs.Below.{Plans, WriteOptions, RefusesChunk, RefusesOne, Stops, SuitsStream, found_before, StreamCore}
use Rattle.ipc_dictionaries.specs.Batches.{begun}
use Rattle.ipc_dictionaries.specs.Columns.{columns_fault, unless_fault}
use Rattle.ipc_dictionaries.specs.Walks.{options_of}
use Rattle.laws_walk.proofs.Below.{batch_refused}
use Rattle.ipc_bodies.specs.declared.encoding.Encoding.{Encoding}
use Rattle.laws_walk.specs.Sends.{IsWriter}
use Rattle.laws_walk.proofs.WriteCauses.{faultless, unreplaced}

-- ── what is sent before it ──

-- a walk over dictionaries is refused for values under an id, or for several parts
abbrev IsOfDictionary : IpcError → Type 0
IsOfDictionary (errors.DictionaryReplaced id) = ⊤
IsOfDictionary errors.NotRepresentable = ⊤
IsOfDictionary e = ⊥

refused_by : (r : Result Sending IpcError) (k : Sending → Result Sending IpcError) (e : IpcError) → ((x : IpcError) → r ≡ Err x → IsOfDictionary x) → ((s : Sending) → k s ≡ Err e → IsOfDictionary e) → then_by r k ≡ Err e → IsOfDictionary e
refused_by (Ok s) k e h g is = g s is
refused_by (Err x) k e h g is = let same : x ≡ e = cc in h e (ap (λ y. Err y) same)

dictionary_refused : (o : Options) (allowed : Option Bool) (start : Option ℕ) (id : ℤ) (parts : Forest) (s : Sending) (walked : Result Sending IpcError) (e : IpcError) → ((x : IpcError) → walked ≡ Err x → IsOfDictionary x) → dictionary_sent o allowed start id parts s walked ≡ Err e → IsOfDictionary e
dictionary_refused o None start id parts s walked e h is = let same : errors.DictionaryReplaced id ≡ e = cc in subst IsOfDictionary same tt
dictionary_refused o (Some false) start id parts s walked e h is = cc
dictionary_refused o (Some true) start id parts s walked e h is = by (not (is_some start) && not o.deltas && has_several parts) is
  where
    by : (t : Bool) → (if t then Err errors.NotRepresentable else then_by walked (λ t. Ok (holding id parts t))) ≡ Err e → IsOfDictionary e
    by true k = let same : errors.NotRepresentable ≡ e = cc in subst IsOfDictionary same tt
    by false k = refused_by walked _ e h (λ t j. cc) k

either_refused : (t : Bool) (a b : Result Sending IpcError) (e : IpcError) → (a ≡ Err e → IsOfDictionary e) → (b ≡ Err e → IsOfDictionary e) → (if t then a else b) ≡ Err e → IsOfDictionary e
either_refused true a b e h k is = h is
either_refused false a b e h k is = k is

mutual
  array_refused : (o : Options) (p : Parts) (id : Option ℤ) (below : Ids) (s : Sending) (e : IpcError) → array_sent o p id below s ≡ Err e → IsOfDictionary e
  array_refused o (leaf l) id below s e is = cc
  array_refused o (nested (indexed d) parts) id below s e is = dictionary_refused o _ _ _ parts s _ e (λ x k. parts_refused o _ _ below _ _ parts s x k) is
  array_refused o (nested h children) id below s e is = arrays_refused o children below s e is

  arrays_refused : (o : Options) (ps : Forest) (below : Ids) (s : Sending) (e : IpcError) → arrays_sent o ps below s ≡ Err e → IsOfDictionary e
  arrays_refused o none below s e is = cc
  arrays_refused o (also p ps) below s e is = refused_by (array_sent o p (first_id below) (first_ids below) s) (arrays_sent o ps (other_ids below)) e (λ x k. array_refused o p _ _ s x k) (λ t k. arrays_refused o ps _ t e k) is

  parts_refused : (o : Options) (used : ℤ → Bool) (id : ℤ) (below : Ids) (is_delta : Bool) (n : ℕ) (ps : Forest) (s : Sending) (e : IpcError) → parts_sent o used id below is_delta n ps s ≡ Err e → IsOfDictionary e
  parts_refused o used id below is_delta n none s e is = cc
  parts_refused o used id below is_delta n (also p ps) s e is =
      either_refused (is_delta && nat_le (rows_in p) n) _ _ e (λ k. parts_refused o used id below true _ ps s e k) (λ k. refused_by (array_sent o p None below (scoped used s)) _ e (λ x j. array_refused o p None below _ x j) (λ x j. parts_refused o used id below true 0 ps _ e j) k) is

-- ── its messages ──

values_small : (e : IpcError) (options : WriteOptions) (ss : List ToSend) → options.compression ≡ None → RefusesOne e options ss → (e ≡ errors.Memory) ⊎ (e ≡ errors.TooLarge)
values_small e options [] plain h = absurd h
values_small errors.Memory options (s ∷ ss) plain (inl h) = inl refl
values_small errors.TooLarge options (s ∷ ss) plain (inl h) = inr refl
values_small (errors.Unsupported features.Compression) options (s ∷ ss) plain (inl h) = let never : false ≡ true = sym (ap is_some plain) ∙ h in cc
values_small e options (s ∷ ss) plain (inl h) = absurd h
values_small e options (s ∷ ss) plain (inr h) = values_small e options ss plain h.1

batch_small : (e : IpcError) (options : WriteOptions) (y : Batch) → options.compression ≡ None → Plans (Err e) options y → (e ≡ errors.Memory) ⊎ (e ≡ errors.TooLarge)
batch_small errors.Memory options y plain h = inl refl
batch_small errors.TooLarge options y plain h = inr refl
batch_small (errors.Unsupported features.Compression) options y plain h = let never : false ≡ true = sym (ap is_some plain) ∙ h in cc
batch_small e options y plain h = absurd h

chunk_small : (e : IpcError) (options : WriteOptions) (ss : List ToSend) (y : Batch) → options.compression ≡ None → RefusesChunk e options ss y → (e ≡ errors.Memory) ⊎ (e ≡ errors.TooLarge)
chunk_small e options ss y plain (inl values) = values_small e options ss plain values
chunk_small e options ss y plain (inr batch) = batch_small e options y plain batch.1

-- ── a batch ──

-- a message of it, or of what is sent before it, is too large
pub record IsLargeFor (w : StreamCore) (y : Batch) : Type 0 where
  pub sending : Sending
  pub found : found_before w y ≡ Ok sending
  pub large : RefusesChunk errors.TooLarge w.options sending.sent y

module _ (s : List Keyed) (encoded : Encoding) (w : StreamCore) (writer : IsWriter s encoded w) (y : Batch) (kinds : have_same_kinds (fields_in s) (columns_of (forest y.arrays)) ≡ true) (sound : fault_each (forest y.arrays) ≡ None) where
  below : Ids
  below = ids_of w.fields.items

  pub suits : SuitsStream w y None
  suits = record { types = ap (λ t. have_same_kinds (fields_in t) (columns_of (forest y.arrays))) writer.schema ∙ kinds; own = tt }

  walked : (e : IpcError) → found_before w y ≡ Err e → arrays_sent (options_of w.tracker) (forest y.arrays) below (begun w.tracker) ≡ Err e
  unfolding below
  walked e h = subst (λ f. unless_fault f (arrays_sent (options_of w.tracker) (forest y.arrays) below (begun w.tracker)) ≡ Err e) (faultless s encoded w writer y kinds sound) h

  -- what is sent before it is found
  finds : (e : IpcError) → found_before w y ≡ Err e → ⊥
  unfolding below
  finds e h = by e refl (arrays_refused (options_of w.tracker) (forest y.arrays) below (begun w.tracker) e (walked e h))
    where
      none_several : (columns_fault (columns_of (forest y.arrays)) below ≡ Some errors.NotRepresentable) ⊎ (w.tracker.deltas ≡ false) → ⊥
      none_several (inl fault) = let clash : None ≡ Some errors.NotRepresentable = sym (faultless s encoded w writer y kinds sound) ∙ fault in cc
      none_several (inr without) = let clash : true ≡ false = sym (ap (λ (o : Options). o.deltas) writer.tracker) ∙ without in cc

      by : (f : IpcError) → e ≡ f → IsOfDictionary f → ⊥
      by (errors.DictionaryReplaced id) is k = unreplaced s encoded w writer y kinds sound id (inr (inl (h ∙ ap (λ x. Err x) is)))
      by errors.NotRepresentable is k = none_several (batch_refused errors.NotRepresentable w.options w.tracker y below (inr (inl (h ∙ ap (λ x. Err x) is))))
      by f is k = k

  -- so it is refused for want of memory, or as too large
  pub stops : (e : IpcError) → Stops e (found_before w y) (λ sent. RefusesChunk e w.options sent y) → (e ≡ errors.Memory) ⊎ ((e ≡ errors.TooLarge) × IsLargeFor w y)
  stops e (inl memory) = inl memory
  stops e (inr (inl h)) = absurd (finds e h)
  stops e (inr (inr h)) = by (chunk_small e w.options h.0.sent y (ap (λ (o : WriteOptions). o.compression) writer.options) h.2)
    where
      by : (e ≡ errors.Memory) ⊎ (e ≡ errors.TooLarge) → (e ≡ errors.Memory) ⊎ ((e ≡ errors.TooLarge) × IsLargeFor w y)
      by (inl memory) = inl memory
      by (inr large) = inr (large, record { sending = h.0; found = h.1; large = subst (λ f. RefusesChunk f w.options h.0.sent y) large h.2 })
