-- Why the messages of a batch are refused.
use Rattle.std.proofs.Common.{◌≡◌, ◌∙◌, ◌⊎◌, inl, inr, ℕ, ℤ, List, [], ◌∷◌, Bool, true, false, Option, Some, None, Result, Ok, Err, refl, sym, ap, subst}
use Rattle.std.specs.Prelude.{⊤, if◌then◌else◌, nat_le, not, ◌&&◌, is_some}
use Rattle.arrow_spec.specs.declared.error.IpcError.{IpcError}
use Rattle.arrow_spec.specs.declared.error.IpcError.TheVariants as errors
use Rattle.arrow_spec.specs.Kinds.{Fields, uses_in}
use Rattle.ipc_messages.specs.Below.{Batch, indexed, Forest, Parts, also, forest, leaf, nested, none, rows_in, columns_fault, columns_of, columns_sent, unless_fault, Options, Sending, ToSend, has_several, holding, array_sent, arrays_sent, dictionary_sent, parts_sent, scoped, then_by, agree, all_representable, DictionaryTracker, Ids, fields_with, have_shapes, first_id, first_ids, other_ids}
use Rattle.ipc_messages.specs.Chunks.{RefusesChunk, Stops, found}
use Rattle.ipc_messages.specs.Encoded.{RefusesOne}
use Rattle.laws_columns.specs.Below.{Plans, PlansValues, WriteOptions}

-- why a batch is refused whose columns have no fault: several parts in place of deltas only where none are sent, and no fault of a device, no state of a writer, and no other schema
abbrev pub IsOfChunk : Bool → IpcError → Type 0
IsOfChunk deltas errors.ReadFault = ⊥
IsOfChunk deltas errors.WriteFault = ⊥
IsOfChunk deltas errors.State = ⊥
IsOfChunk deltas errors.SchemaMismatch = ⊥
IsOfChunk deltas (errors.Projection index) = ⊥
IsOfChunk deltas errors.NotRepresentable = deltas ≡ false
IsOfChunk deltas e = ⊤

-- ── what is sent before it ──

refused_by : (d : Bool) (r : Result Sending IpcError) (k : Sending → Result Sending IpcError) (e : IpcError) → ((x : IpcError) → r ≡ Err x → IsOfChunk d x) → ((s : Sending) → k s ≡ Err e → IsOfChunk d e) → then_by r k ≡ Err e → IsOfChunk d e
refused_by d (Ok s) k e h g is = g s is
refused_by d (Err x) k e h g is = let same : x ≡ e = cc in h e (ap (λ y. Err y) same)

sends_none : (begun deltas several : Bool) → (not begun && not deltas && several) ≡ true → deltas ≡ false
sends_none begun false several h = refl
sends_none true true several h = cc
sends_none false true several h = cc

dictionary_refused : (o : Options) (allowed : Option Bool) (start : Option ℕ) (id : ℤ) (parts : Forest) (s : Sending) (walked : Result Sending IpcError) (e : IpcError) → ((x : IpcError) → walked ≡ Err x → IsOfChunk o.deltas x) → dictionary_sent o allowed start id parts s walked ≡ Err e → IsOfChunk o.deltas e
dictionary_refused o None start id parts s walked e h is = let same : errors.DictionaryReplaced id ≡ e = cc in subst (IsOfChunk o.deltas) same tt
dictionary_refused o (Some false) start id parts s walked e h is = cc
dictionary_refused o (Some true) start id parts s walked e h is = by (not (is_some start) && not o.deltas && has_several parts) refl is
  where
    by : (t : Bool) → (not (is_some start) && not o.deltas && has_several parts) ≡ t → (if t then Err errors.NotRepresentable else then_by walked (λ t. Ok (holding id parts t))) ≡ Err e → IsOfChunk o.deltas e
    by true g k = let same : errors.NotRepresentable ≡ e = cc in subst (IsOfChunk o.deltas) same (sends_none (is_some start) o.deltas (has_several parts) g)
    by false g k = refused_by o.deltas walked _ e h (λ t j. cc) k

either_refused : (d t : Bool) (a b : Result Sending IpcError) (e : IpcError) → (a ≡ Err e → IsOfChunk d e) → (b ≡ Err e → IsOfChunk d e) → (if t then a else b) ≡ Err e → IsOfChunk d e
either_refused d true a b e h k is = h is
either_refused d false a b e h k is = k is

mutual
  array_refused : (o : Options) (p : Parts) (id : Option ℤ) (below : Ids) (s : Sending) (e : IpcError) → array_sent o p id below s ≡ Err e → IsOfChunk o.deltas e
  array_refused o (leaf l) id below s e is = cc
  array_refused o (nested (indexed d) parts) id below s e is = dictionary_refused o _ _ _ parts s _ e (λ x k. parts_refused o _ _ below _ _ parts s x k) is
  array_refused o (nested h children) id below s e is = arrays_refused o children below s e is

  arrays_refused : (o : Options) (ps : Forest) (below : Ids) (s : Sending) (e : IpcError) → arrays_sent o ps below s ≡ Err e → IsOfChunk o.deltas e
  arrays_refused o none below s e is = cc
  arrays_refused o (also p ps) below s e is = refused_by o.deltas (array_sent o p (first_id below) (first_ids below) s) (arrays_sent o ps (other_ids below)) e (λ x k. array_refused o p _ _ s x k) (λ t k. arrays_refused o ps _ t e k) is

  parts_refused : (o : Options) (used : ℤ → Bool) (id : ℤ) (below : Ids) (is_delta : Bool) (n : ℕ) (ps : Forest) (s : Sending) (e : IpcError) → parts_sent o used id below is_delta n ps s ≡ Err e → IsOfChunk o.deltas e
  parts_refused o used id below is_delta n none s e is = cc
  parts_refused o used id below is_delta n (also p ps) s e is =
      either_refused o.deltas (is_delta && nat_le (rows_in p) n) _ _ e (λ k. parts_refused o used id below true _ ps s e k) (λ k. refused_by o.deltas (array_sent o p None below (scoped used s)) _ e (λ x j. array_refused o p None below _ x j) (λ x j. parts_refused o used id below true 0 ps _ e j) k) is

-- ── its messages ──

-- a refusal that is none of these
of_chunk : (d : Bool) (Q : IpcError → Type 0) → (Q errors.ReadFault → ⊥) → (Q errors.WriteFault → ⊥) → (Q errors.State → ⊥) → (Q errors.SchemaMismatch → ⊥) → (Q errors.NotRepresentable → ⊥) → ((i : ℕ) → Q (errors.Projection i) → ⊥) → (e : IpcError) → Q e → IsOfChunk d e
of_chunk d Q r w s m n p errors.ReadFault h = r h
of_chunk d Q r w s m n p errors.WriteFault h = w h
of_chunk d Q r w s m n p errors.State h = s h
of_chunk d Q r w s m n p errors.SchemaMismatch h = m h
of_chunk d Q r w s m n p errors.NotRepresentable h = absurd (n h)
of_chunk d Q r w s m n p (errors.Projection i) h = p i h
of_chunk d Q r w s m n p e h = tt

values_refused : (d : Bool) (e : IpcError) (options : WriteOptions) (ss : List ToSend) → RefusesOne e options ss → IsOfChunk d e
values_refused d e options [] h = absurd h
values_refused d e options (s ∷ ss) (inl h) = of_chunk d (λ x. PlansValues (Err x) options s.id s.is_delta s.part) (λ q. q) (λ q. q) (λ q. q) (λ q. q) (λ q. q) (λ i q. q) e h
values_refused d e options (s ∷ ss) (inr h) = values_refused d e options ss h.1

chunk_refused : (d : Bool) (e : IpcError) (options : WriteOptions) (sent : List ToSend) (b : Batch) → RefusesChunk e options sent b → IsOfChunk d e
chunk_refused d e options sent b (inl h) = values_refused d e options sent h
chunk_refused d e options sent b (inr h) = of_chunk d (λ x. Plans (Err x) options b) (λ q. q) (λ q. q) (λ q. q) (λ q. q) (λ q. q) (λ i q. q) e h.1

-- ── a batch ──

-- the faults that columns have
pub fault_is : (fs : Fields) (below : Ids) (x : IpcError) → columns_fault fs below ≡ Some x → (x ≡ errors.SchemaMismatch) ⊎ (x ≡ errors.NotRepresentable)
fault_is fs below x is = by (not (have_shapes fs below && agree (uses_in (fields_with fs below)))) (not (all_representable fs)) is
  where
    by : (t q : Bool) → (if t then Some errors.SchemaMismatch else (if q then Some errors.NotRepresentable else None)) ≡ Some x → (x ≡ errors.SchemaMismatch) ⊎ (x ≡ errors.NotRepresentable)
    by true q k = let same : x ≡ errors.SchemaMismatch = cc in inl same
    by false true k = let same : x ≡ errors.NotRepresentable = cc in inr same
    by false false k = cc

columns_refused : (o : Options) (columns : Forest) (below : Ids) (s : Sending) (e : IpcError) → columns_sent o columns below s ≡ Err e → (columns_fault (columns_of columns) below ≡ Some e) ⊎ IsOfChunk o.deltas e
columns_refused o columns below s e is = by (columns_fault (columns_of columns) below) refl is
  where
    by : (f : Option IpcError) → columns_fault (columns_of columns) below ≡ f → unless_fault f (arrays_sent o columns below s) ≡ Err e → (columns_fault (columns_of columns) below ≡ Some e) ⊎ IsOfChunk o.deltas e
    by None h k = inr (arrays_refused o columns below s e k)
    by (Some x) h k = let same : x ≡ e = cc in inl (h ∙ ap (λ y. Some y) same)

-- its columns have a fault, or it is refused as they have none
pub batch_refused : (e : IpcError) (options : WriteOptions) (t : DictionaryTracker) (b : Batch) (below : Ids) → Stops e (found t (forest b.arrays) below) (λ sent. RefusesChunk e options sent b)
    → (columns_fault (columns_of (forest b.arrays)) below ≡ Some e) ⊎ IsOfChunk t.deltas e
batch_refused e options t b below (inl is) = inr (subst (IsOfChunk t.deltas) (sym is) tt)
batch_refused e options t b below (inr (inl is)) = columns_refused _ (forest b.arrays) below _ e is
batch_refused e options t b below (inr (inr h)) = inr (chunk_refused t.deltas e options h.0.sent b h.2)
