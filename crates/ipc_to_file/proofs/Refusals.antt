-- What a stream that becomes a file comes to, or is refused for.
use Rattle.std.proofs.Common.{◌≡◌, ◌⊎◌, inl, inr, ℕ, List, [], Option, None, Some, Ok, Err, Result, IfErr, IfOk, IfSome, OnOk, ◌++◌, false, true, refl, sym, ap, subst, ◌∙◌, arith}
use Rattle.std.specs.Prelude.{IsSome}
use Rattle.std.specs.Io.KnownBytes.{Appends, Keeps}
use Rattle.arrow_spec.specs.declared.error.IpcError.{IpcError}
use Rattle.arrow_spec.specs.declared.error.IpcError.TheVariants as errors
use Rattle.arrow_spec.specs.Features.{chosen_floats}
use Rattle.arrow_spec.specs.Files.{ArrowTable}
use Rattle.arrow_spec.specs.Readings.{IsAmong, Reading, Refuses, meaning, refusals}
use Rattle.arrow_spec.specs.Streams.{stream_reading, stream_table}
use Rattle.arrow_arrays.specs.Batches.{Batch}
use Rattle.ipc_bodies.specs.Puts.{Moved, NoneFalls, PutsText}
use Rattle.ipc_io.specs.Outside.{Rose, Stands}
use Rattle.laws_walk.specs.Below.{FileCause}
use Rattle.ipc_append.specs.Below.{IsReadable, MayBeWritten, stream_schema, StreamMetadata}
use Rattle.ipc_append.specs.Wholes.{IsWhole, RefusesStream, table_read}
use Rattle.ipc_append.specs.declared.stream.WholeStream.{WholeStream}
use Rattle.laws_walk.specs.Summaries.{IsSummary}
use Rattle.laws_walk.specs.declared.summary.Summary.{Summary}
use Rattle.ipc_to_file.specs.Files.{IsRareRefusal, LeavesNone, MakesFile, PutCause, RefusesFile, ToFileCause, in_file, in_keys, in_kinds, in_stream, of_devices}
use Rattle.ipc_to_file.specs.Streams.{IsMadeOf, IsUnited, RefusesUnited, UnitedCause, has_large}
use Rattle.ipc_to_file.specs.Writing.{StopsFile, WritesFile}
use Rattle.ipc_to_file.proofs.Puts.{part_counts}
use Rattle.ipc_to_file.proofs.Tables.{made_table}

-- ── results ──

pub ok_of : {A E : Type 0} (r : Result A E) (P Q : A → Type 0) → ((x : A) → P x → Q x) → IfOk r P → IfOk r Q
ok_of (Ok x) P Q k h = k x h
ok_of (Err e) P Q k h = tt

pub err_of : {A E : Type 0} (r : Result A E) (P Q : E → Type 0) → ((e : E) → P e → Q e) → IfErr r P → IfErr r Q
err_of (Ok x) P Q k h = tt
err_of (Err e) P Q k h = k e h

-- ── done ──

pub makes_file : (rest : Option (List ℕ)) (old new : Option (List ℕ)) (u : WholeStream) (s : Summary) → IsUnited rest u → WritesFile s u old new → IfSome rest (λ b. MakesFile s b (λ x. x) old new)
makes_file None old new u s h w = tt
makes_file (Some b) old new u s h w =
    let same = made_table h.stream u h.made in
    record {
      bytes = w.bytes;
      table = table_read h.stream;
      stream = h.whole.table;
      file = w.file ∙ ap (λ (t : ArrowTable). Some t) same;
      added = w.added;
      summary = subst (λ t. IsSummary s t w.bytes) same w.summary;
      read = h.stream;
      whole = h.whole;
      united = u;
      made = h.made;
    }

-- ── the stream ──

keys_refused : (e : IpcError) (b : List ℕ) (s : WholeStream) → IsWhole b s → (e ≡ errors.Memory) ⊎ ((e ≡ errors.NotRepresentable) × has_large s) → RefusesUnited e b
keys_refused e b s w (inl memory) = inl (inl (subst (λ z. Refuses z (refusals (stream_reading b None))) (sym memory) tt))
keys_refused e b s w (inr h) = inr (h.0, record { stream = s; whole = w; large = h.1 })

pub keys_refused_at : (rest : Option (List ℕ)) (e : IpcError) (s : WholeStream) → IfSome rest (λ b. IsWhole b s) → (e ≡ errors.Memory) ⊎ ((e ≡ errors.NotRepresentable) × has_large s) → IfSome rest (λ b. RefusesUnited e b)
keys_refused_at None e s w h = tt
keys_refused_at (Some b) e s w h = keys_refused e b s w h

pub keys_cause : (e : IpcError) (s : WholeStream) (f f' : ℕ) → (e ≡ errors.Memory) ⊎ ((e ≡ errors.NotRepresentable) × has_large s) → UnitedCause e f f'
keys_cause e s f f' (inl memory) = subst (λ z. UnitedCause z f f') (sym memory) tt
keys_cause e s f f' (inr h) = subst (λ z. UnitedCause z f f') (sym h.0) tt

pub read_refused : (e : IpcError) (f f' : ℕ) → FileCause e f f' → UnitedCause e f f'
read_refused errors.NotRepresentable f f' h = tt
read_refused e f f' h = h

pub stream_refused_at : (rest : Option (List ℕ)) (e : IpcError) → IfSome rest (λ b. RefusesStream e b) → IfSome rest (λ b. RefusesUnited e b)
stream_refused_at None e h = tt
stream_refused_at (Some b) e h = inl h

pub united_is : (rest : Option (List ℕ)) (r : Result WholeStream IpcError) (s : WholeStream) → IfSome rest (λ b. IsWhole b s) → IsReadable s.metadata → MayBeWritten s.metadata → IfOk r (IsMadeOf s) → IfOk r (IsUnited rest)
united_is rest r s whole readable may h = ok_of r (IsMadeOf s) (IsUnited rest) (λ u made. record { stream = s; whole = whole; readable = readable; may = may; made = made }) h

-- the metadata is the stream's
pub united_readable : (rest : Option (List ℕ)) (u : WholeStream) → IsUnited rest u → IsReadable u.metadata
united_readable rest u h = subst IsReadable (sym h.made.metadata) h.readable

pub united_may : (rest : Option (List ℕ)) (u : WholeStream) → IsUnited rest u → MayBeWritten u.metadata
united_may rest u h = subst MayBeWritten (sym h.made.metadata) h.may

-- ── refused ──

pub united_refused : (e : IpcError) (b : List ℕ) → RefusesUnited e b → RefusesFile e b
united_refused e b (inl h) = in_stream h
united_refused e b (inr h) = in_keys h.0 h.1

pub united_refused_at : (rest : Option (List ℕ)) (e : IpcError) → IfSome rest (λ b. RefusesUnited e b) → IfSome rest (λ b. RefusesFile e b)
united_refused_at None e h = tt
united_refused_at (Some b) e h = united_refused e b h

pub united_cause : (e : IpcError) (f f' g g' : ℕ) → UnitedCause e f f' → ToFileCause e f f' g g'
united_cause errors.ReadFault f f' g g' h = h
united_cause errors.WriteFault f f' g g' h = absurd h
united_cause (errors.Projection index) f f' g g' h = absurd h
united_cause errors.SchemaMismatch f f' g g' h = absurd h
united_cause (errors.DictionaryReplaced id) f f' g g' h = absurd h
united_cause errors.State f f' g g' h = absurd h
united_cause e f f' g g' h = tt

kept_so : (o : Option (List ℕ)) → Keeps o o
kept_so None = tt
kept_so (Some x) = refl

pub leaves_same : (e : IpcError) (old new : Option (List ℕ)) → new ≡ old → LeavesNone e old new
leaves_same errors.TooLarge old new h = tt
leaves_same errors.Memory old new h = tt
leaves_same errors.WriteFault old new h = tt
leaves_same e old new h = subst (Keeps old) (sym h) (kept_so old)

pub file_refused : (e : IpcError) (b : List ℕ) (u : WholeStream) (old new : Option (List ℕ)) (f f' : ℕ) → IsUnited (Some b) u → StopsFile e u.metadata u.batches.items old new f f' → RefusesFile e b
file_refused errors.Memory b u old new f f' h s = of_devices (inl refl)
file_refused errors.WriteFault b u old new f f' h s = of_devices (inr refl)
file_refused errors.TooLarge b u old new f f' h s = in_file refl (record { stream = h.stream; whole = h.whole; united = u; made = h.made; large = s })
file_refused (errors.Unsupported feature) b u old new f f' h s =
    in_kinds (record { stream = h.stream; whole = h.whole; refused = subst (λ (m : StreamMetadata). IsAmong (chosen_floats None (stream_schema m).fields 0) (errors.Unsupported feature)) h.made.metadata s.0 })
file_refused e b u old new f f' h s = absurd s

pub file_refused_at : (rest : Option (List ℕ)) (e : IpcError) (u : WholeStream) (old new : Option (List ℕ)) (f f' : ℕ) → IsUnited rest u → StopsFile e u.metadata u.batches.items old new f f' → IfSome rest (λ b. RefusesFile e b)
file_refused_at None e u old new f f' h s = tt
file_refused_at (Some b) e u old new f f' h s = file_refused e b u old new f f' h s

pub file_cause : (e : IpcError) (m : StreamMetadata) (bs : List Batch) (old new : Option (List ℕ)) (f f' g g' : ℕ) → StopsFile e m bs old new g g' → ToFileCause e f f' g g'
file_cause errors.Memory m bs old new f f' g g' s = tt
file_cause errors.WriteFault m bs old new f f' g g' s = s
file_cause errors.TooLarge m bs old new f f' g g' s = tt
file_cause (errors.Unsupported feature) m bs old new f f' g g' s = tt
file_cause e m bs old new f f' g g' s = absurd s

pub file_leaves : (e : IpcError) (m : StreamMetadata) (bs : List Batch) (old new : Option (List ℕ)) (g g' : ℕ) → StopsFile e m bs old new g g' → LeavesNone e old new
file_leaves errors.Memory m bs old new g g' s = tt
file_leaves errors.WriteFault m bs old new g g' s = tt
file_leaves errors.TooLarge m bs old new g g' s = tt
file_leaves (errors.Unsupported feature) m bs old new g g' s = s.1
file_leaves e m bs old new g g' s = absurd s

-- ── complete ──

abbrev IsOfDevice : IpcError → Type 0
IsOfDevice e = (e ≡ errors.Memory) ⊎ ((e ≡ errors.ReadFault) ⊎ (e ≡ errors.WriteFault))

refuses_none : (e : IpcError) → Refuses e [] → IsOfDevice e
refuses_none errors.Memory h = inl refl
refuses_none errors.ReadFault h = inr (inl refl)
refuses_none errors.WriteFault h = inr (inr refl)
refuses_none e h = absurd h

means_some : {A : Type 0} (r : Reading A) → IsSome (meaning r) → refusals r ≡ []
means_some (Ok x) h = refl
means_some (Err es) h = let clash : false ≡ true = h in cc

read_of_device : (e : IpcError) (b : List ℕ) → IsSome (stream_table b None) → Refuses e (refusals (stream_reading b None)) → IsOfDevice e
unfolding stream_table
read_of_device e b some h = refuses_none e (subst (Refuses e) (means_some (stream_reading b None) some) h)

never_rose : (n k : ℕ) → Stands n k → Rose n k → ⊥
never_rose n k s r = omega (arith, s.same, s.below, r)

module _ (e : IpcError) (b : List ℕ) (f f' g g' : ℕ) (reads : Stands f f') (writes : Stands g g') (cause : ToFileCause e f f' g g') where
  by_device : IsOfDevice e → e ≡ errors.Memory
  by_device (inl memory) = memory
  by_device (inr (inl is)) = absurd (never_rose f f' reads (subst (λ z. ToFileCause z f f' g g') is cause))
  by_device (inr (inr is)) = absurd (never_rose g g' writes (subst (λ z. ToFileCause z f f' g g') is cause))

  by_stream : IsSome (stream_table b None) → RefusesStream e b → IsRareRefusal e b
  by_stream some (inl h) = inl (by_device (read_of_device e b some h))
  by_stream some (inr h) = inr (inl h)

  by_devices : (e ≡ errors.Memory) ⊎ (e ≡ errors.WriteFault) → e ≡ errors.Memory
  by_devices (inl is) = is
  by_devices (inr is) = by_device (inr (inr is))

  pub is_rare : IsSome (stream_table b None) → RefusesFile e b → IsRareRefusal e b
  is_rare some (in_stream h) = by_stream some h
  is_rare some (in_kinds h) = inr (inr (inl h))
  is_rare some (in_keys is h) = inr (inr (inr (inl (is, h))))
  is_rare some (in_file is h) = inr (inr (inr (inr (is, h))))
  is_rare some (of_devices h) = inl (by_devices h)

pub complete : {A : Type 0} (r : Result A IpcError) (rest : Option (List ℕ)) (f f' g g' : ℕ) → IfErr r (λ e. IfSome rest (λ b. RefusesFile e b)) → IfErr r (λ e. ToFileCause e f f' g g') → IfSome rest (λ b. IsSome (stream_table b None) → Stands f f' → Stands g g' → IfErr r (λ e. IsRareRefusal e b))
complete (Ok x) None f f' g g' h k = tt
complete (Ok x) (Some b) f f' g g' h k = λ some reads writes. tt
complete (Err e) None f f' g g' h k = tt
complete (Err e) (Some b) f f' g g' h k = λ some reads writes. is_rare e b f f' g g' reads writes k some h

-- ── hex text ──

pub hex_file : (rest : Option (List ℕ)) (r : Summary) (before held bytes : List ℕ) (text : List ℕ → List ℕ) (old new : Option (List ℕ)) → before ≡ [] → bytes ≡ held → IfSome rest (λ b. MakesFile r b (λ x. x) (Some before) (Some held)) → Appends old new (text bytes)
    → IfSome rest (λ b. MakesFile r b text old new)
hex_file None r before held bytes text old new none is h a = tt
hex_file (Some b) r before held bytes text old new none is h a =
    let same : held ≡ h.bytes = subst (λ xs. held ≡ xs ++ h.bytes) none h.added in
    let all : bytes ≡ h.bytes = is ∙ same in
    record { bytes = h.bytes; table = h.table; stream = h.stream; file = h.file; added = subst (λ xs. Appends old new (text xs)) all a; summary = h.summary; read = h.read; whole = h.whole; united = h.united; made = h.made }

-- memory never fails
pub memory_cause : (e : IpcError) (f f' g g' : ℕ) → ToFileCause e f f' 0 0 → ToFileCause e f f' g g'
memory_cause errors.WriteFault f f' g g' h = absurd (omega (arith, h))
memory_cause errors.ReadFault f f' g g' h = h
memory_cause (errors.Projection index) f f' g g' h = absurd h
memory_cause errors.SchemaMismatch f f' g g' h = absurd h
memory_cause (errors.DictionaryReplaced id) f f' g g' h = absurd h
memory_cause errors.State f f' g g' h = absurd h
memory_cause e f f' g g' h = tt

pub text_refused : (rest : Option (List ℕ)) (e : IpcError) (g g' : ℕ) → PutCause e g g' → IfSome rest (λ b. RefusesFile e b)
text_refused None e g g' h = tt
text_refused (Some b) errors.Memory g g' h = of_devices (inl refl)
text_refused (Some b) errors.WriteFault g g' h = of_devices (inr refl)
text_refused (Some b) e g g' h = absurd h

pub text_cause : (e : IpcError) (f f' g g' : ℕ) → PutCause e g g' → ToFileCause e f f' g g'
text_cause errors.Memory f f' g g' h = tt
text_cause errors.WriteFault f f' g g' h = h
text_cause e f f' g g' h = absurd h

pub text_leaves : (e : IpcError) (old new : Option (List ℕ)) (g g' : ℕ) → PutCause e g g' → LeavesNone e old new
text_leaves errors.Memory old new g g' h = tt
text_leaves errors.WriteFault old new g g' h = tt
text_leaves e old new g g' h = absurd h

-- what is put of a text
pub put_cause : (m : Moved) (r : Result (Unit {0}) IpcError) (text : List ℕ) → PutsText m r text → IfErr r (λ e. PutCause e m.faults m.faults_now)
put_cause m (Ok u) text h = tt
put_cause m (Err errors.WriteFault) text h = h.2
put_cause m (Err errors.Memory) text h = tt
put_cause m (Err e) text h = absurd h

pub put_counts : (m : Moved) (r : Result (Unit {0}) IpcError) (text : List ℕ) → PutsText m r text → NoneFalls m
put_counts m (Ok u) text h = h.1
put_counts m (Err e) text h = part_counts m e text h

pub put_added : (m : Moved) (r : Result (Unit {0}) IpcError) (text : List ℕ) → PutsText m r text → OnOk r (Appends m.old m.new text)
put_added m (Ok u) text h = h.0
put_added m (Err e) text h = tt
