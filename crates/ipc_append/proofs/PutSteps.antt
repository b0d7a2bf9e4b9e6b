-- Messages that were encoded are put, one batch after another, and the file is ended behind them.
use Rattle.std.proofs.Common.{◌≡◌, ◌∙◌, ◌⊎◌, inl, inr, ℕ, suc, ◌+◌, ◌<◌, ◌≤◌, List, [], ◌∷◌, ◌++◌, length, take, drop, get_or, true, false, Option, Some, None, Result, Ok, Err, refl, sym, ap, subst, arith, add-one, append-nil, true≢false}
use Rattle.std.specs.List.{flat_map}
use Rattle.std.specs.Result.{IsErrAnd}
use Rattle.std.specs.Rc.{rc_value}
use Rattle.std.specs.Io.KnownBytes.{Appends, Keeps}
use Rattle.std.proofs.KnownBytes.{Appends-nil, Appends-trans}
use Rattle.std.proofs.Math.Seq.{split_at, take-suc}
use Rattle.std.proofs.lemmas.Grind.{flat_map-append}
use Rattle.std.proofs.lemmas.List.{take_all}
use Rattle.arrow_spec.specs.declared.error.IpcError.{IpcError}
use Rattle.arrow_spec.specs.declared.error.IpcError.TheVariants as errors
use Rattle.arrow_spec.specs.Flat.{little}
use Rattle.arrow_spec.specs.Layout.{Node}
use Rattle.arrow_spec.specs.Readings.{IsAmong, Reading, refusals}
use Rattle.arrow_spec.proofs.ReadPairs.{through}
use Rattle.arrow_types.specs.Schemas.{fields_in}
use Rattle.laws_sent.specs.Below.{Moved, NoneFalls, PutsPart, moved}
use Rattle.ipc_append.proofs.Handed.{handed}
use Rattle.ipc_fields.specs.IpcFields.{ids_of, metadata_of}
use Rattle.ipc_fields.specs.declared.ipc_field.IpcSchema.{IpcSchema}
use Rattle.ipc_file_writer.specs.Begun.{MayEnd}
use Rattle.ipc_file_writer.specs.Calls.{FinishCause, Finishes, Stays, ending_of, file_ids, file_schema}
use Rattle.ipc_file_writer.specs.Ends.{file_ending}
use Rattle.ipc_file_writer.proofs.Causes as limited
use Rattle.ipc_file_writer.specs.Given.{GivenCause, HasGiven, RefusesGiven, WritesGiven}
use Rattle.ipc_file_writer.specs.declared.file.FileCore.{FileCore}
use Rattle.ipc_file_writer.specs.declared.pairs.FilePairs.{FilePairs}
use Rattle.ipc_file_writer.specs.Below.{serialized, Untouched, is_started}
use Rattle.ipc_streams.specs.Below.{EncodedData}
use Rattle.ipc_append.specs.Puts.{AllGiven, AreGiven, EndsFile, GivesAll, IsGiven, PutCause, StopsIn, chunk_bytes, none_given, one_given}
use Rattle.ipc_append.specs.declared.encode.EncodedChunk.{EncodedChunk}

-- ── one behind another ──

given_more : (c d e : FileCore) (xs : List EncodedChunk) (x : EncodedChunk) → AreGiven c d xs → IsGiven d e x → AreGiven c e (xs ++ x ∷ [])
given_more c d e [] x none_given h = one_given h none_given
given_more c d e (y ∷ xs) x (one_given {d = w} first others) h = one_given first (given_more w d e xs x others h)

pub started_behind : (c d : FileCore) (xs : List EncodedChunk) → AreGiven c d xs → is_started c.state ≡ true → is_started d.state ≡ true
started_behind c d [] none_given h = h
started_behind c d (x ∷ xs) (one_given {d = w} first others) h = started_behind w d xs others (ap is_started first.given.puts.held.state ∙ first.given.started)

pub same_stays : (c : FileCore) → Stays c c
same_stays c = record { options = refl; schema = refl; ipc_schema = refl; pairs = refl; tracker = refl }

pub stays_more : (c d e : FileCore) → Stays c d → Stays d e → Stays c e
stays_more c d e h k = record { options = k.options ∙ h.options; schema = k.schema ∙ h.schema; ipc_schema = k.ipc_schema ∙ h.ipc_schema; pairs = k.pairs ∙ h.pairs; tracker = k.tracker ∙ h.tracker }

pub stays_behind : (c d : FileCore) (xs : List EncodedChunk) → AreGiven c d xs → Stays c d
stays_behind c d [] none_given = same_stays c
stays_behind c d (x ∷ xs) (one_given {d = w} first others) = stays_more c w d first.given.puts.held.stays (stays_behind w d xs others)

bytes_more : (xs : List EncodedChunk) (x : EncodedChunk) → flat_map chunk_bytes (xs ++ x ∷ []) ≡ flat_map chunk_bytes xs ++ chunk_bytes x
bytes_more xs x = flat_map-append chunk_bytes xs (x ∷ []) ∙ ap (λ ys. flat_map chunk_bytes xs ++ ys) (append-nil (chunk_bytes x))

-- ── why a put stops ──

keeps_appends : (a b : Option (List ℕ)) → Keeps a b → Appends a b []
keeps_appends None b p = tt
keeps_appends (Some x) None p = absurd p
keeps_appends (Some x) (Some y) p = p ∙ sym (append-nil x)

pub cause_later : (e : IpcError) (f g h : ℕ) → f ≤ g → PutCause e g h → PutCause e f h
cause_later errors.TooLarge f g h k c = tt
cause_later errors.Memory f g h k c = tt
cause_later errors.WriteFault f g h k c = omega (arith, k, c)
cause_later e f g h k c = absurd c

part_stops : (m : Moved) (e : IpcError) (bytes : List ℕ) → PutsPart m e bytes → StopsIn m e
part_stops m errors.WriteFault bytes h = record { added = take h.0.0 bytes; appended = h.0.1; counts = h.1; cause = h.2 }
part_stops m errors.Memory bytes h = record { added = take h.0.0 bytes; appended = h.0.1; counts = h.1; cause = tt }
part_stops m e bytes h = absurd h

-- nothing was put
left_stops : (m : Moved) (e : IpcError) → Untouched m → PutCause e m.faults m.faults_now → StopsIn m e
left_stops m e h k = record { added = []; appended = keeps_appends m.old m.new h.bytes; counts = h.counts; cause = k }

large_or_wanted : (e : IpcError) (f g : ℕ) → (e ≡ errors.Memory) ⊎ (e ≡ errors.TooLarge) → PutCause e f g
large_or_wanted e f g (inl is) = subst (λ x. PutCause x f g) (sym is) tt
large_or_wanted e f g (inr is) = subst (λ x. PutCause x f g) (sym is) tt

given_cause : (e : IpcError) (c : FileCore) (ds : List EncodedData) (b : EncodedData) (f g : ℕ) → is_started c.state ≡ true → GivenCause e c ds b → PutCause e f g
given_cause e c ds b f g s (inl h) = absurd (true≢false (sym s ∙ h.1))
given_cause e c ds b f g s (inr h) = by h.1
  where
    by : (e ≡ errors.Memory) ⊎ RefusesGiven e c ds b → PutCause e f g
    by (inl is) = large_or_wanted e f g (inl is)
    by (inr r) = large_or_wanted e f g (inr r.0)

given_stops : (m : Moved) (e : IpcError) (old new : FileCore) (ds : List EncodedData) (b : EncodedData) → is_started old.state ≡ true → WritesGiven m (Err e) old new ds b → StopsIn m e
given_stops m e old new ds b s (inl h) = left_stops m e h.1.untouched (given_cause e old ds b m.faults m.faults_now s h.0)
given_stops m e old new ds b s (inr h) = part_stops m e _ h.failed.put

-- ── the messages of several batches ──

-- so many were put
pub record AreFront (m : Moved) (old new : FileCore) (i : ℕ) (cs : List EncodedChunk) : Type 0 where
  pub given : AreGiven old new (take i cs)
  pub appended : Appends m.old m.new (flat_map chunk_bytes (take i cs))
  pub counts : NoneFalls m

pub none_put : (a : Option (List ℕ)) (f u : ℕ) (c : FileCore) (cs : List EncodedChunk) → AreFront (moved a a f f u u) c c 0 cs
none_put a f u c cs = record { given = none_given; appended = Appends-nil a; counts = record { faults = omega arith; wants = omega arith } }

module _ (a b c : Option (List ℕ)) (f g h u v w : ℕ) where
  pub falls : NoneFalls (moved a b f g u v) → NoneFalls (moved b c g h v w) → NoneFalls (moved a c f h u w)
  falls n k = record { faults = omega (arith, n.faults, k.faults); wants = omega (arith, n.wants, k.wants) }

  pub stops_behind : (e : IpcError) (bs : List ℕ) → Appends a b bs → NoneFalls (moved a b f g u v) → StopsIn (moved b c g h v w) e → StopsIn (moved a c f h u w) e
  stops_behind e bs p n s = record { added = bs ++ s.added; appended = Appends-trans a b c bs s.added p s.appended; counts = falls n s.counts; cause = cause_later e f g h n.faults s.cause }

  pub one_put : (old mid new : FileCore) (i : ℕ) (cs : List EncodedChunk) (x : EncodedChunk) (ds : List EncodedData) → i < length cs → x ≡ get_or cs i x → ds ≡ x.dictionaries.items → AreFront (moved a b f g u v) old mid i cs
      → WritesGiven (moved b c g h v w) (Ok tt) mid new ds x.batch → AreFront (moved a c f h u w) old new (i + 1) cs
  one_put old mid new i cs x ds less is same t k =
      let next : take (i + 1) cs ≡ take i cs ++ x ∷ [] = rw add-one (take-suc cs i x less ∙ ap (λ y. take i cs ++ y ∷ []) (sym is)) in
      let has : HasGiven (moved b c g h v w) mid new x.dictionaries.items x.batch = subst (λ d. HasGiven (moved b c g h v w) mid new d x.batch) same k in
      let grown : flat_map chunk_bytes (take i cs) ++ chunk_bytes x ≡ flat_map chunk_bytes (take (i + 1) cs) = sym (ap (flat_map chunk_bytes) next ∙ bytes_more (take i cs) x) in
      record {
        given = subst (AreGiven old new) (sym next) (given_more old mid new (take i cs) x t.given (record { moved = moved b c g h v w; given = has }));
        appended = subst (Appends a c) grown (Appends-trans a b c (flat_map chunk_bytes (take i cs)) (chunk_bytes x) t.appended has.puts.appended);
        counts = falls t.counts has.puts.counts;
      }

  pub one_stops : (e : IpcError) (old mid new : FileCore) (i : ℕ) (cs : List EncodedChunk) (x : EncodedChunk) (ds : List EncodedData) → i < length cs → x ≡ get_or cs i x → ds ≡ x.dictionaries.items → is_started old.state ≡ true → AreFront (moved a b f g u v) old mid i cs
      → WritesGiven (moved b c g h v w) (Err e) mid new ds x.batch → GivesAll (moved a c f h u w) (Err e) old new cs
  one_stops e old mid new i cs x ds less is same s t k =
      let refused : WritesGiven (moved b c g h v w) (Err e) mid new x.dictionaries.items x.batch = subst (λ d. WritesGiven (moved b c g h v w) (Err e) mid new d x.batch) same k in (
        record {
          before = take i cs;
          chunk = x;
          behind = drop (suc i) cs;
          are = split_at cs i x less ∙ ap (λ y. take i cs ++ y ∷ drop (suc i) cs) (sym is);
          held = mid;
          given = t.given;
          moved = moved b c g h v w;
          refused = refused;
        },
        stops_behind e (flat_map chunk_bytes (take i cs)) t.appended t.counts (given_stops (moved b c g h v w) e mid new x.dictionaries.items x.batch (started_behind old mid (take i cs) t.given s) refused),
      )

pub all_put : (m : Moved) (old new : FileCore) (i : ℕ) (cs : List EncodedChunk) → length cs ≤ i → AreFront m old new i cs → AllGiven m old new cs
all_put m old new i cs h t = record {
  given = subst (AreGiven old new) (take_all i cs h) t.given;
  appended = subst (λ xs. Appends m.old m.new (flat_map chunk_bytes xs)) (take_all i cs h) t.appended;
  counts = t.counts;
}

-- ── the end ──

abbrev schema_of : FileCore → Reading Node
schema_of c = serialized little (fields_in (file_schema c)) (file_ids c) (metadata_of c.pairs.schema)

-- the end of a file that could be ended before is refused for its size alone
pub end_too_large : (c d : FileCore) (bytes : List ℕ) (e : IpcError) → Stays c d → ending_of c ≡ Ok bytes → IsAmong (refusals (ending_of d)) e → e ≡ errors.TooLarge
unfolding file_ending
end_too_large c d bytes e st h k = through (schema_of c) _ bytes h λ s s_is _.
    let same : schema_of d ≡ Ok s = ap (λ x. serialized little (fields_in (rc_value x)) (file_ids d) (metadata_of d.pairs.schema)) st.schema ∙ ap (λ (x : IpcSchema). serialized little (fields_in (file_schema c)) (ids_of x.fields.items) (metadata_of d.pairs.schema)) st.ipc_schema
    ∙ ap (λ (x : FilePairs). serialized little (fields_in (file_schema c)) (file_ids c) (metadata_of x.schema)) st.pairs ∙ s_is in
    limited.end_too_large d.options (fields_in (file_schema d)) (file_ids d) d.pairs d.blocks s e same k

finish_cause : (e : IpcError) (c : FileCore) (f g : ℕ) → is_started c.state ≡ true → (IsAmong (refusals (ending_of c)) e → e ≡ errors.TooLarge) → FinishCause e c → PutCause e f g
finish_cause e c f g s k (inl h) = absurd (true≢false (sym s ∙ h.1))
finish_cause e c f g s k (inr h) = by h.1
  where
    by : (e ≡ errors.Memory) ⊎ IsAmong (refusals (ending_of c)) e → PutCause e f g
    by (inl is) = large_or_wanted e f g (inl is)
    by (inr r) = large_or_wanted e f g (inr (k r))

finish_stops : (m : Moved) (e : IpcError) (old new : FileCore) → is_started old.state ≡ true → (IsAmong (refusals (ending_of old)) e → e ≡ errors.TooLarge) → Finishes m (Err e) old new → StopsIn m e
finish_stops m e old new s k (inl h) = left_stops m e h.1.untouched (finish_cause e old m.faults m.faults_now s k h.0)
finish_stops m e old new s k (inr h) = part_stops m e h.bytes h.failed.put

module _ (a b c : Option (List ℕ)) (f g h u v w : ℕ) (old mid : FileCore) (cs : List EncodedChunk) (t : AllGiven (moved a b f g u v) old mid cs) where
  pub file_ended : (new : FileCore) → Finishes (moved b c g h v w) (Ok tt) mid new → EndsFile (moved a c f h u w) (Ok tt) old new cs
  file_ended new k = record {
    last = mid;
    given = t.given;
    ending = k.bytes;
    ends = k.text;
    means = k.means;
    appended = Appends-trans a b c (flat_map chunk_bytes cs) k.bytes t.appended k.appended;
    counts = falls a b c f g h u v w t.counts k.counts;
  }

  pub not_ended : (e : IpcError) (new : FileCore) → is_started old.state ≡ true → MayEnd (Ok tt) old → Finishes (moved b c g h v w) (Err e) mid new → EndsFile (moved a c f h u w) (Err e) old new cs
  not_ended e new s may k = (
    inr (record { held = mid; given = t.given; moved = moved b c g h v w; refused = k }),
    stops_behind a b c f g h u v w e (flat_map chunk_bytes cs) t.appended t.counts
        (finish_stops (moved b c g h v w) e mid new (started_behind old mid cs t.given s) (λ r. end_too_large old mid may.0 e (stays_behind old mid cs t.given) may.1 r) k),
  )

  pub ends_or_not : (new : FileCore) (r : Result (Unit {0}) IpcError) → is_started old.state ≡ true → MayEnd (Ok tt) old → Finishes (moved b c g h v w) r mid new → EndsFile (moved a c f h u w) r old new cs
  ends_or_not new (Ok tt) s may k = file_ended new k
  ends_or_not new (Err e) s may k = not_ended e new s may k

-- ── errors that are handed on ──

pub handed_gives : (m : Moved) (r : Result (Unit {0}) IpcError) (e : IpcError) (old new : FileCore) (cs : List EncodedChunk) → IsErrAnd r (λ f. f ≡ e) → GivesAll m (Err e) old new cs → GivesAll m r old new cs
handed_gives m r e old new cs h k = handed (λ x. GivesAll m x old new cs) r e h k

pub handed_ends : (m : Moved) (r : Result (Unit {0}) IpcError) (e : IpcError) (old new : FileCore) (cs : List EncodedChunk) → IsErrAnd r (λ f. f ≡ e) → EndsFile m (Err e) old new cs → EndsFile m r old new cs
handed_ends m r e old new cs h k = handed (λ x. EndsFile m x old new cs) r e h k
