-- The steps of an append to a log.
use Rattle.std.proofs.Common.{◌≡◌, ◌⊎◌, ℕ, ◌≤◌, ◌∷◌, [], arith, true, false, List, Option, None, Some, Result, Ok, Err, IfErr, IfSome, inl, inr, refl, sym, ap, subst, length}
use Rattle.std.specs.Prelude.{IsSomeAnd, OnOk}
use Rattle.std.specs.Io.KnownBytes.{Appends, IsAtEnd, Keeps}
use Rattle.arrow_spec.specs.declared.error.IpcError.{IpcError}
use Rattle.arrow_spec.specs.declared.error.IpcError.TheVariants as errors
use Rattle.arrow_spec.specs.Files.{ArrowTable}
use Rattle.arrow_spec.specs.Words.{Held}
use Rattle.ipc_disk.specs.Places.{IsReplaced}
use Rattle.ipc_io.specs.declared.outside.ShelfError.{ShelfError}
use Rattle.ipc_io.specs.declared.outside.ShelfError.TheVariants as shelf
use Rattle.ipc_io.specs.Outside.{Closes, IsHeld, Lacks, Rose}
use Rattle.ipc_log_disk.specs.Crashes.{Images, Only, SameImages}
use Rattle.ipc_log_streams.specs.Appends.{HasAppended, IsBefore, IsOfRecord, IsOfWrite, NoLog, StopsAppend, batches_of, fields_of}
use Rattle.ipc_log_streams.specs.Below.{MeansFront, MeansLog, with_batches}
use Rattle.ipc_log_streams.proofs.Logs.{front_of_none}
use Rattle.ipc_round_trip.specs.Below.{WholeStream}
use Rattle.ipc_tool.specs.Commands.Append.{AddsCount, CountRefused, InputCause, IsReadStream, KeepsOthers, NotOpened, StreamRefused, count_text}
use Rattle.ipc_tool.specs.Commands.Log.{IsLogged, LogAppended, LogNotAppended, LogRefused, LogSays, LogStops, SurvivesAs, SurvivesOver, log_append_task}
use Rattle.ipc_tool.specs.Input.{HexCause}
use Rattle.ipc_tool.specs.Outside.{Outside}
use Rattle.ipc_tool.specs.Refusal.{number_of, shelf_refusal}
use Rattle.ipc_tool.specs.Tasks.{CauseOf, Does}
use Rattle.ipc_tool.specs.declared.refusal.Refusal.{Refusal}
use Rattle.ipc_tool.specs.declared.refusal.Refusal.TheVariants.{Ipc, Words, NotHex, InputTooLong, NoName}
use Rattle.ipc_tool.proofs.AppendSteps.{adds_nothing, replaced_others, same_others}

-- ── answers that are handed on ──

pub err_of : {T : Type 0} (r : Result T IpcError) (P : IpcError → Type 0) (e : IpcError) → r ≡ Err e → IfErr r P → P e
err_of r P e is h = subst (λ x. IfErr x P) is h

pub ok_of : {T : Type 0} (r : Result T IpcError) (P : Type 0) (x : T) → r ≡ Ok x → OnOk r P → P
ok_of r P x is h = subst (λ y. OnOk y P) is h

-- ── what a refusal says ──

record_says : (e : IpcError) (content : Option (List ℕ)) (s : WholeStream) (faults faults' : ℕ) → IsOfRecord e → LogSays e content s faults faults'
record_says errors.Memory content s faults faults' h = tt
record_says errors.TooLarge content s faults faults' h = tt
record_says (errors.Unsupported feature) content s faults faults' h = tt
record_says (errors.TooMany counted) content s faults faults' h = tt
record_says e content s faults faults' h = absurd h

write_says : (e : IpcError) (content : Option (List ℕ)) (s : WholeStream) (faults faults' : ℕ) → IsOfWrite e faults faults' → LogSays e content s faults faults'
write_says errors.WriteFault content s faults faults' h = h
write_says errors.Memory content s faults faults' h = tt
write_says e content s faults faults' h = absurd h

pub log_says : (e : IpcError) (content behind : Option (List ℕ)) (s : WholeStream) (faults faults' : ℕ) → StopsAppend e s content behind faults faults' → LogSays e content s faults faults'
log_says e content behind s faults faults' (StopsAppend.at_log (NoLog.no_memory is) kept) = subst (λ x. LogSays x content s faults faults') (sym is) tt
log_says e content behind s faults faults' (StopsAppend.at_log (NoLog.not_read is rose) kept) = subst (λ x. LogSays x content s faults faults') (sym is) rose
log_says e content behind s faults faults' (StopsAppend.at_log (NoLog.no_log is some none) kept) = subst (λ x. LogSays x content s faults faults') (sym is) tt
log_says e content behind s faults faults' (StopsAppend.at_log (NoLog.not_begun empty cause small) kept) = record_says e content s faults faults' small
log_says e content behind s faults faults' (StopsAppend.in_log write) = write_says e content s faults faults' write
log_says e content behind s faults faults' (StopsAppend.at_fields is others kept) = subst (λ x. LogSays x content s faults faults') (sym is) others
log_says e content behind s faults faults' (StopsAppend.at_batch count fields at cause small means) = record_says e content s faults faults' small
log_says e content behind s faults faults' (StopsAppend.in_batch count less write means) = write_says e content s faults faults' write

closed_rose : (failures before mid after : ℕ) → before ≤ mid → Closes failures mid after → Rose 0 failures → Rose before after
closed_rose failures before mid after le c r = let rose : Rose mid after = c.rose (omega (arith, r)) in omega (arith, le, rose)

-- failures of a log that was closed are told by the shelf's count
says_closed : (e : IpcError) (content : Option (List ℕ)) (s : WholeStream) (failures before mid after : ℕ) → before ≤ mid → Closes failures mid after → LogSays e content s 0 failures → LogSays e content s before after
says_closed errors.ReadFault content s failures before mid after le c r = closed_rose failures before mid after le c r
says_closed errors.WriteFault content s failures before mid after le c r = closed_rose failures before mid after le c r
says_closed errors.SchemaMismatch content s failures before mid after le c r = r
says_closed errors.NotRepresentable content s failures before mid after le c r = r
says_closed (errors.Projection index) content s failures before mid after le c r = r
says_closed (errors.DictionaryReplaced id) content s failures before mid after le c r = r
says_closed errors.State content s failures before mid after le c r = r
says_closed e content s failures before mid after le c r = tt

-- ── what stands under the name ──

module _ (t : List ℕ) (old mid new : Option Held) (s : WholeStream) (content behind : Option (List ℕ)) (was : IsHeld old t content) (kept : mid ≡ old) (now : IsReplaced mid new t behind) where
  -- a log that was closed behind an append that was refused
  pub log_left : (e : IpcError) (first failures before opened after : ℕ) → first ≡ 0 → StopsAppend e s content behind first failures → before ≤ opened → Closes failures opened after → LogNotAppended t e old new s before after
  log_left e first failures before opened after z refused le closed =
      let stops : StopsAppend e s content behind 0 failures = subst (λ n. StopsAppend e s content behind n failures) z refused in
      record {
        content = content;
        behind = behind;
        was = was;
        failures = failures;
        refused = stops;
        says = says_closed e content s failures before opened after le closed (log_says e content behind s 0 failures stops);
        is = subst (λ h. IsReplaced h new t behind) kept now;
      }

  -- or behind one that was not
  pub log_grown : (images : Images) → IfSome content (λ b. HasAppended b (fields_of s) (batches_of s) behind images) → LogAppended t old new s
  log_grown images h = record {
    content = content;
    behind = behind;
    was = was;
    is = subst (λ h. IsReplaced h new t behind) kept now;
    appended = by content h;
  }
    where
      by : (o : Option (List ℕ)) → IfSome o (λ b. HasAppended b (fields_of s) (batches_of s) behind images) → IfSome o (λ b. (u : ArrowTable) × IsBefore b (fields_of s) u × IsSomeAnd behind (λ c. MeansLog c (with_batches u (batches_of s))))
      by None k = tt
      by (Some b) k = (k.table, k.before, subst (λ o. IsSomeAnd o (λ c. MeansLog c (with_batches k.table (batches_of s)))) (sym k.told) k.means)

  -- what a crash leaves at whatever moment
  pub log_survives : (since : ℕ → Images) (first : ℕ) → first ≡ 0 → (opened left left' : Images) → Only content opened → ((b c : List ℕ) (u : ArrowTable) → content ≡ Some b → MeansLog b u → since first c → opened c ⊎ MeansFront u (batches_of s) c) → SameImages (since 0) left' → SurvivesOver s t old left left'
  log_survives since first z opened left left' only told_moments same = inr (by old was)
    where
      moments : (b c : List ℕ) (u : ArrowTable) → content ≡ Some b → MeansLog b u → since 0 c → opened c ⊎ MeansFront u (batches_of s) c
      moments b c u told m here = told_moments b c u told m (subst (λ n. since n c) (sym z) here)

      at : (b : List ℕ) → content ≡ Some b → (u : ArrowTable) (c : List ℕ) → MeansLog b u → left' c → MeansFront u (batches_of s) c
      at b told u c m here = front (moments b c u told m ((same c).0 here))
        where
          front : opened c ⊎ MeansFront u (batches_of s) c → MeansFront u (batches_of s) c
          front (inl image) = front_of_none b c u (batches_of s) m (only b c told image)
          front (inr f) = f

      by : (o : Option Held) → IsHeld o t content → IfSome o (λ h. IsSomeAnd (h t) (λ b. (u : ArrowTable) (c : List ℕ) → MeansLog b u → left' c → MeansFront u (batches_of s) c))
      by None k = tt
      by (Some held) k = inside content refl k
        where
          inside : (o : Option (List ℕ)) → content ≡ o → IsHeld (Some held) t o → IsSomeAnd (held t) (λ b. (u : ArrowTable) (c : List ℕ) → MeansLog b u → left' c → MeansFront u (batches_of s) c)
          inside None told k = let never : false ≡ true = k.0 in cc
          inside (Some b) told k = subst (λ o. IsSomeAnd o (λ b. (u : ArrowTable) (c : List ℕ) → MeansLog b u → left' c → MeansFront u (batches_of s) c)) (sym k.1) (at b told)

-- a stream that was read of the input
pub survives_read : (s : WholeStream) (t : List ℕ) (old : Outside) (left left' : Images) → IsReadStream old.rest s → SurvivesOver s t old.held left left' → SurvivesAs true t old left left'
survives_read s t old left left' read (inl same) = inl same
survives_read s t old left left' read (inr h) = inr (by old.held h)
  where
    by : (o : Option Held) → IfSome o (λ h. IsSomeAnd (h t) (λ b. (u : ArrowTable) (c : List ℕ) → MeansLog b u → left' c → MeansFront u (batches_of s) c)) → IfSome o (λ h. IsSomeAnd (h t) (λ b. (u : ArrowTable) (c : List ℕ) → MeansLog b u → left' c → (z : WholeStream) × IsReadStream old.rest z × MeansFront u (batches_of z) c))
    by None k = tt
    by (Some held) k = inside (held t) k
      where
        inside : (o : Option (List ℕ)) → IsSomeAnd o (λ b. (u : ArrowTable) (c : List ℕ) → MeansLog b u → left' c → MeansFront u (batches_of s) c) → IsSomeAnd o (λ b. (u : ArrowTable) (c : List ℕ) → MeansLog b u → left' c → (z : WholeStream) × IsReadStream old.rest z × MeansFront u (batches_of z) c)
        inside None k = k
        inside (Some b) k = λ u c m here. (s, read, k u c m here)

-- ── why ──

module _ (target : List ℕ) (old new : Outside) where
  abbrev Cause : Refusal → Type 0
  Cause e = CauseOf (log_append_task target) e old new

  of_hex : (e : Refusal) → HexCause e old.rest new.rest old.input_faults new.input_faults → Cause e
  of_hex NotHex h = (refl, h)
  of_hex InputTooLong h = (refl, h)
  of_hex Words h = absurd h
  of_hex NoName h = absurd h
  of_hex (Ipc errors.ReadFault) h = inl h
  of_hex (Ipc errors.Memory) h = tt
  of_hex (Ipc e) h = absurd h

  of_stream : (x : IpcError) → StreamRefused x old.rest → Cause (Ipc x)
  of_stream errors.ReadFault h = absurd (omega (arith, h.cause))
  of_stream errors.Memory h = tt
  of_stream (errors.OutOfSpec x) h = tt
  of_stream (errors.Unsupported x) h = tt
  of_stream errors.TooDeep h = tt
  of_stream (errors.TooMany x) h = tt
  of_stream x h = absurd h.cause

  of_opening : (e : Refusal) → NotOpened target e old.held new.held old.shelf_faults new.shelf_faults → Cause e
  of_opening e h = by h.error h.is h.unknown h.failed
    where
      by : (x : ShelfError) → e ≡ shelf_refusal x → (x ≡ shelf.Unknown → Lacks old.held target) → (x ≡ shelf.Failed → Rose old.shelf_faults new.shelf_faults) → Cause e
      by shelf.Failed is unknown failed = subst (λ y. Cause y) (sym is) (inr (failed refl))
      by shelf.Memory is unknown failed = subst (λ y. Cause y) (sym is) tt
      by shelf.Unknown is unknown failed = subst (λ y. Cause y) (sym is) (0, target, omega arith, refl, unknown refl)

  of_log : (x : IpcError) (s : WholeStream) → IsReadStream old.rest s → LogNotAppended target x old.held new.held s old.shelf_faults new.shelf_faults → Cause (Ipc x)
  of_log errors.ReadFault s read p = inr p.says
  of_log errors.WriteFault s read p = inl p.says
  of_log errors.SchemaMismatch s read p = record { stream = s; read = read; content = p.content; was = p.was; others = p.says }
  of_log errors.NotRepresentable s read p = absurd p.says
  of_log (errors.Projection x) s read p = absurd p.says
  of_log (errors.DictionaryReplaced x) s read p = absurd p.says
  of_log errors.State s read p = absurd p.says
  of_log x s read p = tt

  of_count : (e : Refusal) (n : ℕ) → CountRefused e n old.written new.written old.output_faults new.output_faults → Cause e
  of_count e n (inl h) = subst (λ y. Cause y) (sym h.0) tt
  of_count e n (inr h) = subst (λ y. Cause y) (sym h.0) (inr h.1)

  cause : (e : Refusal) → LogStops e target old new → Cause e
  cause e (inl h) = by h.cause
    where
      by : InputCause e old.rest new.rest old.input_faults new.input_faults → Cause e
      by (inl hex) = of_hex e hex
      by (inr k) = subst (λ y. Cause y) (sym k.1) (of_stream k.0 k.2)
  cause e (inr (inl h)) = by h.place
    where
      by : LogRefused target e old.held new.held h.stream old.shelf_faults new.shelf_faults → Cause e
      by (inl k) = of_opening e k
      by (inr k) = subst (λ y. Cause y) (sym k.1) (of_log k.0 h.stream h.read k.2)
  cause e (inr (inr h)) = of_count e _ h.count

  -- ── a refusal ──

  kept_others : (e : Refusal) → LogStops e target old new → KeepsOthers target old.held new.held
  kept_others e (inl h) = same_others target old.held new.held h.held
  kept_others e (inr (inl h)) = by h.place
    where
      by : LogRefused target e old.held new.held h.stream old.shelf_faults new.shelf_faults → KeepsOthers target old.held new.held
      by (inl k) = same_others target old.held new.held k.kept
      by (inr k) = replaced_others target old.held new.held k.2.behind k.2.is
  kept_others e (inr (inr h)) = replaced_others target old.held new.held h.place.behind h.place.is

  adds : (e : Refusal) → LogStops e target old new → AddsCount e old new
  adds e (inl h) = adds_nothing target old new e h.written
  adds e (inr (inl h)) = adds_nothing target old new e h.written
  adds e (inr (inr h)) = by h.count
    where
      by : CountRefused e (length h.stream.batches.items) old.written new.written old.output_faults new.output_faults → AddsCount e old new
      by (inl k) = adds_nothing target old new e k.1
      by (inr k) = subst (λ x. AddsCount x old new) (sym k.0) (length h.stream.batches.items, k.2)

  -- nothing was added but where the output failed
  kept : (e : Refusal) → LogStops e target old new → (number_of e ≡ 12 → ⊥) → Keeps old.written new.written
  kept e (inl h) other = h.written
  kept e (inr (inl h)) other = h.written
  kept e (inr (inr h)) other = by h.count
    where
      by : CountRefused e (length h.stream.batches.items) old.written new.written old.output_faults new.output_faults → Keeps old.written new.written
      by (inl k) = k.1
      by (inr k) = absurd (other (ap number_of k.0))

  status : (e : Refusal) → Cause e → (log_append_task target).statuses (number_of e)
  status (Ipc (errors.Projection x)) c = absurd c
  status (Ipc errors.NotRepresentable) c = absurd c
  status (Ipc (errors.DictionaryReplaced x)) c = absurd c
  status (Ipc errors.State) c = absurd c
  status (Ipc (errors.OutOfSpec x)) c = inl (omega arith)
  status (Ipc (errors.Unsupported x)) c = inl (omega arith)
  status (Ipc errors.TooDeep) c = inl (omega arith)
  status (Ipc (errors.TooMany x)) c = inl (omega arith)
  status (Ipc errors.TooLarge) c = inr (inl (omega arith, omega arith))
  status (Ipc errors.SchemaMismatch) c = inr (inl (omega arith, omega arith))
  status (Ipc e) c = inr (inr (omega arith))
  status e c = inr (inr (omega arith))

  reads : true ≡ false → ⊥
  reads r = cc

  opens : target ∷ [] ≡ [] → ⊥
  opens o = cc

  pub log_stops : (e : Refusal) → LogStops e target old new → Does (log_append_task target) (Err e) old new
  log_stops e h = record {
    done = tt;
    at_end = tt;
    cause = cause e h;
    left = (adds e h, h);
    untouched = λ n. kept e h (λ is. absurd (omega (arith, n, is)));
    not_read = λ n r. kept e h (λ is. absurd (omega (arith, n, is)));
    complete = λ m n. absurd m;
    statuses = status e (cause e h);
    missing = λ m. absurd m;
    keeps = kept_others e h;
    unread = λ r. absurd (reads r);
    unopened = λ o. absurd (opens o);
  }

  pub at_log : (e : Refusal) (s : WholeStream) → IsReadStream old.rest s → LogRefused target e old.held new.held s old.shelf_faults new.shelf_faults → Keeps old.written new.written → Does (log_append_task target) (Err e) old new
  at_log e s read refused same = log_stops e (inr (inl (record { stream = s; read = read; place = refused; written = same })))

  -- ── all was appended ──

  all : IsLogged target old new → IsAtEnd new.rest → Does (log_append_task target) (Ok tt) old new
  all h end = record {
    done = h;
    at_end = λ r. end;
    cause = tt;
    left = tt;
    untouched = tt;
    not_read = tt;
    complete = tt;
    statuses = tt;
    missing = λ m. absurd m;
    keeps = replaced_others target old.held new.held h.place.behind h.place.is;
    unread = λ r. absurd (reads r);
    unopened = λ o. absurd (opens o);
  }

  pub log_count_put : (r : Result (Unit {0}) Refusal) (s : WholeStream) (n : ℕ) → IsReadStream old.rest s → IsAtEnd new.rest → LogAppended target old.held new.held s → n ≡ length s.batches.items → OnOk r (Appends old.written new.written (count_text n)) → IfErr r (λ e. CountRefused e n old.written new.written old.output_faults new.output_faults)
      → Does (log_append_task target) r old new
  log_count_put (Ok tt) s n read end place is text refused = all (record { stream = s; read = read; place = place; text = subst (λ k. Appends old.written new.written (count_text k)) is text }) end
  log_count_put (Err e) s n read end place is text refused = log_stops e (inr (inr (record { stream = s; read = read; place = place; count = subst (λ k. CountRefused e k old.written new.written old.output_faults new.output_faults) is refused })))
