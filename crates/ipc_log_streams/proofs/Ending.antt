-- The stream of a log's table, as it is ended or not, and as a whole.
use Rattle.std.proofs.Common.{◌≡◌, ◌∙◌, inl, inr, ℕ, ◌≤◌, List, [], ◌++◌, length, true, false, Option, Some, None, Result, Ok, Err, IfErr, refl, sym, ap, subst, arith}
use Rattle.std.specs.Prelude.{OnOk}
use Rattle.std.proofs.KnownBytes.{Appends-kept}
use Rattle.std.proofs.lemmas.List.{take_all}
use Rattle.arrow_spec.specs.declared.error.IpcError.{IpcError}
use Rattle.arrow_spec.specs.declared.error.IpcError.TheVariants as errors
use Rattle.arrow_spec.specs.Features.{chosen_floats}
use Rattle.arrow_spec.specs.Files.{ArrowTable}
use Rattle.arrow_spec.specs.Kinds.{Fields}
use Rattle.arrow_spec.specs.Readings.{IsAmong}
use Rattle.arrow_spec.specs.Streams.{end_mark}
use Rattle.arrow_types.specs.Schemas.{Keyed, fields_in}
use Rattle.ipc_bodies.specs.Encodings.{text_of}
use Rattle.ipc_bodies.specs.Puts.{Moved, PutsPart}
use Rattle.ipc_bodies.specs.declared.encoding.Encoding.{Encoding}
use Rattle.ipc_concat.proofs.Keeping.{not_rose}
use Rattle.ipc_io.specs.Outside.{Stands}
use Rattle.ipc_concat.specs.Below.{is_started, Finishes, HasFinished, StreamCore, IsOfPut, IsWriter}
use Rattle.ipc_concat.proofs.Below.{refused_chosen, all_floats, Appends-text, of_put, part_behind, part_of_put, put_before, with_end}
use Rattle.laws_logs.proofs.Lifting.{one_meaning}
use Rattle.ipc_tablelog.specs.Below.{WasSaid}
use Rattle.ipc_tablelog.specs.TableLogs.{IsTableOf}
use Rattle.ipc_log_streams.specs.Streams.{AddsLog, AddsPart, EndsPut, HasPut, IsFront, IsOfOpening, IsOfRead, IsReadable, IsSmallRefusal, IsStreamOf, NotBegun, PutCause, StopsPut, first_of, no_pairs}
use Rattle.ipc_log_streams.proofs.Putting.{cause_before, put_as, stops_as, table_is, whole_is}
use Rattle.ipc_log_streams.proofs.Schemas.{log_floats}

-- ── end ──

all_of : (t : ArrowTable) → first_of t (length t.batches) ≡ t
all_of t = ap (λ xs. record t { batches = xs }) (take_all (length t.batches) t.batches (omega arith))

-- why a put stops
pub put_part : (e : IpcError) (m : Moved) (bs : List ℕ) → PutsPart m e bs → (reads reads' : ℕ) → PutCause e reads reads' m.faults m.faults_now
put_part errors.WriteFault m bs p reads reads' = inr p.2
put_part errors.Memory m bs p reads reads' = tt
put_part e m bs p reads reads' = absurd p

module _ (w w' : StreamCore) (m : Moved) (writer : IsWriter w.schema w.encoding w) where
  pub has_ended : HasFinished (text_of w.encoding) m w w' → (t : ArrowTable) (before : Option (List ℕ)) → IsStreamOf t w → HasPut w.encoding before m.old w t.batches → EndsPut t w.encoding before m.new
  has_ended h t before is p =
      let end = with_end no_pairs w p.bytes t.batches p.written in
      record {
        bytes = p.bytes ++ end_mark;
        is_closed = end.0;
        means = end.1 ∙ ap (λ (u : ArrowTable). Some u) is;
        added = Appends-text w.encoding before m.old m.new p.bytes end_mark p.added h.appended;
      }

  pub not_ended : (e : IpcError) → Finishes (text_of w.encoding) m (Err e) w w' → (t : ArrowTable) (before : Option (List ℕ)) → IsStreamOf t w → HasPut w.encoding before m.old w t.batches → StopsPut e t w.encoding before m.new m.wants m.wants_now
  not_ended e (inl (inl never, leaves)) t before is p = let clash : true ≡ false = sym (ap is_started writer.state) ∙ never.1 in cc
  not_ended e (inl (inr memory, leaves)) t before is p =
      let front : IsFront t (length t.batches) p.bytes = record { not_ended = p.written.not_ended; means = p.written.means ∙ ap (λ (u : ArrowTable). Some u) (is ∙ sym (all_of t)) } in
      StopsPut.behind {count = length t.batches} {bytes = p.bytes} front (Appends-kept before m.old m.new (text_of w.encoding p.bytes) p.added leaves.untouched.bytes) (inl (subst IsOfRead (sym memory.1) tt))
  not_ended e (inr f) t before is p =
      let end = with_end no_pairs w p.bytes t.batches p.written in
      StopsPut.in_put {bytes = p.bytes ++ end_mark} (inl (end.0, end.1 ∙ ap (λ (u : ArrowTable). Some u) is)) (of_put e m (text_of w.encoding end_mark) f.1.put) (part_behind w.encoding before e m p.bytes end_mark p.added f.1.put)

  pub end_cause : (e : IpcError) → Finishes (text_of w.encoding) m (Err e) w w' → (reads reads' : ℕ) → PutCause e reads reads' m.faults m.faults_now
  end_cause e (inl (inl never, leaves)) reads reads' = let clash : true ≡ false = sym (ap is_started writer.state) ∙ never.1 in cc
  end_cause e (inl (inr memory, leaves)) reads reads' = subst (λ f. PutCause f reads reads' m.faults m.faults_now) (sym memory.1) tt
  end_cause e (inr f) reads reads' = put_part e m _ f.1.put reads reads'

-- whatever a call answers
pub ended_if : (r : Result (Unit {0}) IpcError) (w w' : StreamCore) (m : Moved) → IsWriter w.schema w.encoding w → Finishes (text_of w.encoding) m r w w' → OnOk r ((t : ArrowTable) (before : Option (List ℕ)) → IsStreamOf t w → HasPut w.encoding before m.old w t.batches → EndsPut t w.encoding before m.new)
ended_if (Ok u) w w' m writer h = has_ended w w' m writer h
ended_if (Err e) w w' m writer h = tt

pub refused_if : (r : Result (Unit {0}) IpcError) (w w' : StreamCore) (m : Moved) → IsWriter w.schema w.encoding w → Finishes (text_of w.encoding) m r w w'
    → IfErr r (λ e. (t : ArrowTable) (before : Option (List ℕ)) → IsStreamOf t w → HasPut w.encoding before m.old w t.batches → StopsPut e t w.encoding before m.new m.wants m.wants_now) × IfErr r (λ e. (reads reads' : ℕ) → PutCause e reads reads' m.faults m.faults_now)
refused_if (Ok u) w w' m writer h = (tt, tt)
refused_if (Err e) w w' m writer h = (not_ended w w' m writer e h, end_cause w w' m writer e h)

-- ── the whole ──

pub log_added : (content : Option (List ℕ)) (s : List Keyed) (encoding : Encoding) (before now : Option (List ℕ)) (t : ArrowTable) (h : IsTableOf content s t) → EndsPut t encoding before now → AddsLog h.b (text_of encoding) before now
log_added content s encoding before now t h p = record { table = t; is_log = h.means; bytes = p.bytes; is_closed = p.is_closed; means = p.means; added = p.added }

pub part_added : (content : Option (List ℕ)) (s : List Keyed) (encoding : Encoding) (before now : Option (List ℕ)) (wants mid wants' : ℕ) (e : IpcError) (t : ArrowTable) (h : IsTableOf content s t) → wants ≤ mid → StopsPut e t encoding before now mid wants' → AddsPart e h.b (text_of encoding) before now wants wants'
part_added content s encoding before now wants mid wants' e t h later (StopsPut.behind {count = count} {bytes = bytes} front added why) = AddsPart.behind {t = t} {count = count} {bytes = bytes} h.means front added why
part_added content s encoding before now wants mid wants' e t h later (StopsPut.in_put {bytes = bytes} piece put part) = AddsPart.in_put {t = t} {bytes = bytes} h.means piece (put_before e wants mid wants' later put) part

-- a stream that is not begun
pub none_added : (content : Option (List ℕ)) (s : List Keyed) (said : WasSaid s) (encoding : Encoding) (m : Moved) (e : IpcError) (t : ArrowTable) (h : IsTableOf content s t) → NotBegun e s encoding m → AddsPart e h.b (text_of encoding) m.old m.new m.wants m.wants_now
none_added content s said encoding m e t h (NotBegun.before_put (inl memory) kept) = AddsPart.by_device (subst IsOfOpening (sym memory) tt) kept
none_added content s said encoding m e t h (NotBegun.before_put (inr (inl floats)) kept) =
    let same : chosen_floats None t.fields 0 ≡ _ = ap (λ (fs : Fields). chosen_floats None fs 0) h.fields ∙ log_floats s in
    AddsPart.at_schema {t = t} h.means (inl (subst (λ es. IsAmong es e) (sym same) floats)) kept
none_added content s said encoding m e t h (NotBegun.before_put (inr (inr large)) kept) = AddsPart.at_schema {t = t} h.means (inr (large.0, record { schema = s; said = said; fields = h.fields; large = large.1 })) kept
none_added content s said encoding m e t h (NotBegun.in_put bytes unended means put) =
    let front : IsFront t 0 bytes = record { not_ended = unended; means = means ∙ ap (λ (u : ArrowTable). Some (first_of u 0)) (table_is content s t h) } in
    AddsPart.in_put {t = t} {bytes = bytes} h.means (inr (0, front)) (of_put e m (text_of encoding bytes) put) (part_of_put e m (text_of encoding bytes) put)

pub begin_cause : (s : List Keyed) (encoding : Encoding) (m : Moved) (e : IpcError) → NotBegun e s encoding m → (reads reads' : ℕ) → PutCause e reads reads' m.faults m.faults_now
begin_cause s encoding m e (NotBegun.before_put (inl memory) kept) reads reads' = subst (λ f. PutCause f reads reads' m.faults m.faults_now) (sym memory) tt
begin_cause s encoding m e (NotBegun.before_put (inr (inl floats)) kept) reads reads' =
    refused_chosen (λ f. PutCause f reads reads' m.faults m.faults_now) (λ feature. tt) None (fields_in s) 0 e (subst (λ es. IsAmong es e) (sym (all_floats (fields_in s) 0)) floats)
begin_cause s encoding m e (NotBegun.before_put (inr (inr large)) kept) reads reads' = subst (λ f. PutCause f reads reads' m.faults m.faults_now) (sym large.0) tt
begin_cause s encoding m e (NotBegun.in_put bytes unended means put) reads reads' = put_part e m (text_of encoding bytes) put reads reads'

-- ── all steps ──

module _ (content : Option (List ℕ)) (s : List Keyed) (encoding : Encoding) (w w2 : StreamCore) (old now mid new : Option (List ℕ)) (writer : IsWriter s encoding w) (begun : HasPut encoding old now w []) where
  -- the batches are not all put
  pub batches_part : (e : IpcError) (wants from wants' : ℕ) → wants ≤ from → ((t : ArrowTable) (before : Option (List ℕ)) → IsTableOf content s t → HasPut w.encoding before now w [] → StopsPut e t w.encoding before new from wants') → (t : ArrowTable) (h : IsTableOf content s t) → AddsPart e h.b (text_of encoding) old new wants wants'
  batches_part e wants from wants' later stops t h =
      part_added content s encoding old new wants from wants' e t h later (stops_as e t w.encoding encoding old new from wants' writer.encoding (stops t old h (put_as encoding w.encoding old now w [] (sym writer.encoding) begun)))

  module _ (behind : IsWriter s w.encoding w2) (put : (t : ArrowTable) (before : Option (List ℕ)) → IsTableOf content s t → HasPut w.encoding before now w [] → HasPut w.encoding before mid w2 t.batches) where
    all : (t : ArrowTable) → IsTableOf content s t → HasPut w2.encoding old mid w2 t.batches
    all t h = put_as w.encoding w2.encoding old mid w2 t.batches (sym behind.encoding) (put t old h (put_as encoding w.encoding old now w [] (sym writer.encoding) begun))

    -- they are, and the stream is ended
    pub log_whole : (r : Result (Unit {0}) IpcError) → OnOk r ((t : ArrowTable) (before : Option (List ℕ)) → IsStreamOf t w2 → HasPut w2.encoding before mid w2 t.batches → EndsPut t w2.encoding before new) → OnOk r ((t : ArrowTable) (h : IsTableOf content s t) → AddsLog h.b (text_of encoding) old new)
    log_whole (Ok u) ended = λ t h. log_added content s encoding old new t h (subst (λ x. EndsPut t x old new) (behind.encoding ∙ writer.encoding) (ended t old (whole_is content s t h w2 behind.schema) (all t h)))
    log_whole (Err e) ended = tt

    -- or it is not
    pub log_part : (r : Result (Unit {0}) IpcError) (wants from wants' : ℕ) → wants ≤ from → IfErr r (λ e. (t : ArrowTable) (before : Option (List ℕ)) → IsStreamOf t w2 → HasPut w2.encoding before mid w2 t.batches → StopsPut e t w2.encoding before new from wants')
        → IfErr r (λ e. (t : ArrowTable) (h : IsTableOf content s t) → AddsPart e h.b (text_of encoding) old new wants wants')
    log_part (Ok u) wants from wants' later stops = tt
    log_part (Err e) wants from wants' later stops = λ t h.
        part_added content s encoding old new wants from wants' e t h later (stops_as e t w2.encoding encoding old new from wants' (behind.encoding ∙ writer.encoding) (stops t old (whole_is content s t h w2 behind.schema) (all t h)))

-- a cause by the sink's counts alone
pub cause_of : (r : Result (Unit {0}) IpcError) (reads reads' from writes writes' : ℕ) → writes ≤ from → IfErr r (λ e. (n m : ℕ) → PutCause e n m from writes') → IfErr r (λ e. PutCause e reads reads' writes writes')
cause_of (Ok u) reads reads' from writes writes' later c = tt
cause_of (Err e) reads reads' from writes writes' later c = cause_before e reads reads' reads from writes writes' (omega arith) later (c reads reads')

-- ── where no device fails ──

module _ (e : IpcError) (reads reads' writes writes' : ℕ) (cause : PutCause e reads reads' writes writes') (still : Stands reads reads') (stands : Stands writes writes') where
  of_opening : (f : IpcError) → e ≡ f → IsOfOpening f → PutCause f reads reads' writes writes' → IsSmallRefusal e
  of_opening errors.Memory is h c = inl is
  of_opening errors.ReadFault is h c = absurd (not_rose reads reads' still c)
  of_opening errors.WriteFault is h (inl c) = absurd (not_rose reads reads' still c)
  of_opening errors.WriteFault is h (inr c) = absurd (not_rose writes writes' stands c)
  of_opening f is h c = absurd h

  of_read : (f : IpcError) → e ≡ f → IsOfRead f → PutCause f reads reads' writes writes' → IsSmallRefusal e
  of_read errors.Memory is h c = inl is
  of_read errors.ReadFault is h c = absurd (not_rose reads reads' still c)
  of_read f is h c = absurd h

  of_sink : (f : IpcError) (wants wants' : ℕ) → e ≡ f → IsOfPut f wants wants' → PutCause f reads reads' writes writes' → IsSmallRefusal e
  of_sink errors.Memory wants wants' is h c = inl is
  of_sink errors.WriteFault wants wants' is h (inl c) = absurd (not_rose reads reads' still c)
  of_sink errors.WriteFault wants wants' is h (inr c) = absurd (not_rose writes writes' stands c)
  of_sink f wants wants' is h c = absurd h

  pub small : (b : List ℕ) (text : List ℕ → List ℕ) (old new : Option (List ℕ)) (wants wants' : ℕ) → IsReadable b → AddsPart e b text old new wants wants' → IsSmallRefusal e
  small b text old new wants wants' r (AddsPart.by_device h kept) = of_opening e refl h cause
  small b text old new wants wants' r (AddsPart.no_log is never kept) = absurd (never r.0 r.1)
  small b text old new wants wants' r (AddsPart.at_schema {t = t} means (inl floats) kept) =
      let none : chosen_floats None t.fields 0 ≡ [] = ap (λ (u : ArrowTable). chosen_floats None u.fields 0) (one_meaning b t r.0 means r.1) ∙ r.2 in
      absurd (subst (λ es. IsAmong es e) none floats)
  small b text old new wants wants' r (AddsPart.at_schema means (inr large) kept) = inr large.0
  small b text old new wants wants' r (AddsPart.behind means front added (inl h)) = of_read e refl h cause
  small b text old new wants wants' r (AddsPart.behind means front added (inr large)) = inr large.0
  small b text old new wants wants' r (AddsPart.in_put means piece put part) = of_sink e wants wants' refl put cause
