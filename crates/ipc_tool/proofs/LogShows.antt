-- The table of a log as a stream: what is added to the output, and the answers of the command.
use Rattle.std.proofs.Common.{◌≡◌, ◌⊎◌, ◌∙◌, inl, inr, ℕ, zero, suc, ◌≤◌, arith, Bool, IsTrue, ◌↔◌, true, false, List, [], ◌∷◌, Option, Some, None, Result, Ok, Err, IfErr, IfSome, refl, sym, ap, subst}
use Rattle.std.specs.Prelude.{IsSomeAnd, OnOk}
use Rattle.std.specs.Io.KnownBytes.{Appends, Keeps}
use Rattle.std.specs.Str.{bytes_eq}
use Rattle.std.proofs.lemmas.Slice.Eq.{bytes_eq-Decides}
use Rattle.std.proofs.KnownBytes.{Appends-trans}
use Rattle.arrow_spec.specs.declared.error.IpcError.{IpcError}
use Rattle.arrow_spec.specs.declared.error.IpcError.TheVariants as errors
use Rattle.arrow_spec.specs.Files.{ArrowTable}
use Rattle.arrow_spec.specs.Words.{Held}
use Rattle.ipc_bodies.specs.declared.encoding.Encoding.TheVariants.{Bytes, HexText}
use Rattle.ipc_bodies.specs.Encodings.{text_of}
use Rattle.ipc_log_streams.specs.Below.{IsOfPut, MeansLog}
use Rattle.ipc_disk.specs.Places.{IsReplaced}
use Rattle.ipc_io.specs.declared.outside.PutError.{PutError}
use Rattle.ipc_io.specs.declared.outside.PutError.TheVariants as put
use Rattle.ipc_io.specs.declared.outside.ShelfError.{ShelfError}
use Rattle.ipc_io.specs.declared.outside.ShelfError.TheVariants as shelf
use Rattle.ipc_io.specs.Faults.{put_error}
use Rattle.ipc_io.specs.Outside.{Closes, IsHeld, Lacks, Puts, PutHasCause, Rose, Stands}
use Rattle.ipc_io.proofs.Known.{AppendsPrefix-after, Appends-kept_nil}
use Rattle.ipc_log_disk.specs.Below.{IsOfDisk}
use Rattle.ipc_log_disk.specs.Crashes.{Among, Images, Only, SameImages}
use Rattle.ipc_log_streams.specs.Streams.{AddsLog, AddsPart, IsOfOpening, IsOfRead, IsReadable, IsSmallRefusal, KeepsBytes, PutCause}
use Rattle.ipc_tool.specs.Commands.Append.{KeepsOthers, NotOpened}
use Rattle.ipc_tool.specs.Commands.Log.{AddsShown, KeepsAll, KeepsShelf, LeavesShow, MayShow, ShowLeft, SurvivesAs, show_task}
use Rattle.ipc_tool.specs.Commands.Stream.{encoding_of, shown_as}
use Rattle.ipc_tool.specs.Outside.{NoneFailed, Outside}
use Rattle.ipc_tool.specs.Refusal.{error_status, number_of, shelf_refusal}
use Rattle.ipc_tool.specs.Tasks.{CauseOf, Does, IsMissing, IsOfOpening as IsOfNames}
use Rattle.ipc_tool.specs.declared.refusal.Refusal.{Refusal}
use Rattle.ipc_tool.specs.declared.refusal.Refusal.TheVariants.{Ipc, NoName}
use Rattle.ipc_tool.proofs.AppendSteps.{replaced_others, same_others}
use Rattle.ipc_tool.proofs.FileTasks.{few, stood}

-- ── what is added ──

each : {P Q : List ℕ → Type 0} (content : Option (List ℕ)) → ((b : List ℕ) → P b → Q b) → IfSome content P → IfSome content Q
each None f h = tt
each (Some b) f h = f b h

module _ (content old : Option (List ℕ)) where
  pub raw_added : (r : Result (Unit {0}) IpcError) (new : Option (List ℕ)) → OnOk r (IfSome content (λ b. AddsLog b (text_of Bytes) old new)) → OnOk r (IfSome content (λ b. AddsLog b (shown_as true) old new))
  raw_added (Ok u) new h = each content (λ b k. record { table = k.table; is_log = k.is_log; bytes = k.bytes; is_closed = k.is_closed; means = k.means; added = k.added }) h
  raw_added (Err e) new h = tt

  pub raw_left : (r : Result (Unit {0}) IpcError) (new : Option (List ℕ)) (wants wants' : ℕ) → IfErr r (λ e. IfSome content (λ b. AddsPart e b (text_of Bytes) old new wants wants')) → IfErr r (λ e. IfSome content (λ b. AddsShown e b true old new wants wants'))
  raw_left (Ok u) new wants wants' h = tt
  raw_left (Err e) new wants wants' h = each content (λ b k. AddsShown.in_stream k) h

  pub hex_left : (e : IpcError) (new : Option (List ℕ)) (wants wants' : ℕ) → IfSome content (λ b. AddsPart e b (text_of HexText) old new wants wants') → IfSome content (λ b. AddsShown e b false old new wants wants')
  hex_left e new wants wants' h = each content (λ b k. AddsShown.in_stream k) h

  module _ (mid new : Option (List ℕ)) (whole : IfSome content (λ b. AddsLog b (text_of HexText) old mid)) where
    pub hex_added : Appends mid new (10 ∷ []) → IfSome content (λ b. AddsLog b (shown_as false) old new)
    hex_added line = each content (λ b k. record { table = k.table; is_log = k.is_log; bytes = k.bytes; is_closed = k.is_closed; means = k.means; added = Appends-trans old mid new (text_of HexText k.bytes) (10 ∷ []) k.added line }) whole

    behind_stream : (e : PutError) (b : List ℕ) (faults faults' before wants wants' : ℕ) → before ≤ wants → PutHasCause faults faults' wants wants' (Err e) → Puts mid new (Err e) (10 ∷ []) → AddsLog b (text_of HexText) old mid → AddsShown (put_error e) b false old new before wants'
    behind_stream put.Failed b faults faults' before wants wants' later c p k = AddsShown.at_line_feed k.bytes refl tt k.is_log k.is_closed k.means (AppendsPrefix-after old mid new (text_of HexText k.bytes) (10 ∷ []) k.added p)
    behind_stream put.Memory b faults faults' before wants wants' later c p k =
        let rose : Rose wants wants' = c.wanted refl in
        AddsShown.at_line_feed k.bytes refl (omega (arith, later, rose)) k.is_log k.is_closed k.means (AppendsPrefix-after old mid new (text_of HexText k.bytes) (10 ∷ []) k.added (0, Appends-kept_nil mid new p))

    pub line_feed_left : (x : IpcError) (e : PutError) (faults faults' before wants wants' : ℕ) → x ≡ put_error e → before ≤ wants → PutHasCause faults faults' wants wants' (Err e) → Puts mid new (Err e) (10 ∷ []) → IfSome content (λ b. AddsShown x b false old new before wants')
    line_feed_left x e faults faults' before wants wants' is later c p = each content (λ b k. subst (λ y. AddsShown y b false old new before wants') (sym is) (behind_stream e b faults faults' before wants wants' later c p k)) whole

-- ── why ──

put_cause : (e : PutError) (reads reads' first faults faults' wants wants' : ℕ) → first ≤ faults → PutHasCause faults faults' wants wants' (Err e) → PutCause (put_error e) reads reads' first faults'
put_cause put.Failed reads reads' first faults faults' wants wants' later c = let rose : Rose faults faults' = c.failed refl in inr (omega (arith, later, rose))
put_cause put.Memory reads reads' first faults faults' wants wants' later c = tt

pub line_feed_cause : (x : IpcError) (e : PutError) (reads reads' first faults faults' wants wants' : ℕ) → x ≡ put_error e → first ≤ faults → PutHasCause faults faults' wants wants' (Err e) → PutCause x reads reads' first faults'
line_feed_cause x e reads reads' first faults faults' wants wants' is later c = subst (λ y. PutCause y reads reads' first faults') (sym is) (put_cause e reads reads' first faults faults' wants wants' later c)

put_complete : (e : PutError) (content : Option (List ℕ)) (reads reads' first faults faults' wants wants' : ℕ) → first ≤ faults → PutHasCause faults faults' wants wants' (Err e) → IfSome content (λ b. IsReadable b → Stands reads reads' → Stands first faults' → IsSmallRefusal (put_error e))
put_complete e None reads reads' first faults faults' wants wants' later c = tt
put_complete put.Memory (Some b) reads reads' first faults faults' wants wants' later c = λ readable still stands. inl refl
put_complete put.Failed (Some b) reads reads' first faults faults' wants wants' later c = λ readable still stands. let rose : Rose faults faults' = c.failed refl in absurd (omega (arith, later, rose, stands.same, stands.below))

pub line_feed_complete : (x : IpcError) (e : PutError) (content : Option (List ℕ)) (reads reads' first faults faults' wants wants' : ℕ) → x ≡ put_error e → first ≤ faults → PutHasCause faults faults' wants wants' (Err e) → IfSome content (λ b. IsReadable b → Stands reads reads' → Stands first faults' → IsSmallRefusal x)
line_feed_complete x e content reads reads' first faults faults' wants wants' is later c = subst (λ y. IfSome content (λ b. IsReadable b → Stands reads reads' → Stands first faults' → IsSmallRefusal y)) (sym is) (put_complete e content reads reads' first faults faults' wants wants' later c)

-- where the stream was not put, or it was, the answer is that of putting it
pub hex_complete : (r : Result (Unit {0}) IpcError) (e : IpcError) (content : Option (List ℕ)) (reads reads' writes writes' : ℕ) → r ≡ Err e → IfSome content (λ b. IsReadable b → Stands reads reads' → Stands writes writes' → IfErr r IsSmallRefusal) → IfSome content (λ b. IsReadable b → Stands reads reads' → Stands writes writes' → IsSmallRefusal e)
hex_complete r e content reads reads' writes writes' is h = subst (λ x. IfSome content (λ b. IsReadable b → Stands reads reads' → Stands writes writes' → IfErr x IsSmallRefusal)) is h

-- the disk tells the same bytes also where the line feed is not put
pub keeps_still : (r : Result (Unit {0}) IpcError) (x : Unit {0}) (e : IpcError) (old new : Option (List ℕ)) (faults faults' wants wants' : ℕ) → r ≡ Ok x → KeepsBytes r old new faults faults' wants wants' → KeepsBytes {T = Unit {0}} (Err e) old new faults faults' wants wants'
keeps_still r x e old new faults faults' wants wants' is h = let same : KeepsBytes {T = Unit {0}} (Ok x) old new faults faults' wants wants' = subst (λ y. KeepsBytes y old new faults faults' wants wants') is h in inr same

-- ── the shelf ──

all_same : (old new : Option Held) → new ≡ old → KeepsAll old new
all_same old new h = subst (KeepsAll old) (sym h) (itself old)
  where
    itself : (held : Option Held) → KeepsAll held held
    itself None = refl
    itself (Some held) = λ name. refl

same_bytes : (t : List ℕ) (content : Option (List ℕ)) (o n : Option Held) → IsHeld o t content → IsReplaced o n t content → KeepsAll o n
same_bytes t content None n was now = now
same_bytes t content (Some held) None was now = now
same_bytes t None (Some held) (Some held') was now = let never : false ≡ true = was.0 in cc
same_bytes t (Some b) (Some held) (Some held') was now = λ name. by name (bytes_eq name t) (bytes_eq-Decides name t)
  where
    by : (name : List ℕ) (r : Bool) → IsTrue r ↔ (name ≡ t) → held' name ≡ held name
    by name true h = let is = h.0 refl in subst (λ n. held' n ≡ held n) (sym is) (now.there ∙ sym was.1)
    by name false h = now.others name (λ is. let clash : true ≡ false = sym (h.1 is) in cc)

-- bytes that a log tells as before stand there as before
log_kept : (t : List ℕ) (old new : Option Held) (content behind : Option (List ℕ)) → IsHeld old t content → IsReplaced old new t behind → behind ≡ content → KeepsAll old new
log_kept t old new content behind was now same = same_bytes t content old new was (subst (λ o. IsReplaced old new t o) same now)

-- a vault is closed over what stood when it was opened
pub over_opened : (t : List ℕ) (old mid new : Option Held) (behind : Option (List ℕ)) → mid ≡ old → IsReplaced mid new t behind → IsReplaced old new t behind
over_opened t old mid new behind kept now = subst (λ h. IsReplaced h new t behind) kept now

others_of_all : (t : List ℕ) (old new : Option Held) → KeepsAll old new → KeepsOthers t old new
others_of_all t None new h = h
others_of_all t (Some held) None h = h
others_of_all t (Some held) (Some held') h = λ other apart. h other

kept_shelf : (e : IpcError) (t : List ℕ) (old new : Option Held) (content behind : Option (List ℕ)) (faults faults' wants wants' : ℕ) → IsHeld old t content → IsReplaced old new t behind → IsOfDisk e faults faults' wants wants' ⊎ (behind ≡ content) → KeepsShelf e t old new
kept_shelf errors.WriteFault t old new content behind faults faults' wants wants' was now h = replaced_others t old new behind now
kept_shelf errors.Memory t old new content behind faults faults' wants wants' was now h = replaced_others t old new behind now
kept_shelf e t old new content behind faults faults' wants wants' was now (inr same) = by e (log_kept t old new content behind was now same)
  where
    by : (f : IpcError) → KeepsAll old new → KeepsShelf f t old new
    by errors.WriteFault k = others_of_all t old new k
    by errors.Memory k = others_of_all t old new k
    by f k = k
kept_shelf e t old new content behind faults faults' wants wants' was now (inl (inl is)) = subst (λ f. KeepsShelf f t old new) (sym is.0) (replaced_others t old new behind now)
kept_shelf e t old new content behind faults faults' wants wants' was now (inl (inr is)) = subst (λ f. KeepsShelf f t old new) (sym is.0) (replaced_others t old new behind now)

-- ── what is held under the name ──

of_held : (P : List ℕ → Type 0) (held : Option Held) (t : List ℕ) (content : Option (List ℕ)) → IsHeld held t content → IfSome content P → IfSome held (λ h. IsSomeAnd (h t) P)
of_held P None t content was h = tt
of_held P (Some held) t None was h = let never : false ≡ true = was.0 in cc
of_held P (Some held) t (Some b) was h = subst (λ o. IsSomeAnd o P) (sym was.1) h

-- and back
must_hold : (P : List ℕ → Type 0) (Q : Type 0) (held : Option Held) (t : List ℕ) (content : Option (List ℕ)) → IsHeld held t content → IsSomeAnd held (λ h. IsSomeAnd (h t) P) → IfSome content (λ b. P b → Q) → Q
must_hold P Q None t content was must h = absurd must
must_hold P Q (Some held) t None was must h = let never : false ≡ true = was.0 in cc
must_hold P Q (Some held) t (Some b) was must h = h (subst (λ o. IsSomeAnd o P) was.1 must)

none_missing : (held : Option Held) (t : List ℕ) (content : Option (List ℕ)) → IsHeld held t content → IsMissing (Some t) held → ⊥
none_missing None t content was m = m
none_missing (Some held) t None was m = let never : false ≡ true = was.0 in cc
none_missing (Some held) t (Some b) was m = let clash : None ≡ Some b = sym m ∙ was.1 in cc

none_lacked : (P : List ℕ → Type 0) (held : Option Held) (t : List ℕ) → IsSomeAnd held (λ h. IsSomeAnd (h t) P) → Lacks held t → ⊥
none_lacked P None t must lacks = must
none_lacked P (Some held) t must lacks = subst (λ o. IsSomeAnd o P) lacks must

-- ── which errors the bytes are refused with ──

may_part : (e : IpcError) (b : List ℕ) (text : List ℕ → List ℕ) (old new : Option (List ℕ)) (wants wants' : ℕ) → (IsOfOpening e → ⊥) → (IsOfRead e → ⊥) → (IsOfPut e wants wants' → ⊥) → AddsPart e b text old new wants wants' → MayShow e b
may_part e b text old new wants wants' no_opening no_read no_put (AddsPart.by_device h kept) = absurd (no_opening h)
may_part e b text old new wants wants' no_opening no_read no_put (AddsPart.no_log is never kept) = MayShow.no_log is never
may_part e b text old new wants wants' no_opening no_read no_put (AddsPart.at_schema {t = t} means refuses kept) = MayShow.at_schema {t = t} means refuses
may_part e b text old new wants wants' no_opening no_read no_put (AddsPart.behind means front added (inl h)) = absurd (no_read h)
may_part e b text old new wants wants' no_opening no_read no_put (AddsPart.behind {t = t} {count = count} means front added (inr large)) = MayShow.at_batch {t = t} {count = count} means large.0 large.1
may_part e b text old new wants wants' no_opening no_read no_put (AddsPart.in_put means piece put part) = absurd (no_put put)

may_shown : (e : IpcError) (b : List ℕ) (raw : Bool) (old new : Option (List ℕ)) (wants wants' : ℕ) → (IsOfOpening e → ⊥) → (IsOfRead e → ⊥) → (IsOfPut e wants wants' → ⊥) → AddsShown e b raw old new wants wants' → MayShow e b
may_shown e b raw old new wants wants' no_opening no_read no_put (AddsShown.in_stream part) = may_part e b (text_of (encoding_of raw)) old new wants wants' no_opening no_read no_put part
may_shown e b raw old new wants wants' no_opening no_read no_put (AddsShown.at_line_feed x is put means whole table part) = absurd (no_put put)

-- ── the answers ──

module _ (raw : Bool) (t : List ℕ) (old new : Outside) (rest : new.rest ≡ old.rest) where
  no_read : false ≡ true → ⊥
  no_read r = cc

  opens : t ∷ [] ≡ [] → ⊥
  opens o = cc

  refusal : (e : Refusal) → CauseOf (show_task raw t) e old new → ShowLeft e raw t old new → (14 ≤ number_of e → Keeps old.written new.written) → ((show_task raw t).must old → NoneFailed old new → (e ≡ Ipc errors.Memory) ⊎ (e ≡ Ipc errors.TooLarge)) → (show_task raw t).statuses (number_of e) → (IsMissing (Some t) old.held → IsOfNames e) → KeepsOthers t old.held new.held
      → Does (show_task raw t) (Err e) old new
  refusal e cause left untouched complete status missing keeps = record {
    done = tt;
    at_end = tt;
    cause = cause;
    left = left;
    untouched = untouched;
    not_read = λ n r. absurd (no_read r);
    complete = complete;
    statuses = status;
    missing = missing;
    keeps = keeps;
    unread = λ r. rest;
    unopened = λ o. absurd (opens o);
  }

  -- the log was not opened
  pub log_not_opened : (e : Refusal) → NotOpened t e old.held new.held old.shelf_faults new.shelf_faults → Keeps old.written new.written → Does (show_task raw t) (Err e) old new
  log_not_opened e n kept = by n.error n.is n.unknown n.failed
    where
      keeps : KeepsOthers t old.held new.held
      keeps = same_others t old.held new.held n.kept

      by : (x : ShelfError) → e ≡ shelf_refusal x → (x ≡ shelf.Unknown → Lacks old.held t) → (x ≡ shelf.Failed → Rose old.shelf_faults new.shelf_faults) → Does (show_task raw t) (Err e) old new
      by shelf.Failed is unknown failed =
          subst (λ y. Does (show_task raw t) (Err y) old new) (sym is) (refusal (Ipc errors.ReadFault) (failed refl) (LeavesShow.in_opening (inl refl) kept n.kept) (λ m. kept) (λ must none. absurd (stood old.shelf_faults new.shelf_faults none.shelf (failed refl))) (inr (inr (omega arith))) (λ m. inr (inl refl)) keeps)
      by shelf.Memory is unknown failed = subst (λ y. Does (show_task raw t) (Err y) old new) (sym is) (refusal (Ipc errors.Memory) tt (LeavesShow.in_opening (inr refl) kept n.kept) (λ m. kept) (λ must none. inl refl) (inr (inr (omega arith))) (λ m. inr (inr refl)) keeps)
      by shelf.Unknown is unknown failed =
          subst (λ y. Does (show_task raw t) (Err y) old new) (sym is) (refusal NoName (0, t, omega arith, refl, unknown refl) (kept, n.kept) (λ m. kept) (λ must none. absurd (none_lacked IsReadable old.held t must (unknown refl))) (inr (inr (omega arith))) (λ m. inl refl) keeps)

  -- it was opened, and closed again
  module _ (content behind : Option (List ℕ)) (was : IsHeld old.held t content) (now : IsReplaced old.held new.held t behind) where
    log_shown : IfSome content (λ b. AddsLog b (shown_as raw) old.written new.written) → behind ≡ content → Does (show_task raw t) (Ok tt) old new
    log_shown added same = record {
      done = record { added = of_held (λ b. AddsLog b (shown_as raw) old.written new.written) old.held t content was added; kept = log_kept t old.held new.held content behind was now same };
      at_end = λ r. absurd (no_read r);
      cause = tt;
      left = tt;
      untouched = tt;
      not_read = tt;
      complete = tt;
      statuses = tt;
      missing = λ m. absurd (none_missing old.held t content was m);
      keeps = replaced_others t old.held new.held behind now;
      unread = λ r. rest;
      unopened = λ o. absurd (opens o);
    }

    pub log_shown_of : (r : Result (Unit {0}) IpcError) (x : Unit {0}) → r ≡ Ok x → OnOk r (IfSome content (λ b. AddsLog b (shown_as raw) old.written new.written)) → (first failures wants wants' : ℕ) → KeepsBytes r content behind first failures wants wants' → Does (show_task raw t) (Ok tt) old new
    log_shown_of r x is added first failures wants wants' kept =
        subst (λ y. OnOk y (IfSome content (λ b. AddsLog b (shown_as raw) old.written new.written)) → KeepsBytes y content behind first failures wants wants' → Does (show_task raw t) (Ok tt) old new) (sym is) log_shown added kept

    module _ (failures opened wants wants' : ℕ) (later : old.shelf_faults ≤ opened) (closes : Closes failures opened new.shelf_faults) where
      abbrev Added : IpcError → Type 0
      Added e = IfSome content (λ b. AddsShown e b raw old.written new.written old.output_wants new.output_wants)

      abbrev Why : IpcError → Type 0
      Why e = PutCause e 0 failures old.output_faults new.output_faults

      rose : Rose 0 failures → Rose old.shelf_faults new.shelf_faults
      rose r = let up : Rose opened new.shelf_faults = closes.rose (omega (arith, r)) in omega (arith, later, up)

      own : (e : IpcError) → Added e → (IsOfOpening e → ⊥) → (IsOfRead e → ⊥) → (IsOfPut e old.output_wants new.output_wants → ⊥) → (show_task raw t).may e old
      own e added no_opening no_reading no_put = of_held (MayShow e) old.held t content was (each content (λ b k. may_shown e b raw old.written new.written old.output_wants new.output_wants no_opening no_reading no_put k) added)

      cause : (e : IpcError) → Added e → Why e → CauseOf (show_task raw t) (Ipc e) old new
      cause errors.ReadFault added c = rose c
      cause errors.WriteFault added (inl c) = inl (rose c)
      cause errors.WriteFault added (inr c) = inr c
      cause errors.Memory added c = tt
      cause errors.State added c = absurd c
      cause errors.SchemaMismatch added c = absurd c
      cause (errors.Projection index) added c = absurd c
      cause (errors.DictionaryReplaced id) added c = absurd c
      cause errors.NotRepresentable added c = absurd c
      cause errors.TooLarge added c = own errors.TooLarge added (λ x. x) (λ x. x) (λ x. x)
      cause errors.TooDeep added c = own errors.TooDeep added (λ x. x) (λ x. x) (λ x. x)
      cause (errors.OutOfSpec kind) added c = own (errors.OutOfSpec kind) added (λ x. x) (λ x. x) (λ x. x)
      cause (errors.Unsupported feature) added c = own (errors.Unsupported feature) added (λ x. x) (λ x. x) (λ x. x)
      cause (errors.TooMany counted) added c = own (errors.TooMany counted) added (λ x. x) (λ x. x) (λ x. x)

      status : (e : IpcError) → Why e → (show_task raw t).statuses (error_status e)
      status errors.State c = absurd c
      status errors.SchemaMismatch c = absurd c
      status (errors.Projection index) c = absurd c
      status (errors.DictionaryReplaced id) c = absurd c
      status errors.NotRepresentable c = absurd c
      status errors.TooLarge c = inr (inl refl)
      status errors.ReadFault c = inr (inr (omega arith))
      status errors.WriteFault c = inr (inr (omega arith))
      status errors.Memory c = inr (inr (omega arith))
      status e c = inl (omega arith)

      small : (e : IpcError) → IsSmallRefusal e → (Ipc e ≡ Ipc errors.Memory) ⊎ (Ipc e ≡ Ipc errors.TooLarge)
      small e (inl is) = inl (ap Ipc is)
      small e (inr is) = inr (ap Ipc is)

      none_failed : NoneFailed old new → Stands 0 failures
      none_failed none = record { same = omega (arith, quiet none); below = omega (arith, quiet none) }
        where
          quiet : NoneFailed old new → failures ≡ 0
          quiet none = by failures refl
            where
              by : (n : ℕ) → failures ≡ n → failures ≡ 0
              by zero is = is
              by (suc n) is = let up : Rose opened new.shelf_faults = closes.rose (omega (arith, is)) in absurd (stood old.shelf_faults new.shelf_faults none.shelf (omega (arith, later, up)))

      log_not_shown : (e : IpcError) → Added e → Why e → IfSome content (λ b. IsReadable b → Stands 0 failures → Stands old.output_faults new.output_faults → IsSmallRefusal e) → IsOfDisk e 0 failures wants wants' ⊎ (behind ≡ content) → Does (show_task raw t) (Err (Ipc e)) old new
      log_not_shown e added c complete same =
          refusal (Ipc e) (cause e added c) (LeavesShow.in_log (of_held (λ b. AddsShown e b raw old.written new.written old.output_wants new.output_wants) old.held t content was added) (kept_shelf e t old.held new.held content behind 0 failures wants wants' was now same))
          (λ n. let k : error_status e ≤ 13 = few e in absurd (omega (arith, n, k)))
          (λ must none. small e (must_hold IsReadable (Stands 0 failures → Stands old.output_faults new.output_faults → IsSmallRefusal e) old.held t content was must complete (none_failed none) none.output))
          (status e c) (λ m. absurd (none_missing old.held t content was m)) (replaced_others t old.held new.held behind now)

      -- of a disk that had not failed
      log_stops_at : (first : ℕ) → first ≡ 0 → (e : IpcError) → Added e → PutCause e first failures old.output_faults new.output_faults → IfSome content (λ b. IsReadable b → Stands first failures → Stands old.output_faults new.output_faults → IsSmallRefusal e) → IsOfDisk e first failures wants wants' ⊎ (behind ≡ content) → Does (show_task raw t) (Err (Ipc e)) old new
      log_stops_at first z e added =
          subst (λ n. PutCause e n failures old.output_faults new.output_faults → IfSome content (λ b. IsReadable b → Stands n failures → Stands old.output_faults new.output_faults → IsSmallRefusal e) → IsOfDisk e n failures wants wants' ⊎ (behind ≡ content) → Does (show_task raw t) (Err (Ipc e)) old new) (sym z) (log_not_shown e added)

      pub log_stops_of : (first : ℕ) → first ≡ 0 → (r : Result (Unit {0}) IpcError) (e : IpcError) → r ≡ Err e → IfErr r Added → IfErr r (λ x. PutCause x first failures old.output_faults new.output_faults) → IfSome content (λ b. IsReadable b → Stands first failures → Stands old.output_faults new.output_faults → IfErr r IsSmallRefusal) → KeepsBytes r content behind first failures wants wants'
          → Does (show_task raw t) (Err (Ipc e)) old new
      log_stops_of first z r e is =
          subst (λ x. IfErr x Added → IfErr x (λ y. PutCause y first failures old.output_faults new.output_faults) → IfSome content (λ b. IsReadable b → Stands first failures → Stands old.output_faults new.output_faults → IfErr x IsSmallRefusal) → KeepsBytes x content behind first failures wants wants' → Does (show_task raw t) (Err (Ipc e)) old new) (sym is) (log_stops_at first z e)

-- ── crashes ──

pub show_survives : (t : List ℕ) (old : Outside) (content : Option (List ℕ)) (since : ℕ → Images) (first : ℕ) → first ≡ 0 → (opened left left' : Images) → IsHeld old.held t content → Only content opened → Among opened (since first) → SameImages (since 0) left' → SurvivesAs false t old left left'
show_survives t old content since first z opened left left' was only among same = inr (of_held (λ b. (u : ArrowTable) (c : List ℕ) → MeansLog b u → left' c → MeansLog c u) old.held t content was (by content refl))
  where
    by : (o : Option (List ℕ)) → content ≡ o → IfSome o (λ b. (u : ArrowTable) (c : List ℕ) → MeansLog b u → left' c → MeansLog c u)
    by None told = tt
    by (Some b) told = λ u c m here. subst (λ (d : List ℕ). MeansLog d u) (sym (only b c told (among c (subst (λ n. since n c) (sym z) ((same c).0 here))))) m
