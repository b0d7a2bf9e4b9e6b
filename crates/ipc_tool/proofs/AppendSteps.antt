-- The steps of an append.
use Rattle.std.proofs.Common.{◌≡◌, ◌⊎◌, ℕ, ◌≤◌, ◌<◌, ◌∷◌, [], arith, true, false, List, Option, None, Some, Result, Ok, Err, IfErr, inl, inr, refl, sym, ap, subst, length, take}
use Rattle.std.specs.Prelude.{OnOk}
use Rattle.std.specs.Io.KnownBytes.{Appends, IsAtEnd, Keeps}
use Rattle.arrow_spec.specs.declared.error.IpcError.{IpcError}
use Rattle.arrow_spec.specs.declared.error.IpcError.TheVariants as errors
use Rattle.arrow_spec.specs.Words.{Held}
use Rattle.ipc_round_trip.specs.Below.{IsNotAppended, RefusalSays}
use Rattle.ipc_round_trip.specs.Below.{WholeStream}
use Rattle.ipc_disk.specs.Places.{IsReplaced}
use Rattle.ipc_io.proofs.Known.{Appends-kept_nil}
use Rattle.ipc_io.specs.Outside.{Closes, IsHeld, Rose}
use Rattle.ipc_tool.specs.Commands.Append.{AddsCount, AppendStops, CountRefused, IsAppendedTo, IsReadStream, KeepsOthers, PlaceAppended, PlaceNotAppended, PlaceRefused, append_options, append_task, count_text}
use Rattle.ipc_tool.specs.Outside.{Outside}
use Rattle.ipc_tool.specs.Refusal.{number_of}
use Rattle.ipc_tool.specs.Tasks.{CauseOf, Does}
use Rattle.ipc_tool.specs.declared.refusal.Refusal.{Refusal}
use Rattle.ipc_tool.specs.declared.refusal.Refusal.TheVariants.{Ipc, Words, NotHex, InputTooLong, NoName}
use Rattle.ipc_tool.proofs.AppendRefusals.{stops_cause}
use Rattle.ipc_round_trip.specs.Below.{WriteOptions}

-- ── the place ──

rose_on : (a b c : ℕ) → a ≤ b → Rose b c → Rose a c
rose_on a b c h r = omega (arith, h, r)

rose_above : (first now : ℕ) → first ≡ 0 → Rose first now → 0 < now
rose_above first now z r = omega (arith, z, r)

closed_rose : (first failures before mid after : ℕ) → first ≡ 0 → before ≤ mid → Closes failures mid after → Rose first failures → Rose before after
closed_rose first failures before mid after z le c r = rose_on before mid after le (c.rose (rose_above first failures z r))

-- failures of a place that was closed are told by the shelf's count
says_closed : (e : IpcError) (content : Option (List ℕ)) (o : WriteOptions) (s : WholeStream) (first failures before mid after : ℕ) → first ≡ 0 → before ≤ mid → Closes failures mid after → RefusalSays e content o s first failures → RefusalSays e content o s before after
says_closed errors.ReadFault content o s first failures before mid after z le c r = closed_rose first failures before mid after z le c r
says_closed errors.WriteFault content o s first failures before mid after z le c r = closed_rose first failures before mid after z le c r
says_closed errors.SchemaMismatch content o s first failures before mid after z le c r = r
says_closed errors.NotRepresentable content o s first failures before mid after z le c r = r
says_closed (errors.Projection index) content o s first failures before mid after z le c r = r
says_closed errors.State content o s first failures before mid after z le c r = r
says_closed e content o s first failures before mid after z le c r = tt

-- a place that was closed behind an append that was refused
pub place_left : (t : List ℕ) (e : IpcError) (old mid new : Option Held) (s : WholeStream) (content behind : Option (List ℕ)) (o : WriteOptions) (first failures before opened after : ℕ)
    → IsHeld old t content → first ≡ 0 → o ≡ append_options → IsNotAppended content behind e o s first failures → RefusalSays e content o s first failures → before ≤ opened → Closes failures opened after → mid ≡ old → IsReplaced mid new t behind → PlaceNotAppended t e old new s before after
place_left t e old mid new s content behind o first failures before opened after was z is refused says le closed kept now = record {
  content = content;
  behind = behind;
  was = was;
  failures = failures;
  refused = subst (λ f. IsNotAppended content behind e append_options s f failures) z (subst (λ x. IsNotAppended content behind e x s first failures) is refused);
  says = subst (λ x. RefusalSays e content x s before after) is (says_closed e content o s first failures before opened after z le closed says);
  is = subst (λ h. IsReplaced h new t behind) kept now;
}

-- ── what stays ──

pub same_others : (t : List ℕ) (old new : Option Held) → new ≡ old → KeepsOthers t old new
same_others t old new h = subst (KeepsOthers t old) (sym h) (itself old)
  where
    itself : (held : Option Held) → KeepsOthers t held held
    itself None = refl
    itself (Some held) = λ other apart. refl

pub replaced_others : (t : List ℕ) (old new : Option Held) (behind : Option (List ℕ)) → IsReplaced old new t behind → KeepsOthers t old new
replaced_others t None new behind h = h
replaced_others t (Some held) None behind h = h
replaced_others t (Some held) (Some held') behind h = h.others

-- ── the whole ──

module _ (t : List ℕ) (old new : Outside) where
  -- ── a refusal ──

  kept_others : (e : Refusal) → AppendStops e t old new → KeepsOthers t old.held new.held
  kept_others e (inl h) = same_others t old.held new.held h.held
  kept_others e (inr (inl h)) = by h.place
    where
      by : PlaceRefused t e old.held new.held h.stream old.shelf_faults new.shelf_faults → KeepsOthers t old.held new.held
      by (inl k) = same_others t old.held new.held k.kept
      by (inr k) = replaced_others t old.held new.held k.2.behind k.2.is
  kept_others e (inr (inr h)) = replaced_others t old.held new.held h.place.behind h.place.is

  -- nothing is a part of the text of a number
  pub adds_nothing : (e : Refusal) → Keeps old.written new.written → AddsCount e old new
  adds_nothing (Ipc errors.WriteFault) k = (0, (0, Appends-kept_nil old.written new.written k))
  adds_nothing (Ipc e) k = k
  adds_nothing e k = k

  adds : (e : Refusal) → AppendStops e t old new → AddsCount e old new
  adds e (inl h) = adds_nothing e h.written
  adds e (inr (inl h)) = adds_nothing e h.written
  adds e (inr (inr h)) = by h.count
    where
      by : CountRefused e (length h.stream.batches.items) old.written new.written old.output_faults new.output_faults → AddsCount e old new
      by (inl k) = adds_nothing e k.1
      by (inr k) = subst (λ x. AddsCount x old new) (sym k.0) (length h.stream.batches.items, k.2)

  -- nothing was added but where the output failed
  kept : (e : Refusal) → AppendStops e t old new → (number_of e ≡ 12 → ⊥) → Keeps old.written new.written
  kept e (inl h) other = h.written
  kept e (inr (inl h)) other = h.written
  kept e (inr (inr h)) other = by h.count
    where
      by : CountRefused e (length h.stream.batches.items) old.written new.written old.output_faults new.output_faults → Keeps old.written new.written
      by (inl k) = k.1
      by (inr k) = absurd (other (ap number_of k.0))

  status : (e : Refusal) → CauseOf (append_task t) e old new → (append_task t).statuses (number_of e)
  status (Ipc (errors.Projection x)) c = absurd c
  status (Ipc errors.NotRepresentable) c = absurd c
  status (Ipc errors.State) c = absurd c
  status (Ipc (errors.OutOfSpec x)) c = inl (omega arith)
  status (Ipc (errors.Unsupported x)) c = inl (omega arith)
  status (Ipc errors.TooDeep) c = inl (omega arith)
  status (Ipc (errors.TooMany x)) c = inl (omega arith)
  status (Ipc errors.TooLarge) c = inr (inl (omega arith, omega arith))
  status (Ipc errors.SchemaMismatch) c = inr (inl (omega arith, omega arith))
  status (Ipc (errors.DictionaryReplaced x)) c = inr (inl (omega arith, omega arith))
  status (Ipc e) c = inr (inr (omega arith))
  status e c = inr (inr (omega arith))

  pub stops_does : (e : Refusal) → AppendStops e t old new → Does (append_task t) (Err e) old new
  stops_does e h = record {
    done = tt;
    at_end = tt;
    cause = stops_cause t old new e h;
    left = (adds e h, h);
    untouched = λ n. kept e h (λ is. absurd (omega (arith, n, is)));
    not_read = λ n r. kept e h (λ is. absurd (omega (arith, n, is)));
    complete = λ m n. absurd m;
    statuses = status e (stops_cause t old new e h);
    missing = λ m. absurd m;
    keeps = kept_others e h;
    unread = λ r. absurd (reads r);
    unopened = λ o. absurd (opens o);
  }
    where
      reads : true ≡ false → ⊥
      reads r = cc

      opens : t ∷ [] ≡ [] → ⊥
      opens o = cc

  pub at_place : (e : Refusal) (s : WholeStream) → IsReadStream old.rest s → PlaceRefused t e old.held new.held s old.shelf_faults new.shelf_faults → Keeps old.written new.written → Does (append_task t) (Err e) old new
  at_place e s read refused same = stops_does e (inr (inl (record { stream = s; read = read; place = refused; written = same })))

  -- ── all was appended ──

  appended : IsAppendedTo t old new → IsAtEnd new.rest → Does (append_task t) (Ok tt) old new
  appended h end = record {
    done = h;
    at_end = λ r. end;
    cause = tt;
    left = tt;
    untouched = tt;
    not_read = tt;
    complete = tt;
    statuses = tt;
    missing = λ m. absurd m;
    keeps = replaced_others t old.held new.held h.place.behind h.place.is;
    unread = λ r. absurd (reads r);
    unopened = λ o. absurd (opens o);
  }
    where
      reads : true ≡ false → ⊥
      reads r = cc

      opens : t ∷ [] ≡ [] → ⊥
      opens o = cc

  pub count_put : (r : Result (Unit {0}) Refusal) (s : WholeStream) (n : ℕ) → IsReadStream old.rest s → IsAtEnd new.rest → PlaceAppended t old.held new.held s → n ≡ length s.batches.items → OnOk r (Appends old.written new.written (count_text n)) → IfErr r (λ e. CountRefused e n old.written new.written old.output_faults new.output_faults)
      → Does (append_task t) r old new
  count_put (Ok tt) s n read end place is text refused = appended (record { stream = s; read = read; place = place; text = subst (λ k. Appends old.written new.written (count_text k)) is text }) end
  count_put (Err e) s n read end place is text refused = stops_does e (inr (inr (record { stream = s; read = read; place = place; count = subst (λ k. CountRefused e k old.written new.written old.output_faults new.output_faults) is refused })))
