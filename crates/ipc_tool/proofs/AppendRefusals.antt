-- Why an append is refused, by the step that it stops at.
use Rattle.std.proofs.Common.{◌≡◌, inl, inr, ℕ, true, false, arith, List, refl, sym, subst}
use Rattle.arrow_spec.specs.declared.error.IpcError.{IpcError}
use Rattle.arrow_spec.specs.declared.error.IpcError.TheVariants as errors
use Rattle.ipc_round_trip.specs.Below.{WholeStream}
use Rattle.ipc_io.specs.declared.outside.ShelfError.{ShelfError}
use Rattle.ipc_io.specs.declared.outside.ShelfError.TheVariants as shelf
use Rattle.ipc_io.specs.Outside.{Lacks, Rose}
use Rattle.ipc_tool.specs.Commands.Append.{AppendStops, CountRefused, InputCause, IsReadStream, NotOpened, PlaceNotAppended, PlaceRefused, StreamRefused, append_task}
use Rattle.ipc_tool.specs.Input.{HexCause}
use Rattle.ipc_tool.specs.Outside.{Outside}
use Rattle.ipc_tool.specs.Refusal.{shelf_refusal}
use Rattle.ipc_tool.specs.Tasks.{CauseOf}
use Rattle.ipc_tool.specs.declared.refusal.Refusal.{Refusal}
use Rattle.ipc_tool.specs.declared.refusal.Refusal.TheVariants.{Ipc, Words, NotHex, InputTooLong, NoName}

module _ (target : List ℕ) (old new : Outside) where
  abbrev Cause : Refusal → Type 0
  Cause e = CauseOf (append_task target) e old new

  of_hex : (e : Refusal) → HexCause e old.rest new.rest old.input_faults new.input_faults → Cause e
  of_hex NotHex h = (refl, h)
  of_hex InputTooLong h = (refl, h)
  of_hex Words h = absurd h
  of_hex NoName h = absurd h
  of_hex (Ipc errors.ReadFault) h = inl h
  of_hex (Ipc errors.Memory) h = tt
  of_hex (Ipc e) h = absurd h

  -- bytes in memory do not fail
  of_stream : (x : IpcError) → StreamRefused x old.rest → Cause (Ipc x)
  of_stream errors.ReadFault h = absurd (omega (arith, h.cause))
  of_stream errors.Memory h = tt
  of_stream (errors.OutOfSpec x) h = tt
  of_stream (errors.Unsupported x) h = tt
  of_stream errors.TooDeep h = tt
  of_stream (errors.TooMany x) h = tt
  of_stream x h = absurd h.cause

  of_opening : (e : Refusal) → NotOpened target e old.held new.held old.shelf_faults new.shelf_faults → Cause e
  of_opening e h = by h.error h.is h.unknown h.failed
    where
      by : (x : ShelfError) → e ≡ shelf_refusal x → (x ≡ shelf.Unknown → Lacks old.held target) → (x ≡ shelf.Failed → Rose old.shelf_faults new.shelf_faults) → Cause e
      by shelf.Failed is unknown failed = subst (λ y. Cause y) (sym is) (inr (failed refl))
      by shelf.Memory is unknown failed = subst (λ y. Cause y) (sym is) tt
      by shelf.Unknown is unknown failed = subst (λ y. Cause y) (sym is) (0, target, omega arith, refl, unknown refl)

  of_place : (x : IpcError) (s : WholeStream) → IsReadStream old.rest s → PlaceNotAppended target x old.held new.held s old.shelf_faults new.shelf_faults → Cause (Ipc x)
  of_place errors.ReadFault s read p = inr p.says
  of_place errors.WriteFault s read p = inl p.says
  of_place errors.SchemaMismatch s read p = record { stream = s; read = read; content = p.content; was = p.was; others = p.says }
  of_place errors.NotRepresentable s read p = let never : true ≡ false = p.says in cc
  of_place (errors.Projection x) s read p = absurd p.says
  of_place errors.State s read p = absurd p.says
  of_place x s read p = tt

  of_count : (e : Refusal) (n : ℕ) → CountRefused e n old.written new.written old.output_faults new.output_faults → Cause e
  of_count e n (inl h) = subst (λ y. Cause y) (sym h.0) tt
  of_count e n (inr h) = subst (λ y. Cause y) (sym h.0) (inr h.1)

  pub stops_cause : (e : Refusal) → AppendStops e target old new → Cause e
  stops_cause e (inl h) = by h.cause
    where
      by : InputCause e old.rest new.rest old.input_faults new.input_faults → Cause e
      by (inl hex) = of_hex e hex
      by (inr k) = subst (λ y. Cause y) (sym k.1) (of_stream k.0 k.2)
  stops_cause e (inr (inl h)) = by h.place
    where
      by : PlaceRefused target e old.held new.held h.stream old.shelf_faults new.shelf_faults → Cause e
      by (inl k) = of_opening e k
      by (inr k) = subst (λ y. Cause y) (sym k.1) (of_place k.0 h.stream h.read k.2)
  stops_cause e (inr (inr h)) = of_count e _ h.count
