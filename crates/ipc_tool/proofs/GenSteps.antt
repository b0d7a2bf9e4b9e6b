-- The steps of the command that generates a table.
use Rattle.std.proofs.Common.{◌≡◌, ◌⊎◌, ℕ, ◌≤◌, true, false, List, Result, Ok, Err, IfErr, inl, inr, refl, sym, subst, arith}
use Rattle.std.specs.Prelude.{OnOk}
use Rattle.std.specs.Io.KnownBytes.{Appends, Keeps}
use Rattle.arrow_spec.specs.declared.error.Counted.TheVariants.{Dictionaries}
use Rattle.arrow_spec.specs.declared.error.IpcError.{IpcError}
use Rattle.arrow_spec.specs.declared.error.IpcError.TheVariants.{Memory, TooLarge, TooMany, WriteFault}
use Rattle.ipc_io.specs.Outside.{Rose}
use Rattle.ipc_round_trip.specs.Line.{IsLineOf, RefusesLine}
use Rattle.ipc_tool.specs.Commands.Gen.{LeavesLine, LineRefused, generated_task}
use Rattle.ipc_tool.specs.Outside.{NoneFailed, Outside}
use Rattle.ipc_tool.specs.Refusal.{error_status}
use Rattle.ipc_tool.specs.Tasks.{CauseOf, Does}
use Rattle.ipc_tool.proofs.FileTasks.{stood}
use Rattle.ipc_tool.specs.declared.refusal.Refusal.{Refusal}
use Rattle.ipc_tool.specs.declared.refusal.Refusal.TheVariants.{Ipc}

-- the shelf and the input stand as they stood
pub record StandsBeside (old new : Outside) : Type 0 where
  pub held : new.held ≡ old.held
  pub shelf_faults : new.shelf_faults ≡ old.shelf_faults
  pub rest : new.rest ≡ old.rest

module _ (seed : ℕ) (old new : Outside) where
  no_fault : Rose old.output_faults new.output_faults → NoneFailed old new → ⊥
  no_fault rose none = stood old.output_faults new.output_faults none.output rose

  refused : (e : IpcError) → StandsBeside old new → CauseOf (generated_task seed) (Ipc e) old new → LeavesLine seed (Ipc e) old.written new.written → error_status e ≤ 13
      → (NoneFailed old new → (Ipc e ≡ Ipc Memory) ⊎ ((Ipc e ≡ Ipc TooLarge) ⊎ (Ipc e ≡ Ipc (TooMany Dictionaries)))) → (generated_task seed).statuses (error_status e)
      → Does (generated_task seed) (Err (Ipc e)) old new
  refused e beside cause left below complete status = record {
    done = tt;
    at_end = tt;
    cause = cause;
    left = left;
    untouched = λ n. absurd (omega (arith, n, below));
    not_read = λ n r. absurd (reads r);
    complete = λ m none. complete none;
    statuses = status;
    missing = λ m. absurd m;
    keeps = beside.held;
    unread = λ r. beside.rest;
    unopened = λ o. beside.shelf_faults;
  }
    where
      reads : false ≡ true → ⊥
      reads r = cc

  -- there is no line
  pub no_line : (e : IpcError) → StandsBeside old new → Keeps old.written new.written → RefusesLine seed e → Does (generated_task seed) (Err (Ipc e)) old new
  no_line e beside kept (inl (inl m)) = subst (λ x. Does (generated_task seed) (Err (Ipc x)) old new) (sym m)
      (refused Memory beside tt kept (omega arith) (λ none. inl refl) (inr (inr (inr refl))))
  no_line e beside kept (inl (inr l)) = subst (λ x. Does (generated_task seed) (Err (Ipc x)) old new) (sym l)
      (refused TooLarge beside (inl (inr refl)) kept (omega arith) (λ none. inr (inl refl)) (inr (inl refl)))
  no_line e beside kept (inr h) = subst (λ x. Does (generated_task seed) (Err (Ipc x)) old new) (sym h.too_many.is)
      (refused (TooMany Dictionaries) beside (subst (RefusesLine seed) h.too_many.is (inr h)) kept (omega arith) (λ none. inr (inr refl)) (inl refl))

  -- a line was put, or it was refused
  pub line_put : (r : Result (Unit {0}) Refusal) (text : List ℕ) → StandsBeside old new → IsLineOf seed text → OnOk r (Appends old.written new.written text)
      → IfErr r (λ e. LineRefused e text old.written new.written old.output_faults new.output_faults) → Does (generated_task seed) r old new
  line_put (Ok done) text beside says added h = record {
    done = record { text = text; says = says; added = added };
    at_end = λ r. absurd (reads r);
    cause = tt;
    left = tt;
    untouched = tt;
    not_read = tt;
    complete = tt;
    statuses = tt;
    missing = λ m. absurd m;
    keeps = beside.held;
    unread = λ r. beside.rest;
    unopened = λ o. beside.shelf_faults;
  }
    where
      reads : false ≡ true → ⊥
      reads r = cc
  line_put (Err e) text beside says added (inl h) = subst (λ x. Does (generated_task seed) (Err x) old new) (sym h.0)
      (refused Memory beside tt h.1 (omega arith) (λ none. inl refl) (inr (inr (inr refl))))
  line_put (Err e) text beside says added (inr h) = subst (λ x. Does (generated_task seed) (Err x) old new) (sym h.0)
      (refused WriteFault beside h.1 (record { text = text; says = says; added = h.2 }) (omega arith) (λ none. absurd (no_fault h.1 none)) (inr (inr (inl refl))))
