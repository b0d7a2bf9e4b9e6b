-- The log on a disk, as it is opened and put.
use Rattle.std.proofs.Common.{◌≡◌, ◌∙◌, ◌⊎◌, inl, inr, ℕ, ◌≤◌, List, Option, Some, None, Result, Ok, Err, IfErr, IfSome, refl, sym, subst, arith}
use Rattle.std.specs.Prelude.{OnOk}
use Rattle.std.specs.Io.KnownBytes.{Keeps}
use Rattle.arrow_spec.specs.declared.error.IpcError.{IpcError}
use Rattle.arrow_spec.specs.declared.error.IpcError.TheVariants as errors
use Rattle.arrow_spec.specs.Files.{ArrowTable}
use Rattle.arrow_types.specs.Schemas.{Keyed}
use Rattle.ipc_io.specs.Outside.{Rose, Stands}
use Rattle.ipc_log_disk.specs.Below.{IsOfDisk}
use Rattle.ipc_log_disk.specs.Crashes.{Images}
use Rattle.ipc_record_log.specs.Logs.{invalid_log}
use Rattle.laws_logs.specs.Tables.{MeansLog}
use Rattle.ipc_tablelog.specs.Opened.{IsNoLog}
use Rattle.ipc_tablelog.specs.TableLogs.{IsTableOf, KeepsTable}
use Rattle.ipc_log_streams.specs.Streams.{AddsPart, IsOfOpening, IsReadable, IsSmallRefusal, KeepsBytes, PutCause}
use Rattle.ipc_log_streams.proofs.Ending.{small}
use Rattle.ipc_log_streams.proofs.Putting.{cause_before}

-- ── opened ──

module _ (content content' : Option (List ℕ)) (images : Images) (s : List Keyed) (opened : (b : List ℕ) → content ≡ Some b → (t : ArrowTable) × MeansLog b t × KeepsTable content' images s t) (same : content' ≡ content) where
  at : (Q : List ℕ → Type 0) → ((t : ArrowTable) (h : IsTableOf content' s t) → Q h.b) → (b : List ℕ) → content ≡ Some b → Q b
  at Q k b told =
      let o = opened b told in
      let is : o.2.table.b ≡ b = let both : Some o.2.table.b ≡ Some b = sym o.2.table.told ∙ same ∙ told in cc in
      subst Q is (k o.0 o.2.table)

  if_told : (o : Option (List ℕ)) → content ≡ o → (Q : List ℕ → Type 0) → ((t : ArrowTable) (h : IsTableOf content' s t) → Q h.b) → IfSome o Q
  if_told None is Q k = tt
  if_told (Some b) is Q k = at Q k b is

  -- what is said of the log's table is said of the bytes that are told
  pub whole_so : (r : Result (Unit {0}) IpcError) (Q : List ℕ → Type 0) → OnOk r ((t : ArrowTable) (h : IsTableOf content' s t) → Q h.b) → OnOk r (IfSome content Q)
  whole_so (Ok u) Q k = if_told content refl Q k
  whole_so (Err e) Q k = tt

  pub part_so : (r : Result (Unit {0}) IpcError) (Q : IpcError → List ℕ → Type 0) → IfErr r (λ e. (t : ArrowTable) (h : IsTableOf content' s t) → Q e h.b) → IfErr r (λ e. IfSome content (Q e))
  part_so (Ok u) Q k = tt
  part_so (Err e) Q k = if_told content refl (Q e) k

pub cause_so : (r : Result (Unit {0}) IpcError) (reads reads' from writes writes' : ℕ) → reads ≤ from → IfErr r (λ e. PutCause e from reads' writes writes') → IfErr r (λ e. PutCause e reads reads' writes writes')
cause_so (Ok u) reads reads' from writes writes' later c = tt
cause_so (Err e) reads reads' from writes writes' later c = cause_before e reads reads' from writes writes writes' later (omega arith) c

pub complete_so : (r : Result (Unit {0}) IpcError) (content : Option (List ℕ)) (text : List ℕ → List ℕ) (old new : Option (List ℕ)) (wants wants' reads reads' writes writes' : ℕ) → IfErr r (λ e. IfSome content (λ b. AddsPart e b text old new wants wants')) → IfErr r (λ e. PutCause e reads reads' writes writes')
    → IfSome content (λ b. IsReadable b → Stands reads reads' → Stands writes writes' → IfErr r IsSmallRefusal)
complete_so r None text old new wants wants' reads reads' writes writes' part cause = tt
complete_so (Ok u) (Some b) text old new wants wants' reads reads' writes writes' part cause = λ readable still stands. tt
complete_so (Err e) (Some b) text old new wants wants' reads reads' writes writes' part cause = λ readable still stands. small e reads reads' writes writes' cause still stands b text old new wants wants' readable part

pub keeps_so : (r : Result (Unit {0}) IpcError) (old new : Option (List ℕ)) (faults faults' wants wants' : ℕ) → new ≡ old → KeepsBytes r old new faults faults' wants wants'
keeps_so (Ok u) old new faults faults' wants wants' is = is
keeps_so (Err e) old new faults faults' wants wants' is = inr is

-- ── not opened ──

abbrev OpenCause : IpcError → Option (List ℕ) → ℕ → ℕ → ℕ → ℕ → Type 0
OpenCause e content faults faults' wants wants' = (e ≡ errors.Memory) ⊎ (IsOfDisk e faults faults' wants wants' ⊎ (((e ≡ errors.ReadFault) × Rose faults faults') ⊎ ((e ≡ invalid_log) × IsNoLog content)))

pub not_opened : (e : IpcError) (content : Option (List ℕ)) (faults faults' wants wants' : ℕ) (text : List ℕ → List ℕ) (old new : Option (List ℕ)) (room room' : ℕ) → Keeps old new → OpenCause e content faults faults' wants wants' → IfSome content (λ b. AddsPart e b text old new room room')
not_opened e None faults faults' wants wants' text old new room room' kept h = tt
not_opened e (Some b) faults faults' wants wants' text old new room room' kept (inl memory) = AddsPart.by_device (subst IsOfOpening (sym memory) tt) kept
not_opened e (Some b) faults faults' wants wants' text old new room room' kept (inr (inl (inl fault))) = AddsPart.by_device (subst IsOfOpening (sym fault.0) tt) kept
not_opened e (Some b) faults faults' wants wants' text old new room room' kept (inr (inl (inr want))) = AddsPart.by_device (subst IsOfOpening (sym want.0) tt) kept
not_opened e (Some b) faults faults' wants wants' text old new room room' kept (inr (inr (inl fault))) = AddsPart.by_device (subst IsOfOpening (sym fault.0) tt) kept
not_opened e (Some b) faults faults' wants wants' text old new room room' kept (inr (inr (inr none))) = AddsPart.no_log none.0 (λ t m. none.1 b t refl m) kept

pub open_cause : (e : IpcError) (content : Option (List ℕ)) (faults faults' wants wants' writes writes' : ℕ) → OpenCause e content faults faults' wants wants' → PutCause e faults faults' writes writes'
open_cause e content faults faults' wants wants' writes writes' (inl memory) = subst (λ f. PutCause f faults faults' writes writes') (sym memory) tt
open_cause e content faults faults' wants wants' writes writes' (inr (inl (inl fault))) = subst (λ f. PutCause f faults faults' writes writes') (sym fault.0) (inl fault.1)
open_cause e content faults faults' wants wants' writes writes' (inr (inl (inr want))) = subst (λ f. PutCause f faults faults' writes writes') (sym want.0) tt
open_cause e content faults faults' wants wants' writes writes' (inr (inr (inl fault))) = subst (λ f. PutCause f faults faults' writes writes') (sym fault.0) fault.1
open_cause e content faults faults' wants wants' writes writes' (inr (inr (inr none))) = subst (λ f. PutCause f faults faults' writes writes') (sym none.0) tt
