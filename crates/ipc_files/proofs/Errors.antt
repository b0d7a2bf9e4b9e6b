-- An error that is handed on.
use Rattle.std.proofs.Common.{◌≡◌, ℕ, List, [], Result, Ok, Err, ap, arith, IfErr}
use Rattle.std.specs.Result.{IsErr, IsErrAnd}
use Rattle.arrow_spec.specs.declared.error.IpcError.{IpcError}
use Rattle.arrow_spec.specs.declared.error.IpcError.TheVariants as errors
use Rattle.arrow_spec.specs.Readings.{Reading, Refuses}
use Rattle.ipc_fields.specs.Causes.{Decodes}
use Rattle.ipc_files.specs.FileViews.{FileCause}
use Rattle.ipc_files.specs.RowCounts.{CountCause}

pub is_err : {X : Type 0} → (r : Result X IpcError) (e : IpcError) (P : IpcError → Type 0) → IsErr r → IsErrAnd r P → ((f : IpcError) → P f → f ≡ e) → r ≡ Err e
is_err (Ok x) e P h p k = cc
is_err (Err f) e P h p k = ap Err (k f p)

-- a refusal where nothing is refused is one of any refusals
pub none_refused : (e : IpcError) (es : List IpcError) → Refuses e [] → Refuses e es
none_refused errors.Memory es h = tt
none_refused errors.ReadFault es h = tt
none_refused errors.WriteFault es h = tt
none_refused e es h = absurd h

-- what only bytes or memory refuse is no fault of the source
pub bytes_cause : {X Y : Type 0} (view : X → Y) (r : Result X IpcError) (R : Reading Y) (n m : ℕ) → Decodes view r R → IfErr r (λ e. FileCause e n m)
bytes_cause view (Ok x) R n m h = tt
bytes_cause view (Err (errors.OutOfSpec kind)) R n m h = tt
bytes_cause view (Err (errors.Unsupported feature)) R n m h = tt
bytes_cause view (Err (errors.TooMany counted)) R n m h = tt
bytes_cause view (Err errors.TooDeep) R n m h = tt
bytes_cause view (Err errors.Memory) R n m h = tt
bytes_cause view (Err errors.ReadFault) R n m h = absurd h
bytes_cause view (Err errors.WriteFault) R n m h = absurd h
bytes_cause view (Err (errors.Projection index)) R n m h = absurd h
bytes_cause view (Err errors.TooLarge) R n m h = absurd h
bytes_cause view (Err errors.SchemaMismatch) R n m h = absurd h
bytes_cause view (Err (errors.DictionaryReplaced id)) R n m h = absurd h
bytes_cause view (Err errors.NotRepresentable) R n m h = absurd h
bytes_cause view (Err errors.State) R n m h = absurd h

-- why rows are not counted is a reason why metadata is refused
pub file_cause : (e : IpcError) (n m : ℕ) → CountCause e n m → FileCause e n m
file_cause e n m h = grind arith
