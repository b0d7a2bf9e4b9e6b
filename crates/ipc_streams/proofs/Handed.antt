-- Refusals that are handed on from one reading to the next.
use Rattle.std.proofs.Common.{ℕ, List, Result, Ok, Err, IfErr}
use Rattle.arrow_spec.specs.declared.error.IpcError.{IpcError}
use Rattle.arrow_spec.specs.declared.error.IpcError.TheVariants as errors
use Rattle.arrow_spec.specs.Readings.{Reading, bind, refusals}
use Rattle.ipc_fields.specs.Causes.{IsOfBytes, RefusesBytes}
use Rattle.ipc_fields.proofs.Steps.{none_refused}
use Rattle.ipc_files.specs.FileViews.{FileCause}

-- what bytes refuse first they refuse
pub bytes_first : {A B : Type 0} (e : IpcError) (r : Reading A) (f : A → Reading B) → RefusesBytes e (refusals r) → RefusesBytes e (refusals (bind r f))
unfolding bind
bytes_first e (Ok x) f h = none_refused e (refusals (f x)) h
bytes_first e (Err es) f h = h

-- what bytes refuse is no fault of a device
pub of_bytes : (e : IpcError) (n m : ℕ) → IsOfBytes e → FileCause e n m
of_bytes (errors.OutOfSpec x) n m h = tt
of_bytes (errors.Unsupported x) n m h = tt
of_bytes (errors.TooMany x) n m h = tt
of_bytes errors.TooDeep n m h = tt
of_bytes errors.Memory n m h = tt
of_bytes e n m h = absurd h

pub decoded_cause : (e : IpcError) (es : List IpcError) (n m : ℕ) → RefusesBytes e es → FileCause e n m
decoded_cause (errors.OutOfSpec x) es n m h = tt
decoded_cause (errors.Unsupported x) es n m h = tt
decoded_cause (errors.TooMany x) es n m h = tt
decoded_cause errors.TooDeep es n m h = tt
decoded_cause errors.Memory es n m h = tt
decoded_cause e es n m h = absurd h

pub of_bytes_in : {A : Type 0} (result : Result A IpcError) (n m : ℕ) → IfErr result IsOfBytes → IfErr result (λ e. FileCause e n m)
of_bytes_in (Ok x) n m h = tt
of_bytes_in (Err e) n m h = of_bytes e n m h
