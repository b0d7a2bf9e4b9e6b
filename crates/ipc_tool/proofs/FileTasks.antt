-- The answers of commands on one file.
use Rattle.std.proofs.Common.{◌≡◌, ◌<◌, ◌≤◌, ◌^◌, ℕ, List, length, true, false, Option, None, Some, Err, IsSomeAnd, option_map, inl, inr, refl, subst, ap, arith, length-append}
use Rattle.std.specs.Io.KnownBytes.{Consumes}
use Rattle.std.proofs.KnownBytes.{Keeps-refl}
use Rattle.arrow_spec.specs.declared.error.IpcError.{IpcError}
use Rattle.arrow_spec.specs.declared.error.IpcError.TheVariants as errors
use Rattle.arrow_spec.specs.Words.{bytes_of_hex}
use Rattle.ipc_io.specs.Outside.{Rose, Stands}
use Rattle.ipc_tool.specs.FileTasks.{FileJob, FileLeft, file_task, source_in}
use Rattle.ipc_tool.specs.Input.{HexCause, IsNoHex, TakesTooMany}
use Rattle.ipc_tool.specs.Outside.{Outside}
use Rattle.ipc_tool.specs.Refusal.{error_status, number_of}
use Rattle.ipc_tool.specs.Tasks.{CauseOf, Does}
use Rattle.ipc_tool.specs.declared.refusal.Refusal.{Refusal}
use Rattle.ipc_tool.specs.declared.refusal.Refusal.TheVariants.{Ipc, Words, NotHex, InputTooLong, NoName}

pub stood : (a b : ℕ) → Stands a b → Rose a b → ⊥
stood a b s r = omega (arith, s.same, s.below)

-- an error of the library has no status of the words, of the input or of a name
pub few : (e : IpcError) → error_status e ≤ 13
few errors.TooDeep = omega arith
few e = omega arith

-- ── the source was not had ──

-- text that is no hex stands for no bytes
no_bytes : (P : List ℕ → Type 0) (rest rest' : Option (List ℕ)) → IsNoHex rest rest' → IsSomeAnd (option_map bytes_of_hex rest) (λ bytes. IsSomeAnd bytes P) → ⊥
no_bytes P None rest' x h = h
no_bytes P (Some text) rest' x h = subst (λ bytes. IsSomeAnd bytes P) x.no_hex.1 h

-- a text that is too long stands for no bytes
too_long_none : (text : List ℕ) → 2 ^ 27 < length text → bytes_of_hex text ≡ None
unfolding bytes_of_hex
too_long_none text lt = grind (arith)

taken_long : (text taken : List ℕ) (new : Option (List ℕ)) → Consumes (Some text) new taken → 2 ^ 27 < length taken → 2 ^ 27 < length text
taken_long text taken None c lt = absurd c
taken_long text taken (Some ys) c lt = omega (arith, ap length c, length-append taken ys)

too_many : (P : List ℕ → Type 0) (rest rest' : Option (List ℕ)) → TakesTooMany rest rest' → IsSomeAnd (option_map bytes_of_hex rest) (λ bytes. IsSomeAnd bytes P) → ⊥
too_many P None rest' x h = h
too_many P (Some text) rest' x h = subst (λ bytes. IsSomeAnd bytes P) (too_long_none text (taken_long text x.0 rest' x.1 x.2)) h

module _ (job : FileJob) (old : Outside) (rest' : Option (List ℕ)) (faults' : ℕ) where
  abbrev behind_input : Outside
  behind_input = record old { rest = rest'; input_faults = faults' }

  -- a refusal with its cause, which added nothing
  no_input : (e : Refusal) → CauseOf (file_task job None) e old behind_input → FileLeft job None e old behind_input → (IsSomeAnd (source_in None old) (λ bytes. IsSomeAnd bytes job.must) → Stands old.input_faults faults' → e ≡ Ipc errors.Memory) → 11 ≤ number_of e
      → Does (file_task job None) (Err e) old behind_input
  no_input e cause left small status = record {
    done = tt;
    at_end = tt;
    cause = cause;
    left = left;
    untouched = λ h. Keeps-refl old.written;
    not_read = λ h r. Keeps-refl old.written;
    complete = λ m n. inl (small m n.input);
    statuses = inr status;
    missing = λ h. absurd h;
    keeps = refl;
    unread = λ h. absurd (never h);
    unopened = λ h. refl;
  }
    where
      never : true ≡ false → ⊥
      never h = cc

  -- the input gives no bytes
  pub input_refused : (e : Refusal) → HexCause e old.rest rest' old.input_faults faults' → Does (file_task job None) (Err e) old behind_input
  input_refused (Ipc errors.ReadFault) h = no_input (Ipc errors.ReadFault) h (inl (record { is = inl refl; kept = Keeps-refl old.written })) (λ m s. absurd (stood _ _ s h)) (omega arith)
  input_refused (Ipc errors.Memory) h = no_input (Ipc errors.Memory) tt (inl (record { is = inr refl; kept = Keeps-refl old.written })) (λ m s. refl) (omega arith)
  input_refused NotHex h = no_input NotHex (refl, h) (Keeps-refl old.written) (λ m s. absurd (no_bytes job.must old.rest rest' h m)) (omega arith)
  input_refused InputTooLong h = no_input InputTooLong (refl, h) (Keeps-refl old.written) (λ m s. absurd (too_many job.must old.rest rest' h m)) (omega arith)
  input_refused (Ipc e) h = absurd h
  input_refused Words h = absurd h
  input_refused NoName h = absurd h
