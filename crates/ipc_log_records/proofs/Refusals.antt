-- Why bytes are no record of a log.
use Rattle.std.proofs.Common.{◌≡◌, ◌⊎◌, ℕ, List, length, Ok, refl, sym, ◌∙◌, subst, inl, inr}
use Rattle.arrow_spec.specs.declared.error.IpcError.{IpcError}
use Rattle.arrow_spec.specs.declared.error.IpcError.TheVariants as errors
use Rattle.arrow_spec.specs.Readings.{IsAmong, Reading, refusals}
use Rattle.arrow_spec.specs.Streams.{behind_messages, closed, end_mark}
use Rattle.ipc_fields.specs.Causes.{RefusesBytes}
use Rattle.ipc_record_log.specs.Logs.{invalid_log}
use Rattle.laws_logs.specs.Tables.{dictionaries_from}
use Rattle.ipc_log_records.specs.Passes.{told_as}

-- bytes are no closed stream whose dictionaries are counted
abbrev pub NoRecord : List ℕ → Type 0
NoRecord b = (n : ℕ) → closed b → dictionaries_from (length b) b ≡ Ok n → ⊥

abbrev pub Told : List ℕ → IpcError → Type 0
Told b e = (e ≡ errors.Memory) ⊎ ((e ≡ invalid_log) × NoRecord b)

not_counted : (b : List ℕ) (e : IpcError) → IsAmong (refusals (dictionaries_from (length b) b)) e → NoRecord b
not_counted b e h n whole counted = subst (λ (R : Reading ℕ). IsAmong (refusals R) e) counted h

pub told_why : (b : List ℕ) (e : IpcError) → RefusesBytes e (refusals (dictionaries_from (length b) b)) → Told b (told_as e)
told_why b errors.Memory h = inl refl
told_why b (errors.OutOfSpec kind) h = inr (refl, not_counted b (errors.OutOfSpec kind) h)
told_why b (errors.Unsupported feature) h = inr (refl, not_counted b (errors.Unsupported feature) h)
told_why b (errors.TooMany counted) h = inr (refl, not_counted b (errors.TooMany counted) h)
told_why b errors.TooDeep h = inr (refl, not_counted b errors.TooDeep h)
told_why b (errors.Projection index) h = absurd h
told_why b errors.TooLarge h = absurd h
told_why b errors.SchemaMismatch h = absurd h
told_why b (errors.DictionaryReplaced id) h = absurd h
told_why b errors.NotRepresentable h = absurd h
told_why b errors.State h = absurd h
told_why b errors.ReadFault h = absurd h
told_why b errors.WriteFault h = absurd h

-- another end than the mark
pub other_end : (b rest : List ℕ) → behind_messages (length b) b ≡ Ok rest → (rest ≡ end_mark → ⊥) → NoRecord b
other_end b rest is never n whole counted = never (let same : Ok rest ≡ Ok end_mark = sym is ∙ whole in cc)
