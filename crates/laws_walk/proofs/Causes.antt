-- Why columns and what is read are refused.
use Rattle.std.proofs.Common.{◌≡◌, inl, inr, ◌⊎◌, ℕ, List, [], ◌∷◌, Bool, true, false, Option, Some, None, Err}
use Rattle.std.specs.Prelude.{nat_lt, not, ◌&&◌}
use Rattle.arrow_spec.specs.declared.error.IpcError.{IpcError}
use Rattle.arrow_spec.specs.declared.error.IpcError.TheVariants as errors
use Rattle.arrow_spec.specs.Columns.{stands_in}
use Rattle.arrow_spec.specs.Files.{columns_right, wrong_columns}
use Rattle.arrow_spec.specs.Readings.{◌>>=◌, Reading, bind, unless}
use Rattle.ipc_reader.specs.Below.{FileCause}
use Rattle.laws_walk.specs.Sends.{IsOfSink}

-- what is read is refused for no sink
pub never_of_sink : (e : IpcError) (faults faults' : ℕ) → FileCause e faults faults' → IsOfSink e → ⊥
never_of_sink errors.WriteFault faults faults' h z = h
never_of_sink e faults faults' h z = z

-- only a number that is asked for is refused
wrong_step : (t : Bool) (c : ℕ) (r : Reading (Unit {0})) (e : IpcError) → (unless t (errors.Projection c) >>= λ right. r) ≡ Err (e ∷ []) → (r ≡ Err (e ∷ [])) ⊎ (e ≡ errors.Projection c)
unfolding bind
wrong_step true c r e h = inl h
wrong_step false c r e h = inr cc

wrong_index : (count : ℕ) (earlier cs : List ℕ) (e : IpcError) → wrong_columns count earlier cs ≡ Err (e ∷ []) → (i : ℕ) × (e ≡ errors.Projection i)
wrong_index count earlier [] e h = cc
wrong_index count earlier (c ∷ cs) e h = elim (wrong_step (nat_lt c count && not (stands_in earlier c)) c (wrong_columns count (c ∷ earlier) cs) e h) [ inl k ↦ wrong_index count (c ∷ earlier) cs e k | inr k ↦ (c, k) ]

pub wrong_is : (columns : Option (List ℕ)) (count : ℕ) (e : IpcError) → columns_right columns count ≡ Err (e ∷ []) → (i : ℕ) × (e ≡ errors.Projection i)
wrong_is None count e h = cc
wrong_is (Some cs) count e h = wrong_index count [] cs e h
