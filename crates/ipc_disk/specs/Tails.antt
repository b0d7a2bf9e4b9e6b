-- The tail of a disk, and a disk that is cut.
use Rattle.std.specs.Prelude.{◌≡◌, ◌⊎◌, ℕ, ◌+◌, ◌-◌, List, ◌++◌, take, Result, Ok, Err}
use Rattle.arrow_spec.specs.Layout.{up_to, zeros}
use Rattle.arrow_spec.specs.declared.error.IpcError.{IpcError}
use Rattle.arrow_spec.specs.declared.error.IpcError.TheVariants.{WriteFault, Memory}
use Rattle.ipc_io.specs.Outside.{Rose}
use Rattle.ipc_io.specs.declared.outside.PutError.{PutError}

-- where the tail begins behind a put of n bytes
abbrev pub end_behind : ℕ → Result (Unit {0}) PutError → ℕ → ℕ
end_behind end (Ok done) n = end + n
end_behind end (Err e) n = end

-- the first n bytes, and zeros up to a multiple of 8
abbrev pub cut_and_padded : ℕ → List ℕ → List ℕ
cut_and_padded n b = take n b ++ zeros (up_to 8 n - n)

-- a disk's change failed where its faults rose, or wanted memory where its wants rose
abbrev pub IsOfDisk : IpcError → ℕ → ℕ → ℕ → ℕ → Type 0
IsOfDisk error faults faults' wants wants' = ((error ≡ WriteFault) × Rose faults faults') ⊎ ((error ≡ Memory) × Rose wants wants')
