-- What bytes in memory say, or why they are refused: no device is asked.
use Rattle.std.specs.Prelude.{◌≡◌, ⊤, List, Result, Ok, Err}
use Rattle.arrow_spec.specs.declared.error.IpcError.{IpcError}
use Rattle.arrow_spec.specs.declared.error.IpcError.TheVariants as errors
use Rattle.arrow_spec.specs.Readings.{Reading, IsAmong, refusals}

-- one of these refusals, or want of memory
abbrev pub RefusesBytes : IpcError → List IpcError → Type 0
RefusesBytes errors.Memory es = Unit {0}
RefusesBytes (errors.OutOfSpec kind) es = IsAmong es (errors.OutOfSpec kind)
RefusesBytes (errors.Unsupported feature) es = IsAmong es (errors.Unsupported feature)
RefusesBytes (errors.TooMany counted) es = IsAmong es (errors.TooMany counted)
RefusesBytes errors.TooDeep es = IsAmong es errors.TooDeep
RefusesBytes e es = ⊥

-- a call gives what a reading says: the value, seen by view, or one of its refusals
abbrev pub Decodes : {X Y : Type 0} → (X → Y) → Result X IpcError → Reading Y → Type 0
Decodes view (Ok x) read = read ≡ Ok (view x)
Decodes view (Err e) read = RefusesBytes e (refusals read)

-- what the bytes say, or want of memory
abbrev pub IsOfBytes : IpcError → Type 0
IsOfBytes (errors.OutOfSpec kind) = ⊤
IsOfBytes (errors.Unsupported feature) = ⊤
IsOfBytes (errors.TooMany counted) = ⊤
IsOfBytes errors.TooDeep = ⊤
IsOfBytes errors.Memory = ⊤
IsOfBytes e = ⊥
