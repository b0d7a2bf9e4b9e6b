-- What of types is not written.
use Rattle.std.specs.Prelude.{◌≡◌, List, [], Option, Some, None}
use Rattle.arrow_spec.specs.declared.error.Feature.{Feature}
use Rattle.arrow_spec.specs.declared.error.IpcError.{IpcError}
use Rattle.arrow_spec.specs.declared.error.IpcError.TheVariants.{Unsupported}
use Rattle.arrow_spec.specs.Readings.{IsAmong}

-- one of some refusals by a feature's name, or there is none
abbrev pub IsOneOf : Option Feature → List IpcError → Type 0
IsOneOf None es = es ≡ []
IsOneOf (Some feature) es = IsAmong es (Unsupported feature)
