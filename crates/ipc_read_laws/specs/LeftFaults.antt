-- What is wrong with an array where nothing is with its buffers themselves.
use Rattle.std.specs.Prelude.{◌≡◌, List, [], Option, Some, None}
use Rattle.arrow_spec.specs.declared.error.IpcError.{IpcError}
use Rattle.arrow_spec.specs.declared.error.IpcError.TheVariants.{OutOfSpec}
use Rattle.arrow_spec.specs.declared.error.OutOfSpecKind.TheVariants as kinds
use Rattle.arrow_spec.specs.Readings.{IsAmong}
use Rattle.arrow_buffers.specs.declared.error.ArrayError.{ArrayError}
use Rattle.arrow_buffers.specs.declared.error.ArrayError.TheVariants.{Offsets, Utf8, View}

-- the fault that is found in the parts is one of the array, and where none is found the array has none
abbrev pub IsLeft : Option ArrayError → List IpcError → Type 0
IsLeft None es = es ≡ []
IsLeft (Some Offsets) es = IsAmong es (OutOfSpec kinds.InvalidOffsets)
IsLeft (Some Utf8) es = IsAmong es (OutOfSpec kinds.InvalidUtf8)
IsLeft (Some View) es = IsAmong es (OutOfSpec kinds.InvalidView)
IsLeft (Some e) es = ⊥
