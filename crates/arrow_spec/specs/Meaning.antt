-- What a file means under a request, and what may refuse it.
use Rattle.std.specs.Prelude.{ℕ, List, Option, None}
use Rattle.arrow_spec.specs.declared.error.IpcError.{IpcError}
use Rattle.arrow_spec.specs.Readings.{IsAmong, meaning, refusals}
use Rattle.arrow_spec.specs.Files.{ArrowTable, Request, file_reading, to_read, to_send}

-- what a file means
unfoldable pub file_table : List ℕ → Request → Option ArrowTable
file_table b r = meaning (file_reading to_read b r None)

-- a refusal that may be answered where a file is to be sent as a stream
abbrev pub may : List ℕ → Request → IpcError → Type 0
may b r e = IsAmong (refusals (file_reading to_send b r None)) e
