-- What is known of a log's records behind some that were read.
use Rattle.std.specs.Prelude.{◌≡◌, ◌⊎◌, ℕ, ◌<◌, List, [], ◌∷◌, slice_get, Option, Some}
use Rattle.arrow_spec.specs.declared.error.IpcError.{IpcError}
use Rattle.arrow_spec.specs.declared.error.IpcError.TheVariants as errors
use Rattle.arrow_spec.specs.declared.error.IpcError.TheVariants.{Memory, ReadFault}
use Rattle.arrow_spec.specs.Files.{ArrowTable, TableBatch}
use Rattle.arrow_spec.specs.Kinds.{Fields}
use Rattle.ipc_io.specs.Outside.{Rose}
use Rattle.ipc_record_log.specs.Logs.{invalid_log}
use Rattle.ipc_record_log.specs.Records.{records_in}
use Rattle.laws_logs.specs.Tables.{IsRecordOf, MeansLog}

-- a record of one batch of these fields
abbrev pub IsOne : Fields → List ℕ → Type 0
IsOne fields r = (x : TableBatch) × IsRecordOf fields (x ∷ []) r

-- the first record has these fields and no batch
abbrev pub IsFirst : Option (List ℕ) → Fields → Type 0
IsFirst content fields = (b r : List ℕ) → content ≡ Some b → slice_get (records_in b) 0 ≡ Some r → IsRecordOf fields [] r

-- the later ones below a number have one batch of these fields each
abbrev pub AreOnes : Option (List ℕ) → Fields → ℕ → Type 0
AreOnes content fields n = (b r : List ℕ) (k : ℕ) → content ≡ Some b → 0 < k → k < n → slice_get (records_in b) k ≡ Some r → IsOne fields r

-- the bytes that are told mean no table
abbrev pub IsNoLog : Option (List ℕ) → Type 0
IsNoLog content = (b : List ℕ) (t : ArrowTable) → content ≡ Some b → MeansLog b t → ⊥

-- why records are refused: memory was wanted, a read failed, or they are none of a log's
abbrev pub RefusesLog : IpcError → Option (List ℕ) → ℕ → ℕ → Type 0
RefusesLog e content faults faults' = (e ≡ Memory) ⊎ (((e ≡ ReadFault) × Rose faults faults') ⊎ ((e ≡ invalid_log) × IsNoLog content))

-- what is told of a record that is not read
abbrev pub of_log : IpcError → IpcError
of_log (errors.OutOfSpec kind) = invalid_log
of_log e = e
