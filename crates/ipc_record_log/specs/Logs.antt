-- A log on a disk: what it knows of the disk's bytes, and what its calls do to them.
use Rattle.std.specs.Prelude.{◌≡◌, ◌≢◌, ℕ, ◌+◌, ◌^◌, ◌<◌, ◌≤◌, List, [], ◌∷◌, length, take, get_or, All, Bool, false, Option, Some}
use Rattle.ipc_log_disk.specs.Crashes.{Images, SameImages, Among, Elapses}
use Rattle.ipc_record_log.specs.Records.{open_records, records_in, log_records}
use Rattle.arrow_spec.specs.declared.error.IpcError.{IpcError}
use Rattle.arrow_spec.specs.declared.error.IpcError.TheVariants.{OutOfSpec}
use Rattle.arrow_spec.specs.declared.error.OutOfSpecKind.TheVariants as kinds
use Rattle.ipc_record_log.specs.declared.span.Span.{Span}

-- the bytes are not those of a log
abbrev pub invalid_log : IpcError
invalid_log = OutOfSpec kinds.InvalidLog

-- a record passes the end of a disk that does not tell its bytes
abbrev pub truncated : IpcError
truncated = OutOfSpec kinds.Truncated

-- where the bytes of records stand, the gate of the first of them at a place
abbrev pub spans_from : ℕ → List (List ℕ) → List Span
spans_from at [] = []
spans_from at (bytes ∷ records) = record { at = at + 16; length = length bytes } ∷ spans_from (at + 16 + length bytes) records

-- bytes are a log's, whose last gate stands at a place
pub record IsLog (b : List ℕ) (spans : List Span) (end : ℕ) : Type 0 where
  pub front : take end b ≡ open_records (records_in b)
  pub gate : get_or b end 1 ≢ 1
  pub fit : All (λ bytes. length bytes < 2 ^ 64) (records_in b)
  pub spanned : spans ≡ spans_from 8 (records_in b)

-- a disk's bytes are, and all of them are on the disk
pub record IsSettled (images : Images) (b : List ℕ) (spans : List Span) (end : ℕ) : Type 0 where
  pub log : IsLog b spans end
  pub only : (c : List ℕ) → images c → c ≡ b

-- the same of a log that has not failed, where its disk tells its bytes
abbrev pub IsReady : Bool → Option (List ℕ) → Images → List Span → ℕ → Type 0
IsReady failed content images spans end = failed ≡ false → (b : List ℕ) → content ≡ Some b → IsSettled images b spans end

-- the disk's bytes are a log's with these records, and so is each image that a crash now may leave
pub record Holds (content : Option (List ℕ)) (images : Images) (records : List (List ℕ)) : Type 0 where
  pub b : List ℕ
  pub told : content ≡ Some b
  pub means : log_records b ≡ Some records
  pub durable : (c : List ℕ) → images c → log_records c ≡ Some records

-- a disk was read alone: it tells the same bytes and has the same images, and since the calls began it had no others
pub record OnlyReads {D : Type 0} (content_of : D → Option (List ℕ)) (images_of : D → Images) (moment_of : D → ℕ) (since_of : D → ℕ → Images) (faults_of wants_of : D → ℕ) (references_of : D → List ℕ) (d d' : D) : Type 0 where
  pub content : content_of d' ≡ content_of d
  pub images : SameImages (images_of d) (images_of d')
  pub since : Among (images_of d) (since_of d' (moment_of d))
  pub time : Elapses (moment_of d) (moment_of d') (since_of d) (since_of d')
  pub faults : faults_of d ≤ faults_of d'
  pub wants : wants_of d' ≡ wants_of d
  pub references : references_of d' ≡ references_of d
