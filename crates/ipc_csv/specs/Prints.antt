-- What printing a file adds to a sink, and when it is refused.
use Rattle.std.specs.Prelude.{◌≡◌, ◌⊎◌, ℕ, suc, List, length, ⊤, Option, None, Some, Ok, IfSome}
use Rattle.std.specs.Io.KnownBytes.{Appends, Keeps}
use Rattle.arrow_spec.specs.declared.error.IpcError.{IpcError}
use Rattle.arrow_spec.specs.declared.error.IpcError.TheVariants as errors
use Rattle.arrow_spec.specs.Files.{ArrowTable, Request}
use Rattle.arrow_spec.specs.Meaning.{file_table}
use Rattle.arrow_spec.specs.Readings.{IsAmong, Refuses, refusals}
use Rattle.ipc_io.specs.Outside.{AppendsPrefix, Rose}
use Rattle.laws_walk.specs.Summaries.{IsSummary}
use Rattle.laws_walk.specs.declared.summary.Summary.{Summary}
use Rattle.csv_texts.specs.Texts.{printable, printed, table_text}

-- The text of a file's table under a request was added.
pub record AddsTable (b : List ℕ) (r : Request) (old new : Option (List ℕ)) : Type 0 where
  pub table : ArrowTable
  pub means : file_table b r ≡ Some table
  pub flat : printable b r ≡ Ok tt
  pub added : Appends old new (table_text table)

-- A file was printed: so many batches, rows and bytes.
pub record Prints (s : Summary) (b : List ℕ) (r : Request) (old new : Option (List ℕ)) : Type 0 where
  pub text : AddsTable b r old new
  pub summary : IsSummary s text.table (table_text text.table)

-- The text of the table of a file's first blocks was added.
pub record AddsRows (b : List ℕ) (r : Request) (old new : Option (List ℕ)) : Type 0 where
  pub table : ArrowTable
  pub means : printed b r (Some (length table.batches)) ≡ Ok table
  pub added : Appends old new (table_text table)

-- A part of such a text was added, from its front.
pub record AddsRowsInPart (b : List ℕ) (r : Request) (old new : Option (List ℕ)) : Type 0 where
  pub table : ArrowTable
  pub means : printed b r (Some (length table.batches)) ≡ Ok table
  pub added : AppendsPrefix old new (table_text table)

-- the file's first n blocks and the one behind them are refused so
abbrev pub StopsBehind : List ℕ → Request → ℕ → IpcError → Type 0
StopsBehind b r n e = Refuses e (refusals (printed b r (Some (suc n))))

-- What a refused printing added: nothing, or the header and the rows of the blocks before the one that was refused. After a put that failed, and for want of
-- memory, a part of such a text.
abbrev pub AddsPart : IpcError → List ℕ → Request → Option (List ℕ) → Option (List ℕ) → Type 0
AddsPart errors.WriteFault b r old new = AddsRowsInPart b r old new
AddsPart errors.Memory b r old new = Keeps old new ⊎ AddsRowsInPart b r old new
AddsPart e b r old new = Keeps old new ⊎ ((rows : AddsRows b r old new) × StopsBehind b r (length rows.table.batches) e)

-- why printing is refused: by what the bytes mean where they are told, or by a count
abbrev pub PrintCause : IpcError → Option (List ℕ) → Request → ℕ → ℕ → ℕ → ℕ → Type 0
PrintCause errors.ReadFault content r reads reads' writes writes' = Rose reads reads'
PrintCause errors.WriteFault content r reads reads' writes writes' = Rose writes writes'
PrintCause errors.Memory content r reads reads' writes writes' = ⊤
PrintCause errors.TooLarge content r reads reads' writes writes' = ⊥
PrintCause errors.SchemaMismatch content r reads reads' writes writes' = ⊥
PrintCause (errors.DictionaryReplaced id) content r reads reads' writes writes' = ⊥
PrintCause errors.NotRepresentable content r reads reads' writes writes' = ⊥
PrintCause errors.State content r reads reads' writes writes' = ⊥
PrintCause e content r reads reads' writes writes' = IfSome content (λ b. IsAmong (refusals (printed b r None)) e)
