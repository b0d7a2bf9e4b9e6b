-- Text on its way to a sink.
use Rattle.std.specs.Prelude.{◌≡◌, ℕ, List, [], ◌∷◌, ◌++◌, length, ⊤, Option, Some, Result, Ok, Err}
use Rattle.std.specs.Io.KnownBytes.{Appends}
use Rattle.arrow_spec.specs.declared.error.IpcError.{IpcError}
use Rattle.arrow_spec.specs.declared.error.IpcError.TheVariants as errors
use Rattle.arrow_arrays.specs.Batches.{Batch}
use Rattle.arrow_arrays.specs.Parts.{Parts}
use Rattle.arrow_types.specs.Schemas.{Keyed}
use Rattle.csv.specs.Writing.{default_writer, row_text}
use Rattle.csv_rows.specs.Shown.{shown_names, shown_rows}
use Rattle.csv_rows.specs.Writers.{IsAtRow, text_of}
use Rattle.ipc_io.specs.Outside.{AppendsPrefix, Rose}
use Rattle.csv_rows.specs.declared.output.TextOut.{TextOut}

-- it is at the start of a row
pub record IsReady (o : TextOut) : Type 0 where
  pub row : IsAtRow o.writer
  pub room : length o.room.items ≡ 65536

-- a text was written, of which a first part was put and the rest is held
pub record HasWritten (start now : Option (List ℕ)) (o : TextOut) (text : List ℕ) : Type 0 where
  pub put : List ℕ
  pub held : List ℕ
  pub all : text ≡ put ++ held
  pub added : Appends start now put
  pub kept : text_of o.writer ≡ Some held
  pub count : o.bytes ≡ length put

-- all of a text was put
pub record HasPut (start now : Option (List ℕ)) (o : TextOut) (text : List ℕ) : Type 0 where
  pub added : Appends start now text
  pub kept : text_of o.writer ≡ Some []
  pub count : o.bytes ≡ length text

-- a text was written, or a part of it was put
abbrev pub Writes : {X : Type 0} → Option (List ℕ) → Option (List ℕ) → TextOut → List ℕ → Result X IpcError → Type 0
Writes start now o text (Ok done) = HasWritten start now o text
Writes start now o text (Err e) = AppendsPrefix start now text

-- a text was put, or a part of it
abbrev pub Puts : {X : Type 0} → Option (List ℕ) → Option (List ℕ) → TextOut → List ℕ → Result X IpcError → Type 0
Puts start now o text (Ok done) = HasPut start now o text
Puts start now o text (Err e) = AppendsPrefix start now text

-- why text was not put: the sink failed, or memory was wanted
abbrev pub PutCause : IpcError → ℕ → ℕ → Type 0
PutCause errors.WriteFault faults faults' = Rose faults faults'
PutCause errors.Memory faults faults' = ⊤
PutCause e faults faults' = ⊥

-- the rows of the arrays of a batch, where there are any
abbrev pub rows_of : List Parts → ℕ → List ℕ
rows_of [] height = []
rows_of (p ∷ ps) height = shown_rows (p ∷ ps) 0 height

-- the row of the names of a schema's fields, where there are any
abbrev pub header_of : List Keyed → List ℕ
header_of [] = []
header_of (p ∷ ps) = row_text default_writer (shown_names (p ∷ ps))
