-- What reading a file's record batches one after another, and printing each, comes to.
use Rattle.std.specs.Prelude.{◌≡◌, ℕ, ◌≤◌, List, [], ◌∷◌, ◌++◌, length, false, Option, None, Some, Result, Ok, Err, sum_by, ⊤}
use Rattle.std.specs.Rc.{rc_value}
use Rattle.arrow_spec.specs.declared.error.IpcError.{IpcError}
use Rattle.arrow_spec.specs.declared.error.IpcError.TheVariants as errors
use Rattle.arrow_spec.specs.Features.{chosen_floats}
use Rattle.arrow_spec.specs.Files.{Request, TableBatch, columns_right, to_read}
use Rattle.arrow_spec.specs.Kinds.{width}
use Rattle.arrow_spec.specs.Readings.{Refuses, refusals}
use Rattle.csv_texts.specs.Texts.{batches_text, header_text, are_nested, printed}
use Rattle.laws_walk.specs.Below.{IsRefusal, FileMetadata, MayProject, ProjectionInfo, meta_view, FileCursor, NotRead}
use Rattle.ipc_io.specs.Outside.{Rose}
use Rattle.laws_walk.specs.Places.{IsReadBy, Sending, Walked, fields_in_request, meta_in, place_of, walking}
use Rattle.laws_walk.specs.declared.summary.Summary.{Summary}
use Rattle.csv_rows.specs.Output.{HasPut}
use Rattle.ipc_csv.specs.Prints.{AddsPart, Prints}
use Rattle.csv_rows.specs.declared.output.TextOut.{TextOut}

-- ── what is printed ──

-- a reader reads a file of which nothing is nested
pub record IsPrintedBy (c : FileCursor) (x : Sending) : Type 0 where
  pub by : IsReadBy c x
  pub flat : are_nested (fields_in_request x) ≡ false

-- the text of the batches so far, behind the header
abbrev pub text_so_far : Sending → List TableBatch → List ℕ
text_so_far x bs = header_text (fields_in_request x) ++ batches_text (fields_in_request x) bs

-- the batches so far were read, and their text was put
pub record PrintedSoFar (x : Sending) (c : FileCursor) (o : TextOut) (now : Option (List ℕ)) (bs : List TableBatch) : Type 0 where
  pub text : HasPut x.start now o (text_so_far x bs)
  pub walked : Walked to_read (walking x) (place_of c) bs
  pub count : length bs ≡ c.block

-- what a refusal says of the bytes of a file, and what was added then
pub record FileRefused (e : IpcError) (b : List ℕ) (r : Request) (old new : Option (List ℕ)) : Type 0 where
  pub refused : Refuses e (refusals (printed b r None))
  pub part : AddsPart e b r old new

abbrev pub Refused : IpcError → Sending → Option (List ℕ) → Type 0
Refused e x new = FileRefused e x.bytes x.request x.start new

-- ── one batch ──

-- the next batch was read and printed
pub record PrintsOne (x : Sending) (c' : FileCursor) (o' : TextOut) (now' : Option (List ℕ)) (bs : List TableBatch) (rows : ℕ) : Type 0 where
  pub batch : TableBatch
  pub height : rows ≡ batch.rows
  pub so_far : PrintedSoFar x c' o' now' (bs ++ batch ∷ [])

-- it was, or there is none, or it is refused
abbrev pub PrintsNext : Result (Option ℕ) IpcError → Sending → FileCursor → TextOut → Option (List ℕ) → List TableBatch → Type 0
PrintsNext (Ok None) x c' o' now' bs = PrintedSoFar x c' o' now' bs × (length (meta_in x).blocks ≤ c'.block)
PrintsNext (Ok (Some rows)) x c' o' now' bs = PrintsOne x c' o' now' bs rows
PrintsNext (Err e) x c' o' now' bs = Refused e x now'

-- why printing is refused, whatever the source tells
abbrev pub CallCause : IpcError → ℕ → ℕ → ℕ → ℕ → Type 0
CallCause errors.ReadFault reads reads' writes writes' = Rose reads reads'
CallCause errors.WriteFault reads reads' writes writes' = Rose writes writes'
CallCause errors.TooLarge reads reads' writes writes' = ⊥
CallCause errors.SchemaMismatch reads reads' writes writes' = ⊥
CallCause (errors.DictionaryReplaced id) reads reads' writes writes' = ⊥
CallCause errors.NotRepresentable reads reads' writes writes' = ⊥
CallCause errors.State reads reads' writes writes' = ⊥
CallCause e reads reads' writes writes' = ⊤

-- ── all batches ──

-- so many batches of so many rows were printed
pub record PrintedRows (x : Sending) (c : FileCursor) (o : TextOut) (now : Option (List ℕ)) (batches rows : ℕ) : Type 0 where
  pub table : List TableBatch
  pub so_far : PrintedSoFar x c o now table
  pub batches_are : batches ≡ length table
  pub rows_are : rows ≡ sum_by (λ (b : TableBatch). b.rows) table

-- all were, or one is refused
abbrev pub PrintsAll : Result Summary IpcError → Sending → FileCursor → TextOut → Option (List ℕ) → Type 0
PrintsAll (Ok s) x c' o' now' = PrintedRows x c' o' now' s.batches s.rows × (length (meta_in x).blocks ≤ c'.block)
PrintsAll (Err e) x c' o' now' = Refused e x now'

-- ── a file ──

-- a reader of a file at its first block, of which nothing was printed yet
pub record IsUnprinted (c : FileCursor) (x : Sending) : Type 0 where
  pub by : IsPrintedBy c x
  pub block : c.block ≡ 0
  pub dictionaries : c.dictionaries ≡ NotRead
  pub left : c.left ≡ x.request.limit

-- a file was printed, or a part of it
abbrev pub PrintsFile : Result Summary IpcError → List ℕ → Request → Option (List ℕ) → Option (List ℕ) → Type 0
PrintsFile (Ok s) b r old new = Prints s b r old new
PrintsFile (Err e) b r old new = FileRefused e b r old new

-- columns of a file that are selected: each is one, none stands twice, and none is never read
pub record Selected (file : FileMetadata) (columns : Option (List ℕ)) (p : Option ProjectionInfo) : Type 0 where
  pub may : MayProject (rc_value file.schema) columns p
  pub right : columns_right columns (width (meta_view file).schema.fields) ≡ Ok tt
  pub readable : chosen_floats columns (meta_view file).schema.fields 0 ≡ []

-- why columns are not selected
pub data NotSelected (e : IpcError) (file : FileMetadata) (columns : Option (List ℕ)) : Type 0 where
  no_memory : e ≡ errors.Memory → NotSelected e file columns
  no_column : columns_right columns (width (meta_view file).schema.fields) ≡ Err (e ∷ []) → NotSelected e file columns
  never_read : columns_right columns (width (meta_view file).schema.fields) ≡ Ok tt → IsRefusal e
      → Refuses e (chosen_floats columns (meta_view file).schema.fields 0) → NotSelected e file columns
