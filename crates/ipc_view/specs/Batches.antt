-- Record batches and dictionary messages whose bodies are lent. (Arrow Columnar Format, "RecordBatch message", "Dictionary Messages".)
use Rattle.std.specs.Prelude.{◌≡◌, ℕ, List, [], ◌∷◌, ◌++◌, map, Bool, true, false, Option, Some, None, Result, Ok, IfOk, IfErr}
use Rattle.std.specs.declared.alloc.Global.{Global}
use Rattle.std.specs.declared.vec.Vec.{Vec}
use Rattle.arrow_spec.specs.declared.error.IpcError.{IpcError}
use Rattle.arrow_spec.specs.Readings.{Gives, Reading, Refuses, refusals}
use Rattle.arrow_spec.specs.Kinds.{Kind, Fields}
use Rattle.arrow_spec.specs.Counts.{first_place}
use Rattle.arrow_spec.specs.Arrays.{Dictionaries, HeldDictionary}
use Rattle.arrow_spec.specs.Columns.{columns_at}
use Rattle.arrow_spec.specs.Faults.{column_faults}
use Rattle.arrow_spec.specs.Files.{TableBatch}
use Rattle.view_types.specs.Views.{View, cells_in}
use Rattle.ipc_view.specs.declared.batch.BatchTables.{BatchTables}
use Rattle.ipc_view.specs.declared.batch.ArrayPlace.{ArrayPlace}
use Rattle.ipc_view.specs.Answers.{Answers}
use Rattle.ipc_view.specs.Built.{batch_of, place_of}
use Rattle.ipc_view.specs.Dictionaries.{Shown, ShowsCells, shown_in}
use Rattle.ipc_view.specs.Nested.{IsSeen}

-- the view of a column of so many rows, and the place behind it
abbrev pub ColumnSeen : BatchTables → Result (View × ArrayPlace) IpcError → Kind → ArrayPlace → ℕ → Type 0
ColumnSeen t result k p rows = (d : Dictionaries) → ShowsCells d (shown_in t.dictionaries.now) → Answers result (column_faults (batch_of t) d k (place_of p) rows rows) (λ x. IsSeen (batch_of t) d k (place_of p) rows x.0 (place_of x.1))

-- views of all columns have their cells
abbrev pub ColumnsSeen : BatchTables → Result (Vec View Global) IpcError → Fields → ℕ → Type 0
ColumnsSeen t result fs rows = (d : Dictionaries) → ShowsCells d (shown_in t.dictionaries.now) → Gives (λ v. map cells_in v.items) result (columns_at (batch_of t) d None fs 0 first_place rows rows)

-- so many rows and the views of the columns as a table has them, without pairs
abbrev pub table_seen : ℕ × Vec View Global → TableBatch
table_seen r = record { rows = r.0; columns = map cells_in r.1.items; custom = [] }

-- parts with one more behind them; a delta's stand behind those before it, and another dictionary's behind none
abbrev pub views_before : Bool → Option (List View) → View → List View
views_before false old v = v ∷ []
views_before true None v = v ∷ []
views_before true (Some vs) v = vs ++ v ∷ []

-- what is shown behind a call is what it was read to be, or the call answers a refusal of it
pub record AddsViews (d : Dictionaries) (h : Shown) (result : Result (Unit {0}) IpcError) (read : Reading HeldDictionary) : Type 0 where
  pub ok : IfOk result (λ _. (x : HeldDictionary) × (read ≡ Ok x) × ShowsCells (x ∷ d) h)
  pub err : IfErr result (λ e. Refuses e (refusals read))
