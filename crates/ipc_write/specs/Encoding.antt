-- Columns that are added one behind another.
use Rattle.std.specs.Prelude.{◌≡◌, ℕ, ◌^◌, ◌<◌, List, [], ◌∷◌, length, map, ⊤, Option, Some, None, Result, Ok, Err, true, false, pos}
use Rattle.std.specs.List.{AllByRecursion}
use Rattle.arrow_spec.specs.declared.error.IpcError.{IpcError}
use Rattle.arrow_spec.specs.declared.error.IpcError.TheVariants as errors
use Rattle.arrow_spec.specs.Flat.{little}
use Rattle.arrow_spec.specs.Kinds.{Kind, Fields, none, field}
use Rattle.arrow_spec.specs.Arrays.{Dictionaries}
use Rattle.arrow_spec.specs.Layout.{layout}
use Rattle.arrow_spec.specs.WrittenSchemas.{CustomMayBeWritten}
use Rattle.arrow_arrays.specs.Batches.{Batch}
use Rattle.arrow_arrays.specs.Parts.{Parts, cells_in, fault_each, forest, kind_in, rows_in}
use Rattle.ipc_write_arrays.specs.Below.{WrittenColumn, Means}
use Rattle.ipc_write_arrays.specs.Dictionaries.{is_alike, first_kind, other_fields, HoldsValuesAt}
use Rattle.ipc_write_arrays.specs.Pieces.{with_kind}
use Rattle.ipc_write_arrays.specs.Outputs.{Outputs, outputs, written_behind}
use Rattle.ipc_write.specs.Batches.{columns_written, columns_pieces, batch_message, batch_body, is_within, top_column}
use Rattle.ipc_write.specs.Compaction.{top}
use Rattle.ipc_write.specs.Planned.{NodesFit}
use Rattle.ipc_write.specs.declared.encoded.BodyPlan.{BodyPlan}

-- nothing
abbrev pub no_outputs : Outputs
no_outputs = outputs [] [] []

-- columns behind others
abbrev pub added : List Parts → Outputs → Outputs
added [] before = before
added (p ∷ ps) before = added ps (written_behind little (top p) before)

-- columns alone
abbrev pub all_outputs : List Parts → Outputs
all_outputs ps = outputs (columns_written ps).nodes (columns_pieces ps) (map pos (columns_written ps).views)

-- an array in place of a top column, where it is another
abbrev pub IsTop : Parts → Option Parts → Type 0
IsTop p None = top p ≡ p
IsTop p (Some q) = (q ≡ top p) × (rows_in q < 2 ^ 63)

-- what a top column is written as means the cells of its array under each kind that is alike to the array's, where the values of its dictionaries were read under that kind's ids
pub record TopMeans (rows : ℕ) (p : Parts) : Type 0 where
  pub means : (k : Kind) (d : Dictionaries) → is_alike (kind_in p) k ≡ true → HoldsValuesAt d k p → Means little d rows (with_kind k (top_column p))
  pub cells : cells_in (top p) ≡ cells_in p

-- the same of each of several
abbrev pub AllMean : ℕ → List Parts → Type 0
AllMean rows ps = AllByRecursion (λ p. TopMeans rows p) ps

-- a batch's arrays are sound, and its pairs are texts that ascend by their keys
pub record IsWhole (b : Batch) : Type 0 where
  pub sound : fault_each (forest b.arrays) ≡ None
  pub custom : CustomMayBeWritten b.custom

-- a batch's message means its cells, under any ids of dictionaries under which their values were read, and can say its nodes
pub record MayBeBatch (b : Batch) : Type 0 where
  pub means : AllMean b.height b.arrays
  pub nodes : NodesFit (columns_written b.arrays)
  pub whole : IsWhole b

-- top columns under the kinds of fields, one by one
abbrev pub columns_under : Fields → List Parts → List WrittenColumn
columns_under fs [] = []
columns_under fs (p ∷ ps) = with_kind (first_kind fs) (top_column p) ∷ columns_under (other_fields fs) ps

-- the fields are of kinds that are alike to those of arrays, one by one
abbrev pub AreAlike : Fields → List Parts → Type 0
AreAlike none [] = Unit {0}
AreAlike none (p ∷ ps) = ⊥
AreAlike (field name nullable metadata k others) [] = ⊥
AreAlike (field name nullable metadata k others) (p ∷ ps) = (is_alike (kind_in p) k ≡ true) × AreAlike others ps

-- the values of their dictionaries were read under the fields' ids
abbrev pub HoldAllValues : Dictionaries → Fields → List Parts → Type 0
HoldAllValues d fs [] = Unit {0}
HoldAllValues d fs (p ∷ ps) = HoldsValuesAt d (first_kind fs) p × HoldAllValues d (other_fields fs) ps

-- the message of a batch and the buffers of its body, or it is too large, or memory was wanted
abbrev pub Makes : Result BodyPlan IpcError → ℕ → Batch → Type 0
Makes (Ok p) limit b = (is_within limit b ≡ true) × (p.ipc_message.items ≡ layout (batch_message b).node) × (p.buffers.items ≡ columns_pieces b.arrays)
    × (p.body_length ≡ length (batch_body b))
Makes (Err errors.TooLarge) limit b = is_within limit b ≡ false
Makes (Err errors.Memory) limit b = ⊤
Makes (Err e) limit b = ⊥
