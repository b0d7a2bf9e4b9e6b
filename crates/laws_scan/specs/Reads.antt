-- What is read of a block for the rows that meet a filter.
use Rattle.std.specs.Prelude.{◌≡◌, ℕ, List, Bool, true, false, length, map, Option, Some, None, Result, Ok, Err}
use Rattle.arrow_spec.specs.declared.error.IpcError.{IpcError}
use Rattle.arrow_spec.specs.Files.{Asked, FileBlock, to_read}
use Rattle.arrow_spec.specs.Readings.{Refuses, refusals}
use Rattle.arrow_arrays.specs.Batches.{Batch}
use Rattle.arrow_arrays.specs.Parts.{cells_in, fault_each, forest}
use Rattle.ipc_reader.specs.Below.{BlockRead}
use Rattle.laws_sent.specs.Below.{Held}
use Rattle.array_filter.specs.Rows.{marked, marked_from}
use Rattle.array_filter.specs.Taken.{rows_taken}
use Rattle.filter_types.specs.declared.filter.Filter.{Filter}
use Rattle.laws_scan.specs.Filtered.{any_marked, marked_count}
use Rattle.laws_scan.specs.Scan.{block_marks, scan_block}

-- the marked rows of a batch
pub record KeepsRows (marks : List Bool) (whole y : Batch) : Type 0 where
  pub rows : length marks ≡ whole.height
  pub sound : fault_each (forest whole.arrays) ≡ None
  pub height : y.height ≡ marked_count marks
  pub arrays : y.arrays ≡ map (λ p. rows_taken (marked_from 0 marks) p) whole.arrays
  pub cells : map cells_in y.arrays ≡ map (λ p. marked marks (cells_in p)) whole.arrays
  pub custom : y.custom ≡ whole.custom

-- a block was read of the columns asked for, since a row of it is marked, and these rows are kept
pub record ReadsRows (f : Filter) (b : List ℕ) (h : Held) (a : Asked) (block : FileBlock) (y : Batch) : Type 0 where
  pub marks : List Bool
  pub tested : block_marks f b a block ≡ Ok marks
  pub some : any_marked marks ≡ true
  pub whole : Batch
  pub read : BlockRead b h a block None whole
  pub keeps : KeepsRows marks whole y

-- none is marked
pub record ReadsNone (f : Filter) (b : List ℕ) (a : Asked) (block : FileBlock) : Type 0 where
  pub marks : List Bool
  pub tested : block_marks f b a block ≡ Ok marks
  pub none : any_marked marks ≡ false

-- what a call that reads a block answers
abbrev pub ReadsBlock : Filter → List ℕ → Held → Asked → FileBlock → Result (Option Batch) IpcError → Type 0
ReadsBlock f b h a block (Ok None) = ReadsNone f b a block
ReadsBlock f b h a block (Ok (Some y)) = ReadsRows f b h a block y
ReadsBlock f b h a block (Err e) = Refuses e (refusals (scan_block f to_read b a block))
