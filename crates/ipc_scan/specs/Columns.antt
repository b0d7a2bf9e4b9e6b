-- What is read of a block's columns under its message.
use Rattle.std.specs.Prelude.{◌≡◌, ℕ, ◌+◌, ◌≤◌, List, [], Bool, ⊤, Option, Some, None, Result, Ok, Err, IfOk}
use Rattle.std.specs.declared.alloc.Global.{Global}
use Rattle.std.specs.declared.vec.Vec.{Vec}
use Rattle.arrow_spec.specs.declared.error.IpcError.{IpcError}
use Rattle.arrow_spec.specs.Counts.{first_place, magnitude}
use Rattle.arrow_spec.specs.Files.{Asked, FileBlock, Meta, batch_of, batch_of_tables, block_body, record_batch_of, to_read}
use Rattle.arrow_spec.specs.Readings.{Gives, Refuses, refusals}
use Rattle.arrow_arrays.specs.Batches.{Batch}
use Rattle.ipc_files.specs.Blocks.{BlockRead}
use Rattle.ipc_files.specs.FileBlocks.{PairedMessage}
use Rattle.ipc_projection.specs.Below.{Held, columns_read}
use Rattle.ipc_read.specs.Batches.{batch_fetched, table_of}
use Rattle.laws_transcode.specs.Files.{AreAsked}
use Rattle.filter_types.specs.declared.filter.Filter.{Filter}
use Rattle.laws_scan.specs.Scan.{block_marks}

-- how many rows a message says
abbrev pub message_rows : PairedMessage → ℕ
message_rows m = magnitude m.tables.length

-- columns, before the pairs of the message
pub record ReadsColumns (b : List ℕ) (h : Held) (a : Asked) (block : FileBlock) (m : PairedMessage) (result : Result Batch IpcError) : Type 0 where
  pub gives : Gives table_of result (batch_of_tables to_read a m.version [] m.tables (block_body b block) None)
  pub columns : IfOk result (λ x. AreAsked (columns_read (record_batch_of a.order m.version m.tables (block_body b block)) h a.fields first_place x.height) a.columns x.arrays)

-- columns in the order asked, with the pairs of the message, or a refusal
abbrev pub ReadsChosen : List ℕ → Held → Asked → FileBlock → Result Batch IpcError → Type 0
ReadsChosen b h a block (Ok y) = BlockRead b h a block None y
ReadsChosen b h a block (Err e) = Refuses e (refusals (batch_of to_read b a block None))

-- the marks of a block's rows, or a refusal
abbrev pub ReadsTested : Filter → List ℕ → Asked → FileBlock → Result (Vec Bool Global) IpcError → Type 0
ReadsTested f b a block (Ok marks) = block_marks f b a block ≡ Ok marks.items
ReadsTested f b a block (Err e) = Refuses e (refusals (block_marks f b a block))

-- of some columns under a message, at most the buffers that are looked at
abbrev pub BuffersFetched : Option (List ℕ) → Meta → PairedMessage → Option (List ℕ) → FileBlock → ℕ → ℕ → Type 0
BuffersFetched None meta m columns block fetched fetched' = ⊤
BuffersFetched (Some b) meta m columns block fetched fetched' =
    fetched' ≤ fetched + batch_fetched (record_batch_of meta.schema.order m.version m.tables (block_body b block)) columns meta.schema.fields (message_rows m)
