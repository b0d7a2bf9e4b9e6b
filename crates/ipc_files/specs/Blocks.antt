-- What is read of a file's blocks.
use Rattle.std.specs.Prelude.{◌≡◌, ℕ, ◌+◌, List, length, Option, Result, Ok, IfOk, IfErr}
use Rattle.arrow_spec.specs.declared.error.IpcError.{IpcError}
use Rattle.arrow_spec.specs.declared.message.Block.{Block}
use Rattle.arrow_spec.specs.Counts.{first_place}
use Rattle.arrow_spec.specs.Arrays.{Dictionaries}
use Rattle.arrow_spec.specs.Features.{chosen_floats}
use Rattle.arrow_spec.specs.Readings.{Reading, Refuses, refusals, ◌>>=◌, free_of}
use Rattle.arrow_spec.specs.WrittenSchemas.{CustomMayBeWritten}
use Rattle.arrow_spec.specs.Files.{Asked, FileBlock, Meta, Request, TableBatch, batch_of, batch_of_tables, block_body, record_batch_of, to_read}
use Rattle.arrow_arrays.specs.Batches.{Batch}
use Rattle.ipc_projection.specs.Below.{columns_read, Held, HoldsCells}
use Rattle.laws_columns.specs.Below.{AreAsked, HeaderFits}
use Rattle.ipc_read.specs.Batches.{table_of}
use Rattle.ipc_read.specs.declared.body.Body.{Body}
use Rattle.ipc_files.specs.FileBlocks.{PairedMessage, block_by, block_record, file_block, given}

-- where the body of a block's message stands
abbrev pub body_place : FileBlock → Body
body_place block = record { offset = block.offset + block.metadata; length = block.body }

-- what a request asks of a file under the dictionaries that were read
abbrev pub asked_under : List ℕ → Meta → Dictionaries → Request → Asked
asked_under b meta d r = record { order = meta.schema.order; fields = meta.schema.fields; columns = r.columns; dictionaries = d; most = length b }

-- a block that was read under the parts that are held, where rows are left to be read: its message, whose numbers have 64 bits and whose pairs are in order, and the batch and the columns that its tables and its body mean
pub record BlockRead (b : List ℕ) (h : Held) (a : Asked) (block : FileBlock) (left : Option ℕ) (x : Batch) : Type 0 where
  pub message : PairedMessage
  pub is : block_record b block ≡ Ok message
  pub fits : HeaderFits message.tables
  pub ordered : CustomMayBeWritten message.custom
  pub custom : x.custom ≡ message.custom
  pub read : batch_of_tables to_read a message.version message.custom message.tables (block_body b block) left ≡ Ok (table_of x)
  pub columns : AreAsked (columns_read (record_batch_of a.order message.version message.tables
      (block_body b block)) h a.fields first_place x.height) a.columns x.arrays

-- a batch that was read of a block by a request, under the parts that are held
abbrev pub BatchRead : List ℕ → Held → Meta → Request → FileBlock → Batch → Type 0
BatchRead b h meta r block x = (d : Dictionaries) → HoldsCells d h → BlockRead b h (asked_under b meta d r) block r.limit x

-- a block that is given
unfoldable pub batch_given : List ℕ → Asked → Block → Option ℕ → Reading TableBatch
batch_given b a x left = given x (λ block. batch_of to_read b a block left)

-- a block that was read, none of whose numbers is negative, or a refusal of the block
pub record ReadsBlock (b : List ℕ) (h : Held) (a : Asked) (x : Block) (left : Option ℕ) (result : Result Batch IpcError) : Type 0 where
  pub is : IfOk result (λ y. block_by x ≡ Ok (file_block x))
  pub read : IfOk result (λ y. BlockRead b h a (file_block x) left y)
  pub refused : IfErr result (λ e. Refuses e (refusals (batch_given b a x left)))

-- the record batch of a block that is given under a request and the dictionaries that were read: by the features of its columns' kinds and then by its block
unfoldable pub batch_in : Request → List ℕ → Meta → Dictionaries → Block → Reading TableBatch
batch_in r b meta d x = do
  floats ← free_of (chosen_floats r.columns meta.schema.fields 0)
  batch_given b (asked_under b meta d r) x r.limit
