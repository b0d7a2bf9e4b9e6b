-- A block that is read, and sent.
use Rattle.std.proofs.Common.{◌≡◌, ℕ, List, Option, Ok, sym, ap, subst, ◌∙◌, true}
use Rattle.arrow_spec.specs.declared.error.IpcError.{IpcError}
use Rattle.arrow_spec.specs.Readings.{Refuses, ◌>>=◌, refusals}
use Rattle.arrow_spec.specs.Kinds.{width}
use Rattle.arrow_spec.specs.Files.{Asked, FileBlock, Purpose, batch_of, batch_of_tables, block_body, columns_right, if_sent, to_read, to_send}
use Rattle.arrow_spec.specs.Sent.{may_be_sent}
use Rattle.arrow_spec.proofs.Projection.{on}
use Rattle.arrow_arrays.specs.Batches.{Batch}
use Rattle.laws_sent.specs.Below.{Held, HoldsCells, HoldsFields}
use Rattle.ipc_write_laws.specs.Streams.{written_batch}
use Rattle.arrow_arrays.specs.Carried.{are_carried}
use Rattle.laws_transcode.specs.Files.{asked_fields}
use Rattle.laws_transcode.proofs.Batches.{tables_refused}
use Rattle.ipc_reader.proofs.Below.{read_batch_sent, batch_by_record, block_refuses, follows}
use Rattle.ipc_reader.specs.Below.{written_batch_of, table_of, block_record, BlockRead}

-- arrays are read of the fields that are asked for; what is held of the dictionaries that were read are arrays of the values' kinds
pub record AreSent (a : Asked) (h : Held) : Type 0 where
  pub carried : are_carried (asked_fields a) ≡ true
  pub right : columns_right a.columns (width a.fields) ≡ Ok tt
  pub holds : HoldsCells a.dictionaries h
  pub kinds : HoldsFields h a.fields

-- ── a block that is read ──

-- a block that is refused where it is read is refused so where it is sent
refused_sent : (e : IpcError) (b : List ℕ) (a : Asked) (block : FileBlock) (left : Option ℕ) → Refuses e (refusals (batch_of to_read b a block left)) → Refuses e (refusals (batch_of to_send b a block left))
refused_sent e b a block left = block_refuses to_read to_send e b a a block left (λ m. follows e _ _ (λ es is. tables_refused a m.version m.custom m.tables (block_body b block) left es is))

-- the batch of a block that is read
pub block_means : (b : List ℕ) (a : Asked) (h : Held) (block : FileBlock) (left : Option ℕ) (x : Batch) → BlockRead b h a block left x → batch_of to_read b a block left ≡ Ok (table_of x)
block_means b a h block left x r = batch_by_record to_read b a block left ∙ on (block_record b block) _ r.message r.is ∙ r.read

-- a block that is refused where it is read is refused so for either purpose
pub refused_for : (purpose : Purpose) (e : IpcError) (b : List ℕ) (a : Asked) (block : FileBlock) (left : Option ℕ) → Refuses e (refusals (batch_of to_read b a block left)) → Refuses e (refusals (batch_of purpose b a block left))
refused_for to_read e b a block left h = h
refused_for to_send e b a block left h = refused_sent e b a block left h

-- ── a block that is sent ──

-- its tables mean it with the batch's pairs
read_paired : (b : List ℕ) (a : Asked) (h : Held) (block : FileBlock) (left : Option ℕ) (x : Batch) (r : BlockRead b h a block left x) → batch_of_tables to_read a r.message.version x.custom r.message.tables (block_body b block) left ≡ Ok (table_of x)
read_paired b a h block left x r = subst (λ c. batch_of_tables to_read a r.message.version c r.message.tables (block_body b block) left ≡ Ok (table_of x)) (sym r.custom) r.read

-- so the block is read and sent
by_tables : (purpose : Purpose) (b : List ℕ) (a : Asked) (h : Held) (block : FileBlock) (left : Option ℕ) (x : Batch) (r : BlockRead b h a block left x) → batch_of purpose b a block left ≡ batch_of_tables purpose a r.message.version x.custom r.message.tables (block_body b block) left
by_tables purpose b a h block left x r =
    batch_by_record purpose b a block left ∙ on (block_record b block) _ r.message r.is ∙ ap (λ c. batch_of_tables purpose a r.message.version c r.message.tables (block_body b block) left) (sym r.custom)

-- it is sent where its message may be
pub block_sent : (b : List ℕ) (a : Asked) (h : Held) (block : FileBlock) (left : Option ℕ) (x : Batch) → AreSent a h → BlockRead b h a block left x → batch_of to_send b a block left ≡ (if_sent to_send (may_be_sent (written_batch (written_batch_of x))) >>= λ size. Ok (table_of x))
block_sent b a h block left x are r =
    by_tables to_send b a h block left x r
    ∙ read_batch_sent a r.message.version r.message.tables (block_body b block) left h x are.holds are.kinds are.carried are.right (read_paired b a h block left x r) r.columns
