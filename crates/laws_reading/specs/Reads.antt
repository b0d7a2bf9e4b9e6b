-- Files that are read block by block, each by a call.
use Rattle.std.specs.Prelude.{◌≡◌, ℕ, List, [], ◌∷◌, ◌++◌, Option, Ok, Err}
use Rattle.arrow_spec.specs.declared.error.IpcError.{IpcError}
use Rattle.arrow_spec.specs.declared.message.Block.{Block}
use Rattle.arrow_spec.specs.Arrays.{Dictionaries}
use Rattle.arrow_spec.specs.Features.{chosen_floats}
use Rattle.arrow_spec.specs.Files.{ArrowTable, Meta, Request, TableBatch, columns_right, custom_of, dictionaries_of, dictionaries_read, meta_of}
use Rattle.arrow_spec.specs.Files.{what_is_left}
use Rattle.arrow_spec.specs.Kinds.{Metadata, width}
use Rattle.ipc_files.specs.Blocks.{batch_in}
use Rattle.ipc_files.specs.Requests.{asked}
use Rattle.laws_transcode.specs.Files.{left_of, table_asked}

-- a file whose metadata was read, and of which such columns may be read
pub record IsOpened (b : List ℕ) (r : Request) (meta : Meta) (custom : Metadata) : Type 0 where
  pub read : meta_of b ≡ Ok meta
  pub pairs : custom_of b ≡ Ok custom
  pub columns : columns_right r.columns (width meta.schema.fields) ≡ Ok tt
  pub readable : chosen_floats r.columns meta.schema.fields 0 ≡ []

-- Batches of blocks that a caller gives, one a block: each is what a call at its block gives under what those before it leave of the limit.
pub data ReadsEach (b : List ℕ) (meta : Meta) (d : Dictionaries) (columns : Option (List ℕ)) : List Block → Option ℕ → List TableBatch → Type 0 where
  no_block : {left : Option ℕ} → ReadsEach b meta d columns [] left []
  one_more : {block : Block} {blocks : List Block} {left : Option ℕ} {x : TableBatch} {xs : List TableBatch}
      → batch_in (asked columns left) b meta d block ≡ Ok x → ReadsEach b meta d columns blocks (what_is_left left x.rows) xs
      → ReadsEach b meta d columns (block ∷ blocks) left (x ∷ xs)

-- a table whose batches were read of all blocks of a file, under its dictionaries
pub record IsReadOf (b : List ℕ) (r : Request) (meta : Meta) (blocks : List Block) (t : ArrowTable) : Type 0 where
  pub custom : Metadata
  pub dictionaries : Dictionaries
  pub opened : IsOpened b r meta custom
  pub held : dictionaries_of b meta [] (dictionaries_read meta.blocks meta.dictionaries) ≡ Ok dictionaries
  pub reads : ReadsEach b meta dictionaries r.columns blocks r.limit t.batches
  pub table : t ≡ table_asked custom meta r t.batches

-- a call that is refused behind others that gave their batches
pub record StopsAt (b : List ℕ) (meta : Meta) (d : Dictionaries) (columns : Option (List ℕ)) (blocks : List Block) (left : Option ℕ)
    (es : List IpcError) : Type 0 where
  pub before : List Block
  pub block : Block
  pub behind : List Block
  pub are : blocks ≡ before ++ block ∷ behind
  pub batches : List TableBatch
  pub reads : ReadsEach b meta d columns before left batches
  pub refused : batch_in (asked columns (left_of left batches)) b meta d block ≡ Err es
