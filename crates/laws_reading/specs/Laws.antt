-- What holds of files that are read block by block. Each statement is the contract of a public function without a body (src/lib.rt).
use Rattle.std.specs.Prelude.{◌≡◌, ℕ, List, [], ◌∷◌, ◌++◌, All, Bool, true, Option, None, Some, Ok, Err, length, map, slice_get, take}
use Rattle.arrow_spec.specs.declared.error.IpcError.{IpcError}
use Rattle.arrow_spec.specs.declared.message.Block.{Block}
use Rattle.arrow_spec.specs.Arrays.{Dictionaries}
use Rattle.arrow_spec.specs.Kinds.{Metadata}
use Rattle.arrow_spec.specs.Files.{ArrowTable, Asked, FileBlock, Meta, Request, TableBatch, batch_of, batches_of, dictionaries_of, dictionaries_read}
use Rattle.arrow_spec.specs.Files.{file_reading, meta_of, taken, to_read}
use Rattle.arrow_spec.specs.Meaning.{file_table}
use Rattle.ipc_files.specs.Below.{IsNatural}
use Rattle.ipc_files.specs.Blocks.{batch_in}
use Rattle.ipc_files.specs.FileBlocks.{file_block}
use Rattle.ipc_files.specs.FileDictionaries.{dictionaries_given}
use Rattle.ipc_files.specs.Requests.{asked}
use Rattle.laws_transcode.specs.Files.{asked_of, left_of, table_asked}
use Rattle.laws_reading.specs.Reads.{IsOpened, IsReadOf, ReadsEach, StopsAt}

abbrev pub OneMoreBlock : Type 0
OneMoreBlock = (b : List ℕ) (a : Asked) (is_first : Bool) (blocks : List FileBlock) (block : FileBlock) (left : Option ℕ) (xs : List TableBatch)
    (x : TableBatch) → batches_of to_read b a is_first blocks left ≡ Ok xs → batch_of to_read b a block (left_of left xs) ≡ Ok x
    → batches_of to_read b a is_first (blocks ++ block ∷ []) left ≡ Ok (xs ++ x ∷ [])

-- Blocks that were read, all or the first j, mean the table of their batches.
abbrev pub BlocksMeanTheirTable : Type 0
BlocksMeanTheirTable = (b : List ℕ) (r : Request) (j : Option ℕ) (meta : Meta) (custom : Metadata) (d : Dictionaries) (xs : List TableBatch)
    → IsOpened b r meta custom → dictionaries_of b meta [] (dictionaries_read (taken j meta.blocks) meta.dictionaries) ≡ Ok d
    → batches_of to_read b (asked_of b meta r d) true (taken j meta.blocks) r.limit ≡ Ok xs
    → file_reading to_read b r j ≡ Ok (table_asked custom meta r xs)

-- A block that is refused behind some that were read refuses the file, and the file up to it.
abbrev pub RefusedBlockStopsReading : Type 0
RefusedBlockStopsReading = (b : List ℕ) (r : Request) (j : Option ℕ) (meta : Meta) (custom : Metadata) (d : Dictionaries)
    (blocks rest : List FileBlock) (block : FileBlock) (xs : List TableBatch) (es : List IpcError) → IsOpened b r meta custom
    → taken j meta.blocks ≡ blocks ++ block ∷ rest
    → dictionaries_of b meta [] (dictionaries_read (taken j meta.blocks) meta.dictionaries) ≡ Ok d
    → batches_of to_read b (asked_of b meta r d) true blocks r.limit ≡ Ok xs
    → batch_of to_read b (asked_of b meta r d) block (left_of r.limit xs) ≡ Err es → file_reading to_read b r j ≡ Err es

abbrev pub RefusedDictionariesStopReading : Type 0
RefusedDictionariesStopReading = (b : List ℕ) (r : Request) (j : Option ℕ) (meta : Meta) (custom : Metadata) (es : List IpcError)
    → IsOpened b r meta custom → dictionaries_of b meta [] (dictionaries_read (taken j meta.blocks) meta.dictionaries) ≡ Err es
    → file_reading to_read b r j ≡ Err es

-- ── call by call ──

-- What calls give of all blocks of a file, or of the first j, is the table that these mean.
abbrev pub FirstReadsAreTheirTable : Type 0
FirstReadsAreTheirTable = (b : List ℕ) (r : Request) (j : Option ℕ) (meta : Meta) (custom : Metadata) (d : Dictionaries) (blocks : List Block)
    (xs : List TableBatch) → IsOpened b r meta custom → taken j meta.blocks ≡ map file_block blocks
    → dictionaries_of b meta [] (dictionaries_read (taken j meta.blocks) meta.dictionaries) ≡ Ok d
    → ReadsEach b meta d r.columns blocks r.limit xs → file_reading to_read b r j ≡ Ok (table_asked custom meta r xs)

abbrev pub ReadsAreTheTable : Type 0
ReadsAreTheTable = (b : List ℕ) (r : Request) (meta : Meta) (custom : Metadata) (d : Dictionaries) (blocks : List Block) (xs : List TableBatch)
    → IsOpened b r meta custom → meta.blocks ≡ map file_block blocks
    → dictionaries_of b meta [] (dictionaries_read meta.blocks meta.dictionaries) ≡ Ok d
    → ReadsEach b meta d r.columns blocks r.limit xs → file_table b r ≡ Some (table_asked custom meta r xs)

-- The other direction: none of the numbers that the caller gives is negative.
abbrev pub TableIsRead : Type 0
TableIsRead = (b : List ℕ) (r : Request) (meta : Meta) (blocks : List Block) (t : ArrowTable) → meta_of b ≡ Ok meta
    → meta.blocks ≡ map file_block blocks → All IsNatural blocks → file_table b r ≡ Some t → IsReadOf b r meta blocks t

-- There are as many batches as blocks, and each is what a call gives at the block of its place.
abbrev pub EachReadIsOfItsBlock : Type 0
EachReadIsOfItsBlock = (b : List ℕ) (meta : Meta) (d : Dictionaries) (columns : Option (List ℕ)) (blocks : List Block) (left : Option ℕ)
    (xs : List TableBatch) → ReadsEach b meta d columns blocks left xs → (length xs ≡ length blocks) × ((i : ℕ) (block : Block) (x : TableBatch)
    → slice_get blocks i ≡ Some block → slice_get xs i ≡ Some x → batch_in (asked columns (left_of left (take i xs))) b meta d block ≡ Ok x)

-- A call more at the block behind those that were read adds its batch.
abbrev pub OneMoreRead : Type 0
OneMoreRead = (b : List ℕ) (meta : Meta) (d : Dictionaries) (columns : Option (List ℕ)) (blocks : List Block) (block : Block) (left : Option ℕ)
    (xs : List TableBatch) (x : TableBatch) → ReadsEach b meta d columns blocks left xs
    → batch_in (asked columns (left_of left xs)) b meta d block ≡ Ok x → ReadsEach b meta d columns (blocks ++ block ∷ []) left (xs ++ x ∷ [])

-- What refuses a call refuses the file, and the file up to the call's block.
abbrev pub RefusedReadStopsReading : Type 0
RefusedReadStopsReading = (b : List ℕ) (r : Request) (j : Option ℕ) (meta : Meta) (custom : Metadata) (d : Dictionaries) (blocks rest : List Block)
    (block : Block) (xs : List TableBatch) (es : List IpcError) → IsOpened b r meta custom
    → taken j meta.blocks ≡ map file_block (blocks ++ block ∷ rest) → IsNatural block
    → dictionaries_of b meta [] (dictionaries_read (taken j meta.blocks) meta.dictionaries) ≡ Ok d
    → ReadsEach b meta d r.columns blocks r.limit xs → batch_in (asked r.columns (left_of r.limit xs)) b meta d block ≡ Err es
    → file_reading to_read b r j ≡ Err es

-- The other direction: where the dictionaries were read, what refuses a file refuses a call.
abbrev pub RefusedFileStopsReading : Type 0
RefusedFileStopsReading = (b : List ℕ) (r : Request) (meta : Meta) (custom : Metadata) (d : Dictionaries) (blocks : List Block) (es : List IpcError)
    → IsOpened b r meta custom → meta.blocks ≡ map file_block blocks → All IsNatural blocks
    → dictionaries_of b meta [] (dictionaries_read meta.blocks meta.dictionaries) ≡ Ok d → file_reading to_read b r None ≡ Err es
    → StopsAt b meta d r.columns blocks r.limit es

-- The dictionary blocks that a caller gives say what a file's do.
abbrev pub GivenDictionariesAreTheFiles : Type 0
GivenDictionariesAreTheFiles = (b : List ℕ) (meta : Meta) (blocks : List Block) → All IsNatural blocks → meta.dictionaries ≡ map file_block blocks
    → dictionaries_given b meta [] blocks ≡ dictionaries_of b meta [] meta.dictionaries
