-- What is read of a file's dictionary blocks. (Arrow Columnar Format, "IPC File Format", "Dictionary Messages".)
use Rattle.std.specs.Prelude.{◌≡◌, ℕ, ◌+◌, ◌≤◌, List, [], ◌∷◌, length, map, sum_by, false, ⊤, Option, Some, None, Ok, Err, Result, IfOk, IfErr, ℤ}
use Rattle.std.specs.BTreeMap.{BTreeMap}
use Rattle.std.specs.declared.alloc.Global.{Global}
use Rattle.std.specs.declared.vec.Vec.{Vec}
use Rattle.arrow_spec.specs.declared.error.IpcError.{IpcError}
use Rattle.arrow_spec.specs.declared.message.Block.{Block}
use Rattle.arrow_spec.specs.Readings.{Reading, Gives, Refuses, meaning, refusals, ◌>>=◌}
use Rattle.arrow_spec.specs.Arrays.{Dictionaries, HeldDictionary}
use Rattle.arrow_spec.specs.Files.{FileBlock, Meta, Request, TableBatch, batch_of, block_body, dictionaries_of, dictionary_of, record_batch_of, to_read}
use Rattle.arrow_spec.specs.Counts.{magnitude}
use Rattle.arrow_spec.specs.Kinds.{same}
use Rattle.arrow_spec.specs.Needed.{lengths, or_nothing}
use Rattle.arrow_arrays.specs.declared.array.Array.{Array}
use Rattle.laws_files.specs.Fetched.{dictionary_fetched}
use Rattle.laws_columns.specs.Below.{HeaderFits}
use Rattle.ipc_schema.specs.Headers.{DictionaryTables, dictionary_message, dictionary_message_of}
use Rattle.ipc_schema.specs.declared.message.DictionaryMessage.{DictionaryMessage}
use Rattle.ipc_projection.specs.Below.{Held, HoldsCells, HasKindOf, values_of_id}
use Rattle.ipc_read.specs.DictionaryBatches.{HoldsPart}
use Rattle.ipc_read.specs.Held.{held_in}
use Rattle.ipc_files.specs.Blocks.{asked_under}
use Rattle.ipc_files.specs.Fetching.{block_cost}
use Rattle.ipc_files.specs.FileBlocks.{file_block, given, message_metadata}

-- the message of a dictionary in a block
unfoldable pub block_dictionary : List ℕ → FileBlock → Reading DictionaryTables
block_dictionary b block = message_metadata b block >>= λ bytes. dictionary_message bytes

abbrev pub DictionaryIn : Option (List ℕ) → Block → Result DictionaryMessage IpcError → Type 0
DictionaryIn None x r = ⊤
DictionaryIn (Some b) x r = Gives dictionary_message_of r (given x (block_dictionary b))

-- the values of a dictionary block, under the dictionaries that were read before it
unfoldable pub block_values : List ℕ → Meta → Dictionaries → FileBlock → Reading HeldDictionary
block_values b meta d block = block_dictionary b block >>= λ m. dictionary_of meta.schema d (length b) m.dictionary m.version (block_body b block) false

-- the values of dictionary blocks that are given, one after another
unfoldable pub dictionaries_given : List ℕ → Meta → Dictionaries → List Block → Reading Dictionaries
dictionaries_given b meta d [] = Ok d
dictionaries_given b meta d (x ∷ xs) = given x (block_values b meta d) >>= λ values. dictionaries_given b meta (values ∷ d) xs

-- under each id of a file's schema the parts are of the kind of its values
abbrev pub HoldsUses : Meta → Held → Type 0
HoldsUses meta h = (id : ℤ) → HasKindOf meta.schema.fields h id

-- The values of a dictionary block are held under its id: the part behind those before it is the one of the block's buffers, whose numbers have 64 bits.
pub record HoldsBlock (b : List ℕ) (meta : Meta) (block : FileBlock) (old new : Held) (id : ℤ) : Type 0 where
  pub message : DictionaryTables
  pub is : block_dictionary b block ≡ Ok message
  pub fits : HeaderFits message.dictionary.values
  pub under : id ≡ message.dictionary.id
  pub part : HoldsPart old new id message.dictionary.is_delta (values_of_id meta.schema.fields id)
      (record_batch_of meta.schema.order message.version message.dictionary.values (block_body b block)) (magnitude message.dictionary.values.length)
  pub others : (q : ℤ) → same id q ≡ false → new q ≡ old q

-- Dictionary blocks that were read one after another: what they said, the last one first, and what is held behind them.
pub data AreHeld (b : List ℕ) (meta : Meta) : Dictionaries → Held → Type 0 where
  no_block : {h : Held} → ((id : ℤ) → h id ≡ None) → AreHeld b meta [] h
  one_block : {d : Dictionaries} {h h' : Held} {x : HeldDictionary} {block : FileBlock} {id : ℤ} → AreHeld b meta d h → HoldsUses meta h
      → block_values b meta d block ≡ Ok x → HoldsBlock b meta block h h' id → HoldsCells (x ∷ d) h' → AreHeld b meta (x ∷ d) h'

-- that something was done, or why not
abbrev pub done : {A : Type 0} → Result A IpcError → Result (Unit {0}) IpcError
done (Ok x) = Ok tt
done (Err e) = Err e

-- a map holds what these blocks say behind those that were read before, or they are refused
pub record ReadsDictionaries (b : List ℕ) (meta : Meta) (xs : List Block) (result : Result (BTreeMap ℤ (Vec Array Global)) IpcError) : Type 0 where
  pub ok : IfOk result (λ m. (d : Dictionaries) × (dictionaries_given b meta [] xs ≡ Ok d) × HoldsCells d (held_in m))
  -- no number of a block is negative then
  pub said : IfOk result (λ m. (d : Dictionaries) × (dictionaries_of b meta [] (map file_block xs) ≡ Ok d) × HoldsCells d (held_in m))
  pub steps : IfOk result (λ m. (d : Dictionaries) → dictionaries_of b meta [] (map file_block xs) ≡ Ok d → AreHeld b meta d (held_in m))
  pub err : IfErr result (λ e. Refuses e (refusals (dictionaries_given b meta [] xs)))

-- ── what is fetched ──

-- what a dictionary block costs: its message and the buffers that are looked at
abbrev pub dictionary_cost : List ℕ → Meta → FileBlock → ℕ
dictionary_cost b meta block = lengths (or_nothing (meaning (dictionary_fetched b meta block)))

abbrev pub dictionaries_cost : List ℕ → Meta → List FileBlock → ℕ
dictionaries_cost b meta blocks = sum_by (dictionary_cost b meta) blocks

-- of a dictionary block that can be read, at most what it costs
abbrev pub DictionaryFetched : Option (List ℕ) → Meta → FileBlock → ℕ → ℕ → Type 0
DictionaryFetched None meta block fetched fetched' = ⊤
DictionaryFetched (Some b) meta block fetched fetched' =
    (d : Dictionaries) (x : HeldDictionary) → block_values b meta d block ≡ Ok x → fetched' ≤ fetched + dictionary_cost b meta block

-- of the dictionary blocks of a file that can all be read, at most what they cost
abbrev pub DictionariesFetched : Option (List ℕ) → Meta → ℕ → ℕ → Type 0
DictionariesFetched None meta fetched fetched' = ⊤
DictionariesFetched (Some b) meta fetched fetched' =
    (d : Dictionaries) → dictionaries_of b meta [] meta.dictionaries ≡ Ok d → fetched' ≤ fetched + dictionaries_cost b meta meta.dictionaries

-- of a file's dictionaries and of a block that means a batch under them, at most what they cost
abbrev pub FirstFetched : Option (List ℕ) → Meta → Request → FileBlock → Option ℕ → ℕ → ℕ → Type 0
FirstFetched None meta r block left fetched fetched' = ⊤
FirstFetched (Some b) meta r block left fetched fetched' =
    (d : Dictionaries) (x : TableBatch) → dictionaries_of b meta [] meta.dictionaries ≡ Ok d → batch_of to_read b (asked_under b meta d r) block left ≡ Ok x
    → fetched' ≤ fetched + (dictionaries_cost b meta meta.dictionaries + block_cost b meta r block left)
