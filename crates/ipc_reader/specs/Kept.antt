-- What a cursor keeps of the dictionaries of its file, and what a call gives by them.
use Rattle.std.specs.Prelude.{◌≡◌, ℕ, ◌<◌, List, [], length, Bool, true, false, Option, Some, None, Result, Ok, Err, IfErr, IfOk, IfSome, ⊤, ℤ}
use Rattle.std.specs.BTreeMap.{BTreeMap}
use Rattle.std.specs.Rc.{rc_value}
use Rattle.std.specs.declared.alloc.Global.{Global}
use Rattle.std.specs.declared.vec.Vec.{Vec}
use Rattle.arrow_spec.specs.declared.error.IpcError.{IpcError}
use Rattle.arrow_spec.specs.declared.message.Block.{Block}
use Rattle.arrow_spec.specs.Arrays.{Dictionaries}
use Rattle.arrow_spec.specs.Features.{chosen_floats}
use Rattle.arrow_spec.specs.Files.{FileBlock, Meta, Request, TableBatch, dictionaries_of}
use Rattle.arrow_spec.specs.Readings.{Gives, IsAmong, Reading, Refuses, free_of, refusals, ◌>>=◌}
use Rattle.arrow_arrays.specs.Batches.{Batch}
use Rattle.arrow_arrays.specs.declared.array.Array.{Array}
use Rattle.ipc_io.specs.Outside.{SourceKept, LeavesFaults}
use Rattle.ipc_files.specs.Below.{HoldsCells, table_of, held_in, ProjectionInfo, MayProject}
use Rattle.ipc_files.specs.Blocks.{BatchRead, batch_in}
use Rattle.ipc_files.specs.FileDictionaries.{AreHeld, DictionariesFetched, FirstFetched, HoldsUses, dictionaries_given}
use Rattle.ipc_files.specs.Fetching.{BlockFetched}
use Rattle.ipc_files.specs.FileViews.{meta_view, FileCause}
use Rattle.ipc_files.specs.declared.metadata.FileMetadata.{FileMetadata}
use Rattle.ipc_reader.specs.declared.kept.KeptDictionaries.{KeptDictionaries}
use Rattle.ipc_reader.specs.declared.kept.KeptDictionaries.TheVariants.{NotRead, Held, Refused}

-- the parts under each id
abbrev pub HeldParts : Type 0
HeldParts = BTreeMap ℤ (Vec Array Global)

abbrev pub is_refused : KeptDictionaries → Bool
is_refused Refused = true
is_refused NotRead = false
is_refused (Held m) = false

-- what is held under each id of a file's schema is of the kind of its values
abbrev pub KeepsUses : Meta → KeptDictionaries → Type 0
KeepsUses meta NotRead = ⊤
KeepsUses meta (Held m) = HoldsUses meta (held_in m)
KeepsUses meta Refused = ⊤

-- ── the dictionaries ──

-- those of a file, behind the features of the columns that are asked for
unfoldable pub dictionaries_in : Option (List ℕ) → List ℕ → FileMetadata → Reading Dictionaries
dictionaries_in columns b file = do
  floats ← free_of (chosen_floats columns (meta_view file).schema.fields 0)
  dictionaries_given b (meta_view file) [] file.dictionaries.items

-- the first batch that is read: the features of its columns, the dictionaries, and its block
unfoldable pub first_in : Request → List ℕ → FileMetadata → Block → Reading TableBatch
first_in r b file x = do
  d ← dictionaries_in r.columns b file
  batch_in r b (meta_view file) d x

-- a map holds what was read, or the call answers a refusal of it
abbrev pub GivesHeld : Result HeldParts IpcError → Reading Dictionaries → Type 0
GivesHeld (Ok m) reading = (d : Dictionaries) × (reading ≡ Ok d) × HoldsCells d (held_in m)
GivesHeld (Err e) reading = Refuses e (refusals reading)

-- a map holds the dictionaries of a file, as they came of its blocks
abbrev pub HoldsFile : List ℕ → Meta → HeldParts → Type 0
HoldsFile b meta m = (d : Dictionaries) × (dictionaries_of b meta [] meta.dictionaries ≡ Ok d) × HoldsCells d (held_in m) × AreHeld b meta d (held_in m)

-- the same where bytes are told, of what is kept behind a call that read them
abbrev pub KeepsFile : Option (List ℕ) → Meta → KeptDictionaries → Type 0
KeepsFile content meta kept = (m : HeldParts) → kept ≡ Held m → IfSome content (λ b. HoldsFile b meta m)

-- a batch was read of a block under the dictionaries that are kept
abbrev pub ReadUnderKept : Option (List ℕ) → Meta → Request → FileBlock → KeptDictionaries → Batch → Type 0
ReadUnderKept content meta r block kept x = (m : HeldParts) × (kept ≡ Held m) × IfSome content (λ b. BatchRead b (held_in m) meta r block x)

-- what a call gives of a block by what was kept before it: the first batch reads the dictionaries, and the others are read under those that are held
abbrev pub GivesBy : KeptDictionaries → Request → List ℕ → FileMetadata → Block → Result Batch IpcError → Type 0
GivesBy NotRead r b file x result = Gives table_of result (first_in r b file x)
GivesBy (Held m) r b file x result = (d : Dictionaries) → HoldsCells d (held_in m) → Gives table_of result (batch_in r b (meta_view file) d x)
GivesBy Refused r b file x result = Gives table_of result (first_in r b file x)

-- what is fetched by a call that reads a block, by what was kept before it
abbrev pub FetchedBy : KeptDictionaries → Option (List ℕ) → Meta → Request → FileBlock → Option ℕ → ℕ → ℕ → Type 0
FetchedBy NotRead content meta r block left fetched fetched' = FirstFetched content meta r block left fetched fetched'
FetchedBy (Held m) content meta r block left fetched fetched' = BlockFetched content meta r block left fetched fetched'
FetchedBy Refused content meta r block left fetched fetched' = ⊤

-- a call was refused
abbrev pub IsRefusedBy : {X : Type 0} → Result X IpcError → (IpcError → Type 0) → Type 0
IsRefusedBy (Ok x) P = ⊥
IsRefusedBy (Err e) P = P e

-- What is kept behind a call that reads a batch, by what was kept before it: the dictionaries that were read at the first batch stay.
-- A read of them that fails, by a fault or for want of memory too, ends the reader, and there were dictionaries to read.
-- The features of the columns are looked at before; where they refuse, and there alone, the dictionaries are still to be read.
abbrev pub KeptAfter : {X : Type 0} → Option (List ℕ) → FileMetadata → Option (List ℕ) → KeptDictionaries → KeptDictionaries → Result X IpcError → Type 0
KeptAfter content file columns (Held m) kept result = kept ≡ Held m
KeptAfter content file columns Refused kept result = kept ≡ Refused
KeptAfter content file columns NotRead (Held m) result = IfSome content (λ b. GivesHeld (Ok m) (dictionaries_in columns b file))
KeptAfter content file columns NotRead Refused result = (0 < length file.dictionaries.items)
    × IsRefusedBy result (λ e. IfSome content (λ b. Refuses e (refusals (dictionaries_given b (meta_view file) [] file.dictionaries.items))))
KeptAfter content file columns NotRead NotRead result = IsRefusedBy result (λ e. IsAmong (chosen_floats columns (meta_view file).schema.fields 0) e)

-- the same where there may be no batch to read
abbrev pub KeptBehind : Option (List ℕ) → FileMetadata → Option (List ℕ) → KeptDictionaries → KeptDictionaries → Option (Result Batch IpcError) → Type 0
KeptBehind content file columns kept kept' None = kept' ≡ kept
KeptBehind content file columns kept kept' (Some result) = KeptAfter content file columns kept kept' result

-- ── calls that read dictionaries, behind which the kept ones are k' ──

module _ {S : Type 0} (content_of : S → Option (List ℕ)) (faults_of fetched_of : S → ℕ) (references_of : S → List ℕ) (s s' : S) (file : FileMetadata)
    (projection : Option ProjectionInfo) where
  -- those of the file are read, which were not before
  pub record ReadsHeld (k' : KeptDictionaries) (result : Result HeldParts IpcError) : Type 0 where
    pub gives : (columns : Option (List ℕ)) → MayProject (rc_value file.schema) columns projection
        → IfSome (content_of s) (λ b. GivesHeld result (dictionaries_in columns b file))
    pub held : IfOk result (λ m. IfSome (content_of s) (λ b. HoldsFile b (meta_view file) m))
    pub left : (m : HeldParts) → k' ≡ Held m → ⊥
    pub behind : (columns : Option (List ℕ)) → MayProject (rc_value file.schema) columns projection
        → IfErr result (λ e. KeptAfter (content_of s) file columns NotRead k' result)
    pub uses : IfOk result (λ m. HoldsUses (meta_view file) (held_in m))
    pub keeps : KeepsUses (meta_view file) k'
    pub cause : IfErr result (λ e. FileCause e (faults_of s) (faults_of s'))
    pub faults_stay : LeavesFaults (faults_of s) (faults_of s') result
    pub fetched : DictionariesFetched (content_of s) (meta_view file) (fetched_of s) (fetched_of s')
    pub kept : SourceKept content_of faults_of references_of s s'

  -- they are taken: those that are held, or those of the file
  pub record TakesHeld (k k' : KeptDictionaries) (result : Result HeldParts IpcError) : Type 0 where
    pub held : (m : HeldParts) → k ≡ Held m → result ≡ Ok m
    pub gives : (columns : Option (List ℕ)) → k ≡ NotRead → MayProject (rc_value file.schema) columns projection
        → IfSome (content_of s) (λ b. GivesHeld result (dictionaries_in columns b file))
    pub first : k ≡ NotRead → IfOk result (λ m. IfSome (content_of s) (λ b. HoldsFile b (meta_view file) m))
    pub left : (m : HeldParts) → k' ≡ Held m → ⊥
    pub behind : (columns : Option (List ℕ)) → k ≡ NotRead → MayProject (rc_value file.schema) columns projection
        → IfErr result (λ e. KeptAfter (content_of s) file columns NotRead k' result)
    pub uses : IfOk result (λ m. HoldsUses (meta_view file) (held_in m))
    pub keeps : KeepsUses (meta_view file) k'
    pub cause : IfErr result (λ e. FileCause e (faults_of s) (faults_of s'))
    pub faults_stay : LeavesFaults (faults_of s) (faults_of s') result
    pub fetched : k ≡ NotRead → DictionariesFetched (content_of s) (meta_view file) (fetched_of s) (fetched_of s')
    pub stays : (m : HeldParts) → k ≡ Held m → fetched_of s' ≡ fetched_of s
    pub kept : SourceKept content_of faults_of references_of s s'
