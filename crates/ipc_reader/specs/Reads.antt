-- What the calls of a cursor over the record batches of a file read, fetch and keep.
use Rattle.std.specs.Prelude.{◌≡◌, ◌⊎◌, ◌<◌, ◌≤◌, ℕ, List, Option, Some, None, Result, Ok, Err, IfErr, IfOk, IfSome, MatchOption, false, length, slice_get, true}
use Rattle.std.specs.Rc.{rc_value}
use Rattle.arrow_spec.specs.declared.error.IpcError.{IpcError}
use Rattle.arrow_spec.specs.declared.message.Block.{Block}
use Rattle.arrow_spec.specs.Files.{FileBlock}
use Rattle.arrow_spec.specs.Readings.{Gives}
use Rattle.arrow_arrays.specs.Batches.{Batch}
use Rattle.ipc_io.specs.Outside.{SourceKept, LeavesFaults}
use Rattle.ipc_files.specs.BelowViews.{message_of}
use Rattle.ipc_files.specs.Below.{RecordMessage, MayProject}
use Rattle.ipc_files.specs.FileBlocks.{GivesIn, block_header, given}
use Rattle.ipc_files.specs.FileDictionaries.{DictionariesFetched}
use Rattle.ipc_files.specs.Fetching.{MetadataFetched}
use Rattle.ipc_files.specs.FileViews.{meta_view, FileCause}
use Rattle.ipc_files.specs.RowCounts.{CountCause, MessagesFetched, blocks_passed}
use Rattle.ipc_files.specs.Selections.{HasFields, schema_shown}
use Rattle.ipc_files.specs.Requests.{asked}
use Rattle.ipc_reader.specs.Cursors.{block_after, left_after}
use Rattle.ipc_reader.specs.Kept.{FetchedBy, GivesBy, KeepsFile, KeptAfter, KeptBehind, ReadUnderKept, is_refused}
use Rattle.ipc_reader.specs.declared.cursor.FileCursor.{FileCursor}
use Rattle.ipc_reader.specs.declared.kept.KeptDictionaries.TheVariants.{NotRead, Refused}

-- ── calls of a cursor c, which is c' behind them, over a source s, which is s' ──

module _ {S : Type 0} (content_of : S → Option (List ℕ)) (faults_of fetched_of : S → ℕ) (references_of : S → List ℕ) (s s' : S) (c c' : FileCursor) where
  -- the batch of the current block
  pub record ReadsCurrent (result : Result Batch IpcError) : Type 0 where
    pub gives : (columns : Option (List ℕ)) (x : Block) → MayProject (rc_value c.metadata.schema) columns c.projection
        → slice_get c.metadata.blocks.items c.block ≡ Some x
        → IfSome (content_of s) (λ b. GivesBy c.dictionaries (asked columns c.left) b c.metadata x result)
    pub read : (columns : Option (List ℕ)) (block : FileBlock) → MayProject (rc_value c.metadata.schema) columns c.projection
        → slice_get (meta_view c.metadata).blocks c.block ≡ Some block
        → IfOk result (ReadUnderKept (content_of s) (meta_view c.metadata) (asked columns c.left) block c'.dictionaries)
    pub first : c.dictionaries ≡ NotRead → KeepsFile (content_of s) (meta_view c.metadata) c'.dictionaries
    pub dictionaries : (columns : Option (List ℕ)) → MayProject (rc_value c.metadata.schema) columns c.projection
        → KeptAfter (content_of s) c.metadata columns c.dictionaries c'.dictionaries result
    -- where they end the reader no block was looked at
    pub stopped : c.dictionaries ≡ NotRead → c'.dictionaries ≡ Refused → DictionariesFetched (content_of s) (meta_view c.metadata) (fetched_of s) (fetched_of s')
    pub schema : (columns : Option (List ℕ)) → MayProject (rc_value c.metadata.schema) columns c.projection
        → IfOk result (λ x. HasFields x (schema_shown (rc_value c.metadata.schema) c.projection))
    pub left : c'.left ≡ c.left
    pub block : c'.block ≡ c.block
    pub projection : c'.projection ≡ c.projection
    pub metadata : c'.metadata ≡ c.metadata
    pub cause : IfErr result (λ e. FileCause e (faults_of s) (faults_of s'))
    pub faults_stay : LeavesFaults (faults_of s) (faults_of s') result
    pub fetched : (columns : Option (List ℕ)) (block : FileBlock) → MayProject (rc_value c.metadata.schema) columns c.projection
        → slice_get (meta_view c.metadata).blocks c.block ≡ Some block
        → FetchedBy c.dictionaries (content_of s) (meta_view c.metadata) (asked columns c.left) block c.left (fetched_of s) (fetched_of s')
    pub kept : SourceKept content_of faults_of references_of s s'

  -- the next record batch
  pub record NextBatch (result : Option (Result Batch IpcError)) : Type 0 where
    -- there is none exactly at or past the last block, or where a call before answered that the dictionaries are refused
    pub ended : MatchOption result ((length c.metadata.blocks.items ≤ c.block) ⊎ (is_refused c.dictionaries ≡ true))
        (λ x. (c.block < length c.metadata.blocks.items) × (is_refused c.dictionaries ≡ false))
    -- it is what the block means under the dictionaries, the columns that were asked for and what was left of the limit, or a refusal of its
    pub gives : (columns : Option (List ℕ)) (x : Block) → MayProject (rc_value c.metadata.schema) columns c.projection
        → slice_get c.metadata.blocks.items c.block ≡ Some x
        → IfSome result (λ r. IfSome (content_of s) (λ b. GivesBy c.dictionaries (asked columns c.left) b c.metadata x r))
    -- its columns stand in the block's body, under the dictionaries that are kept behind the call
    pub read : (columns : Option (List ℕ)) (block : FileBlock) → MayProject (rc_value c.metadata.schema) columns c.projection
        → slice_get (meta_view c.metadata).blocks c.block ≡ Some block
        → IfSome result (λ r. IfOk r (ReadUnderKept (content_of s) (meta_view c.metadata) (asked columns c.left) block c'.dictionaries))
    -- those that a call reads are the file's, as they came of its blocks
    pub first : c.dictionaries ≡ NotRead → KeepsFile (content_of s) (meta_view c.metadata) c'.dictionaries
    pub dictionaries : (columns : Option (List ℕ)) → MayProject (rc_value c.metadata.schema) columns c.projection
        → KeptBehind (content_of s) c.metadata columns c.dictionaries c'.dictionaries result
    -- where they end the reader no block was looked at
    pub stopped : c.dictionaries ≡ NotRead → c'.dictionaries ≡ Refused → DictionariesFetched (content_of s) (meta_view c.metadata) (fetched_of s) (fetched_of s')
    pub schema : (columns : Option (List ℕ)) → MayProject (rc_value c.metadata.schema) columns c.projection
        → IfSome result (λ r. IfOk r (λ x. HasFields x (schema_shown (rc_value c.metadata.schema) c.projection)))
    pub left : c'.left ≡ left_after c.left result
    pub block : c'.block ≡ block_after c.block result
    pub projection : c'.projection ≡ c.projection
    pub metadata : c'.metadata ≡ c.metadata
    pub cause : IfSome result (λ r. IfErr r (λ e. FileCause e (faults_of s) (faults_of s')))
    pub faults_stay : MatchOption result (faults_of s' ≡ faults_of s) (λ r. LeavesFaults (faults_of s) (faults_of s') r)
    -- no more is fetched than these columns of the block cost, and at the first batch the dictionaries; and nothing where there is none
    pub fetched : (columns : Option (List ℕ)) (block : FileBlock) → MayProject (rc_value c.metadata.schema) columns c.projection
        → slice_get (meta_view c.metadata).blocks c.block ≡ Some block
        → IfSome result (λ r. FetchedBy c.dictionaries (content_of s) (meta_view c.metadata) (asked columns c.left) block c.left (fetched_of s) (fetched_of s'))
    pub stays : result ≡ None → fetched_of s' ≡ fetched_of s
    pub kept : SourceKept content_of faults_of references_of s s'

  -- the message of the next record batch, whatever pairs it has; no rows are counted
  pub record NextMessage (result : Option (Result RecordMessage IpcError)) : Type 0 where
    pub ended : MatchOption result (length c.metadata.blocks.items ≤ c.block) (λ x. c.block < length c.metadata.blocks.items)
    pub gives : (x : Block) → slice_get c.metadata.blocks.items c.block ≡ Some x
        → IfSome result (λ r. GivesIn (content_of s) message_of r (λ b. given x (block_header b)))
    pub left : c'.left ≡ c.left
    pub dictionaries : c'.dictionaries ≡ c.dictionaries
    pub block : c'.block ≡ block_after c.block result
    pub projection : c'.projection ≡ c.projection
    pub metadata : c'.metadata ≡ c.metadata
    pub cause : IfSome result (λ r. IfErr r (λ e. CountCause e (faults_of s) (faults_of s')))
    pub faults_stay : MatchOption result (faults_of s' ≡ faults_of s) (λ r. LeavesFaults (faults_of s) (faults_of s') r)
    -- no more is fetched than the block's prefix and metadata, and nothing past the last block
    pub fetched : (block : FileBlock) → slice_get (meta_view c.metadata).blocks c.block ≡ Some block
        → IfSome result (λ r. MetadataFetched (content_of s) block (fetched_of s) (fetched_of s'))
    pub stays : result ≡ None → fetched_of s' ≡ fetched_of s
    pub kept : SourceKept content_of faults_of references_of s s'

  -- the blocks of a number of rows are passed, from the first one on
  pub record SkipsBlocks (offset : ℕ) (result : Result ℕ IpcError) : Type 0 where
    -- the current block is the one at which the rows end, and the answer what remains of them there
    pub gives : IfOk result (λ left. IfSome (content_of s) (λ b. blocks_passed b c.metadata.blocks.items 0 offset ≡ Ok (c'.block, left)))
    pub refused : IfErr result (λ e. IfSome (content_of s) (λ b. Gives (λ (p : ℕ × ℕ). p) (Err e) (blocks_passed b c.metadata.blocks.items 0 offset)))
    -- a refusal leaves the cursor where it was
    pub block : IfErr result (λ e. c'.block ≡ c.block)
    pub within : IfOk result (λ left. c'.block ≤ length c.metadata.blocks.items)
    pub left : c'.left ≡ c.left
    pub dictionaries : c'.dictionaries ≡ c.dictionaries
    pub projection : c'.projection ≡ c.projection
    pub metadata : c'.metadata ≡ c.metadata
    pub cause : IfErr result (λ e. CountCause e (faults_of s) (faults_of s'))
    pub faults_stay : LeavesFaults (faults_of s) (faults_of s') result
    -- of each block, at most its prefix and its metadata are fetched
    pub fetched : MessagesFetched (content_of s) (meta_view c.metadata).blocks (λ b. blocks_passed b c.metadata.blocks.items 0 offset)
        (fetched_of s) (fetched_of s')
    pub kept : SourceKept content_of faults_of references_of s s'
