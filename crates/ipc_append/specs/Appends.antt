-- A file that is cut behind its last block and goes on there. (Arrow Columnar Format, "IPC File Format".)
use Rattle.std.specs.Prelude.{◌≡◌, ◌⊎◌, ◌≤◌, ℕ, List, [], length, nat_le, false, Option, None, Some, Ok, IfSome, option_map}
use Rattle.std.specs.List.{AllByRecursion}
use Rattle.arrow_spec.specs.declared.error.Counted.TheVariants.{Pairs}
use Rattle.arrow_spec.specs.declared.error.Feature.TheVariants.{BigEndianAppend, Compression}
use Rattle.arrow_spec.specs.declared.error.IpcError.{IpcError}
use Rattle.arrow_spec.specs.declared.error.IpcError.TheVariants.{Memory, TooLarge, TooMany, Unsupported, WriteFault}
use Rattle.arrow_spec.specs.Arrays.{Dictionaries}
use Rattle.arrow_spec.specs.Features.{chosen_floats}
use Rattle.arrow_spec.specs.Files.{ArrowTable, FileBlock, «all», block_message, dictionaries_of, lengths_sum}
use Rattle.arrow_spec.specs.Layout.{up_to}
use Rattle.arrow_spec.specs.Meaning.{file_table}
use Rattle.arrow_spec.specs.Messages.{BatchHeader, DictionaryBatch, Message, batch_at, dictionary_at}
use Rattle.arrow_spec.specs.Readings.{◌>>=◌, IsAmong, Reading, Refuses, free_of, is_absent, refusals, unless}
use Rattle.ipc_fields.specs.IpcFields.{ids_of, metadata_of}
use Rattle.ipc_file_writer.specs.Calls.{ending_of, file_ids}
use Rattle.ipc_file_writer.specs.Written.{IsFile, cells_by, own_fields, table_by}
use Rattle.ipc_file_writer.specs.declared.file.FileCore.{FileCore}
use Rattle.ipc_streams.specs.Below.{HoldsUses, FileCause, FileSays, WasRead, file_custom, meta_view, FileMetadata, held_in, HoldsCells, WriteOptions}
use Rattle.ipc_disk.specs.Disks.{below}
use Rattle.ipc_disk.specs.Tails.{cut_and_padded}
use Rattle.ipc_io.specs.Outside.{Rose}
use Rattle.ipc_file_writer.specs.Below.{SchemaIsSaid, Started}
use Rattle.ipc_append.specs.Places.{last_end}

-- Where a file is cut: it is little-endian, and neither compression nor a column that no array is of is asked for; its blocks are as above; its footer has no more pairs than any, and it goes on below 2^63.
unfoldable pub cut_place : WriteOptions → FileMetadata → Reading ℕ
cut_place options m = do
  little ← unless m.ipc_schema.is_little_endian (Unsupported BigEndianAppend)
  plain ← unless (is_absent options.compression) (Unsupported Compression)
  floats ← free_of (chosen_floats None (meta_view m).schema.fields 0)
  end ← last_end m
  few ← unless (nat_le (length (file_custom m)) 1048576) (TooMany Pairs)
  near ← unless (nat_le (up_to 8 end) 9223372036854775807) TooLarge
  Ok end

-- the writer of a file that goes on behind a place: it has the file's schema, ids, pairs and blocks, and goes on at the next multiple of 8
pub record Continues (asked : WriteOptions) (m : FileMetadata) (place : ℕ) (c : FileCore) : Type 0 where
  pub options : c.options ≡ asked
  pub state : c.state ≡ Started
  pub schema : c.schema ≡ m.schema
  pub ids : file_ids c ≡ ids_of m.ipc_schema.fields.items
  pub pairs : c.pairs ≡ record { schema = m.custom_schema_metadata; footer = m.custom_metadata }
  pub dictionaries : c.blocks.dictionaries ≡ m.dictionaries
  pub records : c.blocks.records ≡ m.blocks
  pub end : c.blocks.end ≡ up_to 8 place
  pub unwritten : c.has_written ≡ false

-- what it holds of dictionaries is what the file's blocks say
abbrev pub HoldsFile : Option (List ℕ) → FileMetadata → FileCore → Type 0
HoldsFile content m c = IfSome content (λ b. (d : Dictionaries) × (dictionaries_of b (meta_view m) [] (meta_view m).dictionaries ≡ Ok d)
    × HoldsCells d (held_in c.tracker.dictionaries))

-- a file goes on behind a place: it may be cut there, and ended as it stands
pub record IsContinued (content : Option (List ℕ)) (asked : WriteOptions) (m : FileMetadata) (place : ℕ) (c : FileCore) : Type 0 where
  pub is_cut : cut_place asked m ≡ Ok place
  pub continues : Continues asked m place c
  pub held : HoldsFile content m c
  pub uses : HoldsUses (meta_view m) (held_in c.tracker.dictionaries)
  pub bytes : List ℕ
  pub may_end : ending_of c ≡ Ok bytes

-- its dictionaries are refused
pub record LacksDictionaries (content : Option (List ℕ)) (e : IpcError) (asked : WriteOptions) (m : FileMetadata) (faults faults' : ℕ) : Type 0 where
  pub place : ℕ
  pub is_cut : cut_place asked m ≡ Ok place
  pub cause : FileCause e faults faults'
  pub refused : IfSome content (λ b. Refuses e (refusals (dictionaries_of b (meta_view m) [] (meta_view m).dictionaries)))

-- it could not be ended as it stands
pub record MayNotEnd (content : Option (List ℕ)) (e : IpcError) (asked : WriteOptions) (m : FileMetadata) : Type 0 where
  pub place : ℕ
  pub is_cut : cut_place asked m ≡ Ok place
  pub core : FileCore
  pub continues : Continues asked m place core
  pub held : HoldsFile content m core
  pub refused : IsAmong (refusals (ending_of core)) e

-- why a file does not go on: memory was wanted, or it may not be cut, or its dictionaries are refused, or it could not be ended
abbrev pub StopsBefore : Option (List ℕ) → IpcError → WriteOptions → FileMetadata → ℕ → ℕ → Type 0
StopsBefore content e asked m faults faults' =
    (e ≡ Memory) ⊎ (IsAmong (refusals (cut_place asked m)) e ⊎ (LacksDictionaries content e asked m faults faults' ⊎ MayNotEnd content e asked m))

-- ── what it means ──

-- the buffers of a dictionary's message in a block are together no longer than the bytes before the cut
abbrev pub ValuesAreShort : List ℕ → ℕ → FileBlock → Type 0
ValuesAreShort b place k = (m : List ℕ × Message) (x : DictionaryBatch) → block_message b k 2 ≡ Ok m → dictionary_at m.0 m.1.header ≡ Ok x
    → lengths_sum x.values.buffers ≤ place

-- and so those of a batch's
abbrev pub BatchIsShort : List ℕ → ℕ → FileBlock → Type 0
BatchIsShort b place k = (m : List ℕ × Message) (tables : BatchHeader) → block_message b k 3 ≡ Ok m → batch_at m.0 m.1.header ≡ Ok tables
    → lengths_sum tables.buffers ≤ place

-- a file that means a table, by metadata that was read of it, and whose buffers, message by message, are no longer than what is left of it
pub record MeansBefore (b : List ℕ) (m : FileMetadata) (place : ℕ) (t : ArrowTable) : Type 0 where
  pub says : FileSays b (meta_view m) (file_custom m)
  pub read : WasRead m
  pub table : file_table b «all» ≡ Some t
  pub dictionaries : AllByRecursion (ValuesAreShort b place) (meta_view m).dictionaries
  pub records : AllByRecursion (BatchIsShort b place) (meta_view m).blocks

-- a writer of a file of so many bytes goes on with a table: by its blocks they mean the table's batches, the table has its fields and pairs, and its schema may be said
pub record GoesOnWith (c : FileCore) (x : List ℕ) (t : ArrowTable) : Type 0 where
  pub file : IsFile (cells_by c) c x t.batches
  pub table : table_by c t.batches ≡ t
  pub said : SchemaIsSaid (own_fields c) (metadata_of c.pairs.schema)

-- ── appended ──

-- the disk was cut there, with zeros up to a multiple of 8, and the file goes on behind them
pub record IsAppending (old new : Option (List ℕ)) (end : ℕ) (asked : WriteOptions) (m : FileMetadata) (c : FileCore) : Type 0 where
  pub place : ℕ
  pub continued : IsContinued old asked m place c
  pub cut : new ≡ option_map (cut_and_padded place) old
  pub behind : end ≡ up_to 8 place
  -- where the file means a table, what is left of it means the table's batches still
  pub means : (b : List ℕ) (t : ArrowTable) → old ≡ Some b → MeansBefore b m place t → GoesOnWith c (cut_and_padded place b) t

-- the disk failed, or wanted memory, where it was cut or padded: the bytes below the cut are as they were
pub record CutFails (old new : Option (List ℕ)) (e : IpcError) (asked : WriteOptions) (m : FileMetadata) (faults faults' : ℕ) : Type 0 where
  pub place : ℕ
  pub core : FileCore
  pub continued : IsContinued old asked m place core
  pub kept : below place new ≡ below place old
  pub cause : ((e ≡ WriteFault) × Rose faults faults') ⊎ (e ≡ Memory)

-- a file does not go on: before the cut nothing is changed
abbrev pub DoesNotAppend : Option (List ℕ) → Option (List ℕ) → IpcError → WriteOptions → FileMetadata → ℕ → ℕ → Type 0
DoesNotAppend old new e asked m faults faults' = (StopsBefore old e asked m faults faults' × (new ≡ old)) ⊎ CutFails old new e asked m faults faults'
