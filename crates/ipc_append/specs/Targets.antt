-- The file that a stream is appended to, before anything is written. (Arrow Columnar Format, "IPC File Format".)
use Rattle.std.specs.Prelude.{◌≡◌, ◌⊎◌, ℕ, List, [], true, Option, None, Result, Ok, Err, IfSome}
use Rattle.std.specs.Rc.{rc_value}
use Rattle.arrow_spec.specs.declared.error.IpcError.{IpcError}
use Rattle.arrow_spec.specs.declared.error.IpcError.TheVariants.{SchemaMismatch}
use Rattle.arrow_spec.specs.Arrays.{Dictionaries}
use Rattle.arrow_spec.specs.Files.{Request, dictionaries_of, file_reading, to_send}
use Rattle.arrow_spec.specs.Kinds.{bare, have_same_kinds}
use Rattle.arrow_spec.specs.Readings.{Refuses, refusals}
use Rattle.arrow_types.specs.Schemas.{fields_in}
use Rattle.ipc_file_writer.specs.Below.{DictionaryTracker}
use Rattle.ipc_streams.specs.Below.{HoldsUses, FileCause, FileSays, WasRead, file_custom, meta_view, FileMetadata, held_in, HoldsCells, WriteOptions}
use Rattle.ipc_io.specs.Outside.{IsSize}
use Rattle.ipc_streams.specs.Starts.{stream_schema}
use Rattle.ipc_streams.specs.declared.metadata.StreamMetadata.{StreamMetadata}

-- ── its metadata ──

-- metadata is what the footer of a file says
pub record IsMetadata (content : Option (List ℕ)) (m : FileMetadata) : Type 0 where
  pub says : IfSome content (λ b. FileSays b (meta_view m) (file_custom m))
  pub size : IsSize content m.size
  pub read : WasRead m

-- the fields of a file and of a stream are the same, dictionary ids aside
abbrev pub HaveSameFields : FileMetadata → StreamMetadata → Type 0
HaveSameFields m s = bare (meta_view m).schema.fields ≡ bare (stream_schema s).fields

-- a file takes a stream: its fields are the same, and of the same kinds
pub record Takes (content : Option (List ℕ)) (s : StreamMetadata) (m : FileMetadata) : Type 0 where
  pub metadata : IsMetadata content m
  pub fields : HaveSameFields m s
  pub kinds : have_same_kinds (fields_in (rc_value m.schema)) (fields_in (rc_value s.schema)) ≡ true

-- its metadata is refused
pub record LacksMetadata (content : Option (List ℕ)) (e : IpcError) (faults faults' : ℕ) : Type 0 where
  pub cause : FileCause e faults faults'
  pub refused : IfSome content (λ b. (r : Request) → Refuses e (refusals (file_reading to_send b r None)))

-- its fields are others than the stream's
pub record HasOtherFields (content : Option (List ℕ)) (s : StreamMetadata) : Type 0 where
  pub file : FileMetadata
  pub metadata : IsMetadata content file
  pub others : HaveSameFields file s → ⊥

-- why it does not take the stream
abbrev pub DoesNotTake : Option (List ℕ) → IpcError → StreamMetadata → ℕ → ℕ → Type 0
DoesNotTake content e s faults faults' = LacksMetadata content e faults faults' ⊎ ((e ≡ SchemaMismatch) × HasOtherFields content s)

-- ── its dictionaries ──

-- a tracker that replaces nothing holds what the blocks of a file say
pub record HoldsDictionaries (content : Option (List ℕ)) (asked : WriteOptions) (m : FileMetadata) (t : DictionaryTracker) : Type 0 where
  pub fixed : t.cannot_replace ≡ true
  pub deltas : t.deltas ≡ asked.deltas
  pub values : IfSome content (λ b. (d : Dictionaries) × (dictionaries_of b (meta_view m) [] (meta_view m).dictionaries ≡ Ok d)
      × HoldsCells d (held_in t.dictionaries))
  pub uses : HoldsUses (meta_view m) (held_in t.dictionaries)

-- they are refused
pub record LacksDictionaries (content : Option (List ℕ)) (e : IpcError) (m : FileMetadata) (faults faults' : ℕ) : Type 0 where
  pub cause : FileCause e faults faults'
  pub refused : IfSome content (λ b. Refuses e (refusals (dictionaries_of b (meta_view m) [] (meta_view m).dictionaries)))

abbrev pub ReadsDictionaries : Result DictionaryTracker IpcError → Option (List ℕ) → WriteOptions → FileMetadata → ℕ → ℕ → Type 0
ReadsDictionaries (Ok t) content asked m faults faults' = HoldsDictionaries content asked m t
ReadsDictionaries (Err e) content asked m faults faults' = LacksDictionaries content e m faults faults'
