-- What is known of a file whose blocks are walked, at a block of it.
use Rattle.std.specs.Prelude.{◌≡◌, ℕ, ◌<◌, ◌≤◌, List, [], length, take, true, Option, Ok}
use Rattle.std.specs.Rc.{rc_value}
use Rattle.arrow_spec.specs.Arrays.{Dictionaries}
use Rattle.arrow_spec.specs.Files.{ArrowTable, Asked, Meta, Purpose, Request, TableBatch, columns_right, fields_as_asked, to_read}
use Rattle.arrow_spec.specs.Kinds.{Fields, width}
use Rattle.arrow_types.specs.Schemas.{Keyed}
use Rattle.ipc_bodies.specs.declared.encoding.Encoding.{Encoding}
use Rattle.ipc_reader.specs.Below.{FileMetadata, FileSays, HoldsUses, MayProject, WasRead, file_custom, held_in, meta_view, schema_shown}
use Rattle.ipc_reader.specs.Kept.{HeldParts}
use Rattle.ipc_reader.specs.declared.cursor.FileCursor.{FileCursor}
use Rattle.ipc_reader.specs.declared.kept.KeptDictionaries.{KeptDictionaries}
use Rattle.ipc_reader.specs.declared.kept.KeptDictionaries.TheVariants.{Held, NotRead}
use Rattle.laws_reading.specs.Reads.{IsOpened}
use Rattle.laws_sent.specs.Parts.{PartTree}
use Rattle.laws_sent.specs.PartLaws.{AreReadParts}
use Rattle.laws_transcode.specs.Files.{HasRead, asked_of, left_of}
use Rattle.laws_walk.specs.Walks.{Walk, asked_by, blocks_walked, table_walked, within}

-- ── files ──

-- a file that is walked, and where the text of what is made of it begins
pub record Walking : Type 0 where
  pub bytes : List ℕ
  pub file : FileMetadata
  pub walk : Walk
  pub encoding : Encoding
  pub start : Option (List ℕ)

-- the same within a request
pub record Sending : Type 0 where
  pub bytes : List ℕ
  pub file : FileMetadata
  pub request : Request
  pub encoding : Encoding
  pub start : Option (List ℕ)

abbrev pub walking : Sending → Walking
walking x = record { bytes = x.bytes; file = x.file; walk = within x.request; encoding = x.encoding; start = x.start }

-- what its metadata says, and the fields that are kept
abbrev pub meta_walked : Walking → Meta
meta_walked x = meta_view x.file

abbrev pub fields_walked : Walking → Fields
fields_walked x = fields_as_asked x.walk.columns (meta_walked x).schema.fields

abbrev pub meta_in : Sending → Meta
meta_in x = meta_view x.file

abbrev pub fields_in_request : Sending → Fields
fields_in_request x = fields_as_asked x.request.columns (meta_in x).schema.fields

-- what is asked of its blocks, under dictionaries
abbrev pub asked_walked : Walking → Dictionaries → Asked
asked_walked x d = asked_by x.bytes (meta_walked x) x.walk d

abbrev pub asked_in : Sending → Dictionaries → Asked
asked_in x d = asked_of x.bytes (meta_in x) x.request d

-- the table of some of its batches
abbrev pub table_sent : Walking → List TableBatch → ArrowTable
table_sent x bs = table_walked (file_custom x.file) (meta_walked x) x.walk bs

-- ── places ──

-- a place in a file: the next block, what is left of the limit, and what is kept of the dictionaries
pub record Place : Type 0 where
  pub block : ℕ
  pub left : Option ℕ
  pub dictionaries : KeptDictionaries

abbrev pub place_of : FileCursor → Place
place_of c = record { block = c.block; left = c.left; dictionaries = c.dictionaries }

-- the dictionaries of the file were read, and are held
pub record DictionariesRead (x : Walking) (p : Place) : Type 0 where
  pub held : HeldParts
  pub kept : p.dictionaries ≡ Held held
  pub dictionaries : Dictionaries
  pub has : HasRead x.bytes (meta_walked x) dictionaries
  pub parts : List PartTree
  pub read : AreReadParts (meta_walked x).schema.fields dictionaries (held_in held) parts
  pub uses : HoldsUses (meta_walked x) (held_in held)

-- before the first block nothing is read of them, and behind it they are held
pub data KeptSoFar (x : Walking) (p : Place) : Type 0 where
  none_yet : p.block ≡ 0 → p.dictionaries ≡ NotRead → KeptSoFar x p
  all_read : DictionariesRead x p → 0 < p.block → KeptSoFar x p

-- blocks up to a place give these batches, under whatever dictionaries were read
abbrev pub GivesUpTo : Purpose → Walking → ℕ → List TableBatch → Type 0
GivesUpTo purpose x n bs = (d : Dictionaries) → HasRead x.bytes (meta_walked x) d
    → blocks_walked purpose x.bytes x.walk (asked_walked x d) true (take n (meta_walked x).blocks) x.walk.limit ≡ Ok bs

-- the blocks before a place were walked, which gave these batches
pub record Walked (purpose : Purpose) (x : Walking) (p : Place) (bs : List TableBatch) : Type 0 where
  pub kept : KeptSoFar x p
  pub read : GivesUpTo to_read x p.block bs
  pub done : GivesUpTo purpose x p.block bs
  pub none : p.block ≡ 0 → bs ≡ []
  pub within : p.block ≤ length (meta_walked x).blocks
  pub left : p.left ≡ left_of x.walk.limit bs

-- ── cursors ──

-- the schema of a reader's columns
abbrev pub schema_of_reader : FileCursor → List Keyed
schema_of_reader c = schema_shown (rc_value c.metadata.schema) c.projection

-- a reader reads a file under a request
pub record IsReadBy (c : FileCursor) (x : Sending) : Type 0 where
  pub metadata : c.metadata ≡ x.file
  pub columns : MayProject (rc_value x.file.schema) x.request.columns c.projection
  pub file : IsOpened x.bytes x.request (meta_in x) (file_custom x.file)
  pub read : WasRead x.file

-- a reader of a file at its first block, of which nothing was read yet
pub record IsUnread (c : FileCursor) (x : Sending) : Type 0 where
  pub metadata : c.metadata ≡ x.file
  pub columns : MayProject (rc_value x.file.schema) x.request.columns c.projection
  pub right : columns_right x.request.columns (width (meta_in x).schema.fields) ≡ Ok tt
  pub says : FileSays x.bytes (meta_in x) (file_custom x.file)
  pub read : WasRead x.file
  pub block : c.block ≡ 0
  pub dictionaries : c.dictionaries ≡ NotRead
  pub left : c.left ≡ x.request.limit
