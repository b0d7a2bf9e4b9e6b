-- What follows from the definitions of what a file means. Each statement is the contract of a public function without a body.
use Rattle.std.specs.Prelude.{◌≡◌, ◌⊎◌, ℕ, ◌<◌, ◌≤◌, ◌^◌, ◌++◌, List, [], ◌∷◌, Option, Some, None, Ok, Err, true, false, nat_eq, length, take, drop}
use Rattle.std.specs.List.{AllByRecursion, IsDistinct}
use Rattle.arrow_spec.specs.declared.error.IpcError.{IpcError}
use Rattle.arrow_spec.specs.declared.error.IpcError.TheVariants.{TooLarge}
use Rattle.arrow_spec.specs.Readings.{meaning}
use Rattle.arrow_spec.specs.Flat.{little}
use Rattle.arrow_spec.specs.Kinds.{Fields, Metadata, width}
use Rattle.arrow_spec.specs.Sent.{SentMessage, all_may_be_sent}
use Rattle.arrow_spec.specs.Layout as layout
use Rattle.arrow_spec.specs.Messages.{footer_pairs}
use Rattle.arrow_spec.specs.Files.{Request, «all», ArrowTable, FileBlock, file_reading, meta_in, to_read, to_send, sent, project, cut}
use Rattle.arrow_spec.specs.Footers.{footer_node}
use Rattle.arrow_spec.specs.WrittenSchemas.{CustomMayBeWritten, IdsMayBeWritten, SchemaMayBeWritten}
use Rattle.laws_files.specs.Fetched.{fetched}
use Rattle.arrow_spec.specs.Meaning.{file_table}
use Rattle.arrow_spec.specs.Needed.{Range, cost, lengths, parts_needed, or_nothing}

-- ── projections and limits ──

-- distinct columns, each below a count
pub record AreColumns (columns : List ℕ) (count : ℕ) : Type 0 where
  pub distinct : IsDistinct nat_eq columns
  pub in_range : AllByRecursion (λ c. c < count) columns

-- the same where all may be asked for
abbrev pub AreAskedColumns : Option (List ℕ) → ℕ → Type 0
AreAskedColumns None count = Unit {0}
AreAskedColumns (Some columns) count = AreColumns columns count

-- Where a whole file means a table, it means under a request the columns asked for of that table, each batch cut to its share of the limit.
abbrev pub ProjectsAndCuts : Type 0
ProjectsAndCuts = (b : List ℕ) (t : ArrowTable) (r : Request) → file_table b «all» ≡ Some t → AreAskedColumns r.columns (width t.fields)
    → file_table b r ≡ Some (cut (project t r.columns) r.limit)

-- two files have the same bytes in each of some ranges
abbrev pub AgreeOn : List ℕ → List ℕ → List Range → Type 0
AgreeOn b b' ranges = AllByRecursion (λ x. take x.length (drop x.place b') ≡ take x.length (drop x.place b)) ranges

-- A file of the same length that agrees on the parts that a request needs means the same under it.
abbrev pub DependsOnNeeded : Type 0
DependsOnNeeded = (b b' : List ℕ) (r : Request) (t : ArrowTable) → file_table b r ≡ Some t
    → length b' ≡ length b → AgreeOn b b' (or_nothing (meaning (parts_needed b r))) → file_table b' r ≡ Some t

-- So it is where the file agrees on what is fetched: of what is read for no rows, none of the buffers.
abbrev pub DependsOnFetched : Type 0
DependsOnFetched = (b b' : List ℕ) (r : Request) (t : ArrowTable) → file_table b r ≡ Some t
    → length b' ≡ length b → AgreeOn b b' (fetched b r) → file_table b' r ≡ Some t

-- What is fetched under a request is together no longer than the request costs.
abbrev pub FetchedWithinCost : Type 0
FetchedWithinCost = (b : List ℕ) (r : Request) → lengths (fetched b r) ≤ cost b r

-- ── files that are sent ──

-- the messages of a file that means a table: it is sent as that table where each of them may be, and is too large where one may not
pub record IsSentOrTooLarge (b : List ℕ) (r : Request) (j : Option ℕ) (t : ArrowTable) : Type 0 where
  pub messages : List SentMessage
  pub are_sent : sent b r j ≡ Ok messages
  pub whole : all_may_be_sent messages ≡ true → file_reading to_send b r j ≡ Ok t
  pub too_large : all_may_be_sent messages ≡ false → file_reading to_send b r j ≡ Err (TooLarge ∷ [])

-- A file that means a table, in all its blocks or the first j, is refused where it is to be sent exactly where a message of it may not be sent.
abbrev pub TooLargeWhereAMessageIs : Type 0
TooLargeWhereAMessageIs = (b : List ℕ) (r : Request) (j : Option ℕ) (t : ArrowTable) → file_reading to_read b r j ≡ Ok t → IsSentOrTooLarge b r j t

-- some of a file's first blocks mean a table of which a message may not be sent
pub record IsTooLargeAt (b : List ℕ) (r : Request) : Type 0 where
  pub blocks : ℕ
  pub table : ArrowTable
  pub messages : List SentMessage
  pub read : file_reading to_read b r (Some blocks) ≡ Ok table
  pub are_sent : sent b r (Some blocks) ≡ Ok messages
  pub large : all_may_be_sent messages ≡ false

-- A file that is refused where it is to be sent is refused so where it is read, or else a message of its first blocks may not be sent.
abbrev pub RefusedAsReadOrTooLarge : Type 0
RefusedAsReadOrTooLarge = (b : List ℕ) (r : Request) (j : Option ℕ) (es : List IpcError) → file_reading to_send b r j ≡ Err es
    → (file_reading to_read b r j ≡ Err es) ⊎ ((es ≡ TooLarge ∷ []) × IsTooLargeAt b r)

-- ── footers ──

-- a block whose numbers fit their fields (File.fbs, Block)
pub record BlockFits (x : FileBlock) : Type 0 where
  pub offset : x.offset < 2 ^ 63
  pub metadata : x.metadata < 2 ^ 31
  pub body : x.body < 2 ^ 63

-- blocks that fit into one vector
pub record BlocksFit (xs : List FileBlock) : Type 0 where
  pub numbers : AllByRecursion BlockFits xs
  pub count : length xs < 2 ^ 32

-- A footer is read as it is written, whatever stands behind it: its schema, little-endian, both lists of blocks, and its pairs.
abbrev pub FooterReadsBack : Type 0
FooterReadsBack = (fs : Fields) (pairs custom : Metadata) (dictionaries records : List FileBlock) (rest : List ℕ) → SchemaMayBeWritten fs pairs
    → IdsMayBeWritten fs → CustomMayBeWritten custom → BlocksFit dictionaries → BlocksFit records
    → layout.size (footer_node fs pairs custom dictionaries records) < 2 ^ 31
    → (meta_in (layout.layout (footer_node fs pairs custom dictionaries records) ++ rest)
    ≡ Ok (record { schema = record { order = little; fields = fs; metadata = pairs }; blocks = records; dictionaries = dictionaries }))
    × (footer_pairs (layout.layout (footer_node fs pairs custom dictionaries records) ++ rest) ≡ Ok custom)
