-- The parts of a file that a request needs, and what they cost. (Arrow Columnar Format, "IPC File Format": blocks; "Buffer Listing for Each Layout".)
use Rattle.std.specs.Prelude.{ℕ, zero, suc, ◌+◌, ◌-◌, List, [], ◌∷◌, ◌++◌, length, take, drop, Option, Some, None, Ok, if◌then◌else◌, sum_by}
use Rattle.arrow_spec.specs.declared.error.IpcError.TheVariants.{OutOfSpec}
use Rattle.arrow_spec.specs.declared.error.OutOfSpecKind.TheVariants.{InvalidId}
use Rattle.arrow_spec.specs.Readings.{Reading, meaning, ◌>>=◌, required}
use Rattle.arrow_spec.specs.declared.types.UnionMode.{UnionMode}
use Rattle.arrow_spec.specs.declared.types.UnionMode.TheVariants.{Dense, Sparse}
use Rattle.arrow_spec.specs.Kinds.{Kind, Fields, none, field, null, binary, utf8, binary_view, utf8_view, «list», fixed_size_list, struct, map, union, extension, uses_in, values_under}
use Rattle.arrow_spec.specs.Messages.{prefix_of, batch_at, dictionary_at, version_of}
use Rattle.arrow_spec.specs.Counts.{RecordBatch, Place, first_place, magnitude, count_at, union_buffers, after, inside}
use Rattle.arrow_spec.specs.Arrays.{has_nulls, range_of, types_buffer}
use Rattle.arrow_spec.specs.Columns.{is_chosen}
use Rattle.arrow_spec.specs.Files.{Meta, FileBlock, Request, meta_of, block_message, block_body, dictionaries_read, record_batch_of}

-- a place, and how many bytes from there on
pub record Range : Type 0 where
  pub place : ℕ
  pub length : ℕ

-- i, i + 1, .., n of them
abbrev pub numbers_from : ℕ → ℕ → List ℕ
numbers_from i zero = []
numbers_from i (suc n) = i ∷ numbers_from (suc i) n

-- a validity is read where nulls are counted
abbrev pub validity_looked_at : RecordBatch → Place → List ℕ
validity_looked_at m p = if has_nulls m p then p.buffer ∷ [] else []

-- a union's types, and its offsets where it is dense
abbrev pub union_looked_at : RecordBatch → UnionMode → Place → List ℕ
union_looked_at m Sparse p = types_buffer m p ∷ []
union_looked_at m Dense p = types_buffer m p ∷ suc (types_buffer m p) ∷ []

-- the numbers of an array's buffers, the validities that are not read left out
abbrev mutual
  pub looked_at : RecordBatch → Kind → Place → List ℕ
  looked_at m (extension name metadata k) p = looked_at m k p
  looked_at m null p = []
  looked_at m (binary o) p = validity_looked_at m p ++ (p.buffer + 1) ∷ (p.buffer + 2) ∷ []
  looked_at m (utf8 o) p = validity_looked_at m p ++ (p.buffer + 1) ∷ (p.buffer + 2) ∷ []
  looked_at m binary_view p = validity_looked_at m p ++ numbers_from (p.buffer + 1) (suc (count_at m p.view))
  looked_at m utf8_view p = validity_looked_at m p ++ numbers_from (p.buffer + 1) (suc (count_at m p.view))
  looked_at m («list» o fs) p = validity_looked_at m p ++ (p.buffer + 1) ∷ looked_at_in m fs (inside 2 p)
  looked_at m (map sorted fs) p = validity_looked_at m p ++ (p.buffer + 1) ∷ looked_at_in m fs (inside 2 p)
  looked_at m (fixed_size_list size fs) p = validity_looked_at m p ++ looked_at_in m fs (inside 1 p)
  looked_at m (struct fs) p = validity_looked_at m p ++ looked_at_in m fs (inside 1 p)
  looked_at m (union mode stated ids fs) p = union_looked_at m mode p ++ looked_at_in m fs (inside (union_buffers m.version mode) p)
  looked_at m k p = validity_looked_at m p ++ (p.buffer + 1) ∷ []

  pub looked_at_in : RecordBatch → Fields → Place → List ℕ
  looked_at_in m none p = []
  looked_at_in m (field name nullable metadata k others) p = looked_at m k p ++ looked_at_in m others (after m k p)

-- the buffers of the columns asked for
abbrev pub columns_looked_at : RecordBatch → Option (List ℕ) → Fields → ℕ → Place → List ℕ
columns_looked_at m asked none c p = []
columns_looked_at m asked (field name nullable metadata k others) c p =
    (if is_chosen asked c then looked_at m k p else []) ++ columns_looked_at m asked others (suc c) (after m k p)

-- where buffers stand in the file
abbrev pub ranges : RecordBatch → ℕ → List ℕ → List Range
ranges m body [] = []
ranges m body (i ∷ is) = record { place = body + magnitude (range_of m i).offset; length = magnitude (range_of m i).length } ∷ ranges m body is

-- the prefix and the metadata of a block's message
abbrev pub message_range : List ℕ → FileBlock → Reading Range
message_range b block = prefix_of (take block.metadata (drop block.offset b)) >>= λ prefix. Ok (record { place = block.offset; length = prefix.0 + prefix.1 })

-- what a record block needs
unfoldable pub batch_needs : List ℕ → Meta → Request → FileBlock → Reading (List Range)
batch_needs b meta r block = do
  m ← block_message b block 3
  tables ← batch_at m.0 m.1.header
  version ← version_of m.0 m.1
  range ← message_range b block
  let source = record_batch_of meta.schema.order version tables (block_body b block)
  Ok (range ∷ ranges source (block.offset + block.metadata) (columns_looked_at source r.columns meta.schema.fields 0 first_place))

-- what a dictionary block needs
unfoldable pub dictionary_needs : List ℕ → Meta → FileBlock → Reading (List Range)
dictionary_needs b meta block = do
  m ← block_message b block 2
  x ← dictionary_at m.0 m.1.header
  version ← version_of m.0 m.1
  range ← message_range b block
  kind ← required (OutOfSpec (InvalidId x.id)) (values_under x.id (uses_in meta.schema.fields))
  let source = record_batch_of meta.schema.order version x.values (block_body b block)
  Ok (range ∷ ranges source (block.offset + block.metadata) (looked_at source kind first_place))

-- the ranges of each of some blocks
unfoldable pub all_need : (FileBlock → Reading (List Range)) → List FileBlock → Reading (List Range)
all_need needs [] = Ok []
all_need needs (block ∷ blocks) = do
  first ← needs block
  others ← all_need needs blocks
  Ok (first ++ others)

-- nothing is needed of what has no meaning
abbrev pub or_nothing : Option (List Range) → List Range
or_nothing None = []
or_nothing (Some xs) = xs

-- the footer's length
abbrev pub footer_size : List ℕ → Reading ℕ
footer_size b = Rattle.arrow_spec.specs.Files.footer_of b >>= λ f. Ok (length f)

-- trailer, footer, dictionaries and record blocks
unfoldable pub parts_needed : List ℕ → Request → Reading (List Range)
parts_needed b r = do
  meta ← meta_of b
  n ← footer_size b
  dictionaries ← all_need (λ block. dictionary_needs b meta block) (dictionaries_read meta.blocks meta.dictionaries)
  batches ← all_need (λ block. batch_needs b meta r block) meta.blocks
  Ok (record { place = length b - 10; length = 10 } ∷ record { place = length b - 10 - n; length = n } ∷ dictionaries ++ batches)

-- the ranges that a request needs
unfoldable pub needed : List ℕ → Request → List Range
needed b r = or_nothing (meaning (parts_needed b r))

-- their lengths together
abbrev pub lengths : List Range → ℕ
lengths ranges = sum_by (λ x. x.length) ranges

-- how many bytes a request fetches at most
unfoldable pub cost : List ℕ → Request → ℕ
cost b r = lengths (needed b r)
