-- Record batches that are read from a source: what they mean, and how many bytes are fetched for them.
use Rattle.std.specs.Prelude.{◌≡◌, ℕ, zero, suc, ◌+◌, ◌≤◌, List, [], ◌∷◌, map, Bool, true, false, Option, Some, None, Ok, nat_eq, nat_lt, ◌&&◌, ◌||◌, not, if◌then◌else◌, ℤ, pos, slice_get}
use Rattle.arrow_spec.specs.Readings.{Reading, free_of, ◌>>=◌}
use Rattle.arrow_spec.specs.Flat.{Order, order_by}
use Rattle.arrow_spec.specs.Columns.{is_chosen, columns_at}
use Rattle.arrow_spec.specs.Cells.{Cell}
use Rattle.arrow_spec.specs.Arrays.{Dictionaries}
use Rattle.arrow_spec.specs.Kinds.{Kind, Fields, none, field, width, «list», struct, fixed_size_list, dictionary, extension}
use Rattle.arrow_spec.specs.Kinds as kind
use Rattle.arrow_spec.specs.Schema.{first_is_struct_of_two}
use Rattle.arrow_spec.specs.Messages.{BatchHeader}
use Rattle.arrow_spec.specs.declared.message.MetadataVersion.{MetadataVersion}
use Rattle.arrow_spec.specs.Counts.{RecordBatch, Place, first_place, after}
use Rattle.arrow_spec.specs.Features.{chosen_floats}
use Rattle.arrow_spec.specs.Needed.{columns_looked_at}
use Rattle.arrow_spec.specs.Files.{TableBatch, batch_of_tables, to_read, none_negative, lengths_sum, Asked}
use Rattle.arrow_spec.specs.declared.message.FieldNode.{FieldNode}
use Rattle.arrow_spec.specs.declared.message.IpcBuffer.{IpcBuffer}
use Rattle.arrow_types.specs.Physical.{physical_of}
use Rattle.arrow_types.specs.UnionIds.{are_right}
use Rattle.arrow_types.specs.Schemas.{Keyed, fields_in}
use Rattle.arrow_types.specs.declared.physical.PhysicalType.{PhysicalType}
use Rattle.arrow_types.specs.declared.physical.PhysicalType.TheVariants.{FixedSizeBinary, Primitive}
use Rattle.arrow_types.specs.declared.physical.PrimitiveType.{PrimitiveType}
use Rattle.arrow_types.specs.declared.physical.PrimitiveType.TheVariants as primitive
use Rattle.arrow_types.specs.declared.data_type.Field.{Field}
use Rattle.arrow_types.specs.KindOf.{kind_of, child_of}
use Rattle.arrow_spec.specs.declared.error.Feature.{Feature}
use Rattle.arrow_spec.specs.declared.error.Feature.TheVariants as features
use Rattle.arrow_buffers.specs.Layouts.{binary_size}
use Rattle.arrow_arrays.specs.Parts.{Parts, cells_in}
use Rattle.arrow_arrays.specs.Batches.{Batch}
use Rattle.ipc_read_laws.specs.Held.{Held}
use Rattle.ipc_read_laws.specs.PartsRead.{parts_read}
use Rattle.ipc_read_laws.specs.Faults.{stated_of, fetched_at_most}
use Rattle.arrow_arrays.specs.Carried.{is_carried}
use Rattle.ipc_fields.specs.IpcFields.{ids_of, fields_with}
use Rattle.ipc_fields.specs.declared.ipc_field.IpcField.{IpcField}
use Rattle.ipc_read.specs.Skips.{is_plain_layout}
use Rattle.ipc_read_laws.specs.Projection.{kept, chosen}

-- ── the columns ──

-- columns of a layout without children may be read or refused: no byte strings of size 0
abbrev pub is_column_layout : PhysicalType → ℕ → Bool
is_column_layout FixedSizeBinary size = nat_lt 0 size
is_column_layout layout size = is_plain_layout layout

-- columns of the kind may be read or refused: the same of each kind in it, a dictionary's values' too; lists and maps have one child, maps a struct of two, sizes are above 0, and the ids of unions are right
abbrev mutual
  pub is_column_kind : Kind → Bool
  is_column_kind («list» o fs) = nat_eq (width fs) 1 && are_column_fields fs
  is_column_kind (kind.map sorted fs) = (nat_eq (width fs) 1 && first_is_struct_of_two fs) && are_column_fields fs
  is_column_kind (fixed_size_list size fs) = (nat_eq (width fs) 1 && nat_lt 0 size) && are_column_fields fs
  is_column_kind (struct fs) = are_column_fields fs
  is_column_kind (kind.union mode stated ids fs) = are_right ids (width fs) && are_column_fields fs
  is_column_kind (dictionary t ordered id k) = is_column_kind k
  is_column_kind (extension name metadata k) = is_column_kind k
  is_column_kind k = is_column_layout (physical_of k) (binary_size k)

  pub are_column_fields : Fields → Bool
  are_column_fields none = true
  are_column_fields (field name nullable metadata k others) = is_column_kind k && are_column_fields others

-- the same of each field that is asked for, the first having number c
abbrev pub are_column_kinds : Option (List ℕ) → ℕ → List Keyed → Bool
are_column_kinds asked c [] = true
are_column_kinds asked c (p ∷ ps) = (not (is_chosen asked c) || is_column_kind p.1.kind) && are_column_kinds asked (suc c) ps

-- the kind of each field that is asked for is one that is read, the first field having number c
abbrev pub are_carried_kinds : Option (List ℕ) → ℕ → List Keyed → Bool
are_carried_kinds asked c [] = true
are_carried_kinds asked c (p ∷ ps) = (not (is_chosen asked c) || is_carried p.1.kind) && are_carried_kinds asked (suc c) ps

-- what of numbers, and of a layout, is not read
abbrev pub unread_number : PrimitiveType → Option Feature
unread_number primitive.Float16 = Some features.Float
unread_number primitive.Float32 = Some features.Float
unread_number primitive.Float64 = Some features.Float
unread_number primitive.Int256 = Some features.Decimal256
unread_number t = None

abbrev pub unread_feature : PhysicalType → Option Feature
unread_feature (Primitive t) = unread_number t
unread_feature layout = None

-- a field stands at a place of a schema
pub record IsFieldAt (s : List Keyed) (i : ℕ) (f : Field) : Type 0 where
  pub key : List ℕ
  pub at : slice_get s i ≡ Some (key, child_of f)
  pub kind : (child_of f).kind ≡ kind_of f.dtype

-- ── the batch ──

-- the cells of the columns that are asked for, each as far as its first few rows go
abbrev pub cells_asked : RecordBatch → Dictionaries → Option (List ℕ) → Fields → ℕ → ℕ → Reading (List (List Cell))
cells_asked m d asked fs rows few = columns_at m d asked fs 0 first_place rows few >>= λ all. Ok (chosen asked 0 all)

-- some columns of some fields, where these dictionaries were read
abbrev pub columns_asked : Option (List ℕ) → Order → Fields → Dictionaries → ℕ → Asked
columns_asked columns order fs d most = record { order = order; fields = fs; columns = columns; dictionaries = d; most = most }

-- what the columns asked for of a batch mean, as far as its first rows go, where a limit is set; their kinds are looked at first
abbrev pub batch_reading : Option (List ℕ) → Option ℕ → Bool → Fields → Dictionaries → ℕ → MetadataVersion → BatchHeader → List ℕ → Reading TableBatch
batch_reading columns limit is_little_endian fs d most version tables body =
    free_of (chosen_floats columns fs 0) >>= λ readable. batch_of_tables to_read
    (columns_asked columns (order_by is_little_endian) fs d most) version [] tables body limit

-- a batch without pairs as a table has it
abbrev pub table_in : ℕ → List Parts → TableBatch
table_in rows arrays = record { rows = rows; columns = map cells_in arrays; custom = [] }

-- a batch as a table has it
abbrev pub table_of : Batch → TableBatch
table_of b = record { rows = b.height; columns = map cells_in b.arrays; custom = b.custom }

-- the queues are those of a batch's tables
pub record AreQueuesOf (tables : BatchHeader) (ns : List FieldNode) (bs : List IpcBuffer) (vs : List ℤ) : Type 0 where
  pub nodes : ns ≡ tables.nodes
  pub buffers : bs ≡ tables.buffers
  pub variadic : vs ≡ tables.variadic

-- the tables let their columns be read for so many rows
pub record MayBeRead (tables : BatchHeader) (most rows : ℕ) : Type 0 where
  pub plain : tables.compressed ≡ false
  pub count : tables.length ≡ pos rows
  pub natural : none_negative tables.buffers ≡ true
  pub few : lengths_sum tables.buffers ≤ most

-- the parts of the columns that are asked for, which stand from a place on, the first having number c
abbrev pub chosen_read : RecordBatch → Held → Option (List ℕ) → Fields → ℕ → Place → ℕ → List Parts
chosen_read m h asked none c p rows = []
chosen_read m h asked (field name nullable metadata k others) c p rows =
    kept (is_chosen asked c) (parts_read m h k p rows) (chosen_read m h asked others (suc c) (after m k p) rows)

-- the kinds of keyed fields
abbrev pub kinds_of : List Keyed → List Kind
kinds_of s = map (λ p. p.1.kind) s

-- the columns of some keyed fields, with the ids of their IPC fields
abbrev pub schema_fields : List Keyed → List IpcField → Fields
schema_fields s fields = fields_with (fields_in s) (ids_of fields)

-- ── what is fetched ──

-- the stated lengths of the buffers that are looked at, where there are rows
abbrev pub batch_fetched : RecordBatch → Option (List ℕ) → Fields → ℕ → ℕ
batch_fetched m asked fs zero = 0
batch_fetched m asked fs (suc n) = stated_of m (columns_looked_at m asked fs 0 first_place)

-- the same of the columns that are asked for, the first having number c
abbrev pub chosen_fetched : RecordBatch → Option (List ℕ) → Fields → ℕ → Place → ℕ → ℕ
chosen_fetched m asked none c p rows = 0
chosen_fetched m asked (field name nullable metadata k others) c p rows =
    (if is_chosen asked c then fetched_at_most m k p rows else 0) + chosen_fetched m asked others (suc c) (after m k p) rows

-- the same of columns that stand from a place on, each for the rows that its place says
abbrev pub columns_fetched : RecordBatch → Fields → Place → (Place → ℕ) → ℕ
columns_fetched m none p rows = 0
columns_fetched m (field name nullable metadata k others) p rows = fetched_at_most m k p (rows p) + columns_fetched m others (after m k p) rows
