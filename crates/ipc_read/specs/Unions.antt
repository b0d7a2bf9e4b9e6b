-- Unions as they are read. (Arrow Columnar Format, "Union Layout".)
use Rattle.std.specs.Prelude.{ℕ, zero, suc, List, [], ◌++◌, length, nat_le, nat_lt, ◌&&◌, Bool, true, false, Option, Some, None, ℤ, if◌then◌else◌}
use Rattle.std.specs.Int.{w8, w32}
use Rattle.arrow_spec.specs.declared.error.IpcError.{IpcError}
use Rattle.arrow_spec.specs.declared.error.IpcError.TheVariants.{OutOfSpec, Unsupported}
use Rattle.arrow_spec.specs.declared.error.OutOfSpecKind.TheVariants.{ExpectedBuffer}
use Rattle.arrow_spec.specs.declared.error.Feature.TheVariants.{UnionNulls}
use Rattle.arrow_spec.specs.declared.message.MetadataVersion.{MetadataVersion}
use Rattle.arrow_spec.specs.declared.types.UnionMode.{UnionMode}
use Rattle.arrow_spec.specs.declared.types.UnionMode.TheVariants.{Dense, Sparse}
use Rattle.arrow_spec.specs.Kinds.{Kind, Fields, union, extension}
use Rattle.arrow_spec.specs.Counts.{RecordBatch, Place, has_union_validity}
use Rattle.arrow_spec.specs.Arrays.{from_on, signed_in, has_nulls, types_buffer}
use Rattle.arrow_spec.specs.Faults.{cause, node_faults, numbers_faults}
use Rattle.arrow_spec.specs.Needed.{union_looked_at}
use Rattle.arrow_arrays.specs.Heads.{Tagged, ids_in}
use Rattle.ipc_read_laws.specs.Faults.{stated, stated_of}
use Rattle.ipc_read.specs.declared.child_rows.ChildRows.{ChildRows}
use Rattle.ipc_read.specs.declared.child_rows.ChildRows.TheVariants.{Same, Stated}
use Rattle.ipc_read.specs.Queues.{short_of}
use Rattle.ipc_read.specs.Sources.{faults_where, bytes_where}

-- ── kinds ──

-- a kind of unions, extensions looked through
abbrev pub is_any_union : Kind → Bool
is_any_union (union mode stated ids fs) = true
is_any_union (extension name metadata k) = is_any_union k
is_any_union k = false

-- whether a union's ids are stated, extensions looked through
abbrev pub stated_in : Kind → Bool
stated_in (union mode stated ids fs) = stated
stated_in (extension name metadata k) = stated_in k
stated_in k = false

-- the kind of unions of a mode and of these fields that has a kind's ids
abbrev pub union_as : Kind → UnionMode → Fields → Kind
union_as k mode fs = union mode (stated_in k) (ids_in k) fs

-- ── buffers ──

-- before V5 a validity stands before a union's types
abbrev pub union_validities : MetadataVersion → ℕ
union_validities version = if has_union_validity version then 1 else 0

abbrev pub is_dense : UnionMode → Bool
is_dense Sparse = false
is_dense Dense = true

-- where it is dense it has offsets
abbrev pub union_places : UnionMode → ℕ
union_places Sparse = 0
union_places Dense = 1

-- the validity is missing; or there are rows and nulls
abbrev pub union_validity_faults : RecordBatch → Place → ℕ → List IpcError
union_validity_faults m p rows = cause (nat_lt p.buffer (types_buffer m p) && nat_le (length m.buffers) p.buffer) (OutOfSpec ExpectedBuffer)
    ++ faults_where rows (cause (nat_lt p.buffer (types_buffer m p) && has_nulls m p) (Unsupported UnionNulls))

-- the i-th buffer is missing; or there are rows, and it has not as many numbers of a width
abbrev pub rows_faults : RecordBatch → ℕ → ℕ → ℕ → List IpcError
rows_faults m i width rows = short_of m.buffers i ++ faults_where rows (numbers_faults m i width rows)

-- the same of the offsets, where there are any
abbrev pub places_faults : RecordBatch → UnionMode → ℕ → ℕ → List IpcError
places_faults m Sparse i rows = []
places_faults m Dense i rows = rows_faults m i 4 rows

-- what is wrong with the parts of a union but for its children, or a buffer is missing
abbrev pub union_parts_faults : RecordBatch → UnionMode → Place → ℕ → List IpcError
union_parts_faults m mode p rows = node_faults m p rows ++ (union_validity_faults m p rows
    ++ (rows_faults m (types_buffer m p) 1 rows ++ places_faults m mode (suc (types_buffer m p)) rows))

-- ── what is read ──

-- types, and offsets where it is dense
pub record UnionTop : Type 0 where
  pub types : List ℤ
  pub offsets : Option (List ℤ)

abbrev pub union_top : List ℤ → Option (List ℤ) → UnionTop
union_top types offsets = record { types = types; offsets = offsets }

-- the top of a union
abbrev pub tagged_by : Kind → UnionTop → Tagged
tagged_by k top = record { kind = k; types = top.types; offsets = top.offsets }

abbrev pub types_in : RecordBatch → ℕ → ℕ → List ℤ
types_in m i rows = from_on (λ j. signed_in m w8 i j) 0 rows

abbrev pub places_in : RecordBatch → UnionMode → ℕ → ℕ → Option (List ℤ)
places_in m Sparse i rows = None
places_in m Dense i rows = Some (from_on (λ j. signed_in m w32 i j) 0 rows)

abbrev pub union_top_read : RecordBatch → UnionMode → Place → ℕ → UnionTop
union_top_read m mode p rows = union_top (types_in m (types_buffer m p) rows) (places_in m mode (suc (types_buffer m p)) rows)

-- how many bytes of the offsets, and of all these parts, are fetched at most
abbrev pub places_stated : RecordBatch → UnionMode → ℕ → ℕ
places_stated m Sparse i = 0
places_stated m Dense i = stated m i

abbrev pub union_fetched : RecordBatch → UnionMode → Place → ℕ → ℕ
union_fetched m mode p rows = bytes_where rows (stated_of m (union_looked_at m mode p))

-- the children of a dense union are read whole, where it has rows
abbrev pub children_rows : UnionMode → ℕ → ChildRows
children_rows Sparse rows = Same rows
children_rows Dense zero = Same 0
children_rows Dense (suc n) = Stated
