-- The kinds of arrays without children, by how they are laid out.
use Rattle.std.proofs.Common.{◌≡◌, ℕ, zero, suc, ◌+◌, ◌*◌, List, [], ◌∷◌, ◌++◌, true, Option, refl, sym, ap, ◌∙◌, pos}
use Rattle.std.specs.Prelude.{nat_lt}
use Rattle.std.specs.Int.{w8, w16, w32, w64, w128}
use Rattle.arrow_spec.specs.declared.types.IntegerType.TheVariants as integer
use Rattle.arrow_spec.specs.declared.types.IntervalUnit.TheVariants.{YearMonth, DayTime, MonthDayNano}
use Rattle.arrow_spec.specs.Kinds as kinds
use Rattle.arrow_spec.specs.Kinds.{Kind, Offsets, half, single, double, small, large}
use Rattle.arrow_spec.specs.Cells as cells
use Rattle.arrow_spec.specs.Cells.{Cell}
use Rattle.arrow_spec.specs.Counts.{RecordBatch, Place}
use Rattle.arrow_spec.specs.Arrays.{Dictionaries, signed_in, unsigned_in, part_of_row, if_valid}
use Rattle.arrow_spec.specs.ArrayCells.{cell}
use Rattle.arrow_spec.specs.Faults.{node_faults, fixed_faults, array_faults}
use Rattle.arrow_spec.specs.Sent.{own, written_part}
use Rattle.arrow_types.specs.Physical.{primitive_size, physical_of}
use Rattle.arrow_types.specs.declared.physical.PhysicalType.TheVariants as physical
use Rattle.arrow_types.specs.declared.physical.PrimitiveType.{PrimitiveType}
use Rattle.arrow_types.specs.declared.physical.PrimitiveType.TheVariants as primitive
use Rattle.arrow_buffers.specs.Layouts.{binary_size}
use Rattle.arrow_arrays.specs.LeafKinds.{is_leaf_kind}
use Rattle.ipc_read_laws.specs.LayoutFaults.{buffers_faults, buffers_of}

-- the cell of a row of numbers, whatever its validity
abbrev pub primitive_at : PrimitiveType → RecordBatch → Place → ℕ → Cell
primitive_at primitive.Int8 m p row = cells.number (signed_in m w8 (p.buffer + 1) row)
primitive_at primitive.Int16 m p row = cells.number (signed_in m w16 (p.buffer + 1) row)
primitive_at primitive.Int32 m p row = cells.number (signed_in m w32 (p.buffer + 1) row)
primitive_at primitive.Int64 m p row = cells.number (signed_in m w64 (p.buffer + 1) row)
primitive_at primitive.Int128 m p row = cells.number (signed_in m w128 (p.buffer + 1) row)
primitive_at primitive.UInt8 m p row = cells.number (pos (unsigned_in m w8 (p.buffer + 1) row))
primitive_at primitive.UInt16 m p row = cells.number (pos (unsigned_in m w16 (p.buffer + 1) row))
primitive_at primitive.UInt32 m p row = cells.number (pos (unsigned_in m w32 (p.buffer + 1) row))
primitive_at primitive.UInt64 m p row = cells.number (pos (unsigned_in m w64 (p.buffer + 1) row))
primitive_at primitive.DaysMs m p row = cells.interval (part_of_row m p 8 0 w32 row) (part_of_row m p 8 4 w32 row) (pos 0)
primitive_at primitive.MonthDayNano m p row = cells.interval (part_of_row m p 16 0 w32 row) (part_of_row m p 16 4 w32 row) (part_of_row m p 16 8 w64 row)
primitive_at t m p row = cells.null

-- a kind of numbers of a primitive type
pub record IsNumbers (t : PrimitiveType) (k : Kind) : Type 0 where
  pub layout : physical_of k ≡ physical.Primitive t
  pub sized : nat_lt 0 (primitive_size t) ≡ true
  pub none : (m : RecordBatch) (d : Dictionaries) (p : Place) → array_faults m d k p 0 ≡ node_faults m p 0 ++ []
  pub buffers : (m : RecordBatch) (p : Place) (rows : ℕ) → buffers_faults m k p rows ≡ array_faults m [] k p rows
  pub faults : (m : RecordBatch) (d : Dictionaries) (p : Place) (n : ℕ) → array_faults m d k p (suc n) ≡ node_faults m p (suc n) ++ fixed_faults m p (primitive_size t) (suc n)
  pub cells : (m : RecordBatch) (d : Dictionaries) (p : Place) (row : ℕ) → cell m d k p row ≡ if_valid m p row (primitive_at t m p row)
  pub written : (m : RecordBatch) (p : Place) (rows : ℕ) → written_part m k p rows 0 rows ≡ own m p rows 0 rows (primitive_size t * rows ∷ [])

-- what holds of each layout, and of an extension where it holds of the kind below
pub record Cases (P : Kind → Type 0) : Type 0 where
  pub on_null : P kinds.null
  pub on_bits : P kinds.boolean
  pub on_numbers : (t : PrimitiveType) (k : Kind) → IsNumbers t k → P k
  pub on_fixed : (size : ℕ) → nat_lt 0 size ≡ true → P (kinds.fixed_size_binary size)
  pub on_binary : (o : Offsets) → P (kinds.binary o)
  pub on_text : (o : Offsets) → P (kinds.utf8 o)
  pub on_binary_view : P kinds.binary_view
  pub on_text_view : P kinds.utf8_view
  pub on_extension : (name : List ℕ) (metadata : Option (List ℕ)) (k : Kind) → P k → P (kinds.extension name metadata k)

numbers_buffers : (t : PrimitiveType) (k : Kind) → physical_of k ≡ physical.Primitive t
    → ((m : RecordBatch) (d : Dictionaries) (p : Place) → array_faults m d k p 0 ≡ node_faults m p 0 ++ [])
    → ((m : RecordBatch) (d : Dictionaries) (p : Place) (n : ℕ) → array_faults m d k p (suc n) ≡ node_faults m p (suc n) ++ fixed_faults m p (primitive_size t) (suc n))
    → (m : RecordBatch) (p : Place) (rows : ℕ) → buffers_faults m k p rows ≡ array_faults m [] k p rows
numbers_buffers t k e f g m p zero = sym (f m [] p)
numbers_buffers t k e f g m p (suc n) = ap (λ l. node_faults m p (suc n) ++ buffers_of l (binary_size k) m p (suc n)) e ∙ sym (g m [] p n)

numbers_of : (t : PrimitiveType) (k : Kind) → physical_of k ≡ physical.Primitive t → nat_lt 0 (primitive_size t) ≡ true
    → ((m : RecordBatch) (d : Dictionaries) (p : Place) → array_faults m d k p 0 ≡ node_faults m p 0 ++ [])
    → ((m : RecordBatch) (d : Dictionaries) (p : Place) (n : ℕ) → array_faults m d k p (suc n) ≡ node_faults m p (suc n) ++ fixed_faults m p (primitive_size t) (suc n))
    → ((m : RecordBatch) (d : Dictionaries) (p : Place) (row : ℕ) → cell m d k p row ≡ if_valid m p row (primitive_at t m p row))
    → ((m : RecordBatch) (p : Place) (rows : ℕ) → written_part m k p rows 0 rows ≡ own m p rows 0 rows (primitive_size t * rows ∷ []))
    → IsNumbers t k
numbers_of t k a b f c d e = record { layout = a; sized = b; none = f; buffers = numbers_buffers t k a f c; faults = c; cells = d; written = e }

-- and of each kind of an array without children
pub by_kind : (P : Kind → Type 0) → Cases P → (k : Kind) → is_leaf_kind k ≡ true → P k
by_kind P c kinds.null h = c.on_null
by_kind P c kinds.boolean h = c.on_bits
by_kind P c (kinds.integer integer.Int8) h = c.on_numbers primitive.Int8 _ (numbers_of _ _ refl refl (λ m d p. refl) (λ m d p n. refl) (λ m d p row. refl) (λ m p rows. refl))
by_kind P c (kinds.integer integer.Int16) h = c.on_numbers primitive.Int16 _ (numbers_of _ _ refl refl (λ m d p. refl) (λ m d p n. refl) (λ m d p row. refl) (λ m p rows. refl))
by_kind P c (kinds.integer integer.Int32) h = c.on_numbers primitive.Int32 _ (numbers_of _ _ refl refl (λ m d p. refl) (λ m d p n. refl) (λ m d p row. refl) (λ m p rows. refl))
by_kind P c (kinds.integer integer.Int64) h = c.on_numbers primitive.Int64 _ (numbers_of _ _ refl refl (λ m d p. refl) (λ m d p n. refl) (λ m d p row. refl) (λ m p rows. refl))
by_kind P c (kinds.integer integer.Int128) h = c.on_numbers primitive.Int128 _ (numbers_of _ _ refl refl (λ m d p. refl) (λ m d p n. refl) (λ m d p row. refl) (λ m p rows. refl))
by_kind P c (kinds.integer integer.UInt8) h = c.on_numbers primitive.UInt8 _ (numbers_of _ _ refl refl (λ m d p. refl) (λ m d p n. refl) (λ m d p row. refl) (λ m p rows. refl))
by_kind P c (kinds.integer integer.UInt16) h = c.on_numbers primitive.UInt16 _ (numbers_of _ _ refl refl (λ m d p. refl) (λ m d p n. refl) (λ m d p row. refl) (λ m p rows. refl))
by_kind P c (kinds.integer integer.UInt32) h = c.on_numbers primitive.UInt32 _ (numbers_of _ _ refl refl (λ m d p. refl) (λ m d p n. refl) (λ m d p row. refl) (λ m p rows. refl))
by_kind P c (kinds.integer integer.UInt64) h = c.on_numbers primitive.UInt64 _ (numbers_of _ _ refl refl (λ m d p. refl) (λ m d p n. refl) (λ m d p row. refl) (λ m p rows. refl))
by_kind P c kinds.date32 h = c.on_numbers primitive.Int32 _ (numbers_of _ _ refl refl (λ m d p. refl) (λ m d p n. refl) (λ m d p row. refl) (λ m p rows. refl))
by_kind P c kinds.date64 h = c.on_numbers primitive.Int64 _ (numbers_of _ _ refl refl (λ m d p. refl) (λ m d p n. refl) (λ m d p row. refl) (λ m p rows. refl))
by_kind P c (kinds.time32 u) h = c.on_numbers primitive.Int32 _ (numbers_of _ _ refl refl (λ m d p. refl) (λ m d p n. refl) (λ m d p row. refl) (λ m p rows. refl))
by_kind P c (kinds.time64 u) h = c.on_numbers primitive.Int64 _ (numbers_of _ _ refl refl (λ m d p. refl) (λ m d p n. refl) (λ m d p row. refl) (λ m p rows. refl))
by_kind P c (kinds.timestamp u tz) h = c.on_numbers primitive.Int64 _ (numbers_of _ _ refl refl (λ m d p. refl) (λ m d p n. refl) (λ m d p row. refl) (λ m p rows. refl))
by_kind P c (kinds.duration u) h = c.on_numbers primitive.Int64 _ (numbers_of _ _ refl refl (λ m d p. refl) (λ m d p n. refl) (λ m d p row. refl) (λ m p rows. refl))
by_kind P c (kinds.interval YearMonth) h = c.on_numbers primitive.Int32 _ (numbers_of _ _ refl refl (λ m d p. refl) (λ m d p n. refl) (λ m d p row. refl) (λ m p rows. refl))
by_kind P c (kinds.interval DayTime) h = c.on_numbers primitive.DaysMs _ (numbers_of _ _ refl refl (λ m d p. refl) (λ m d p n. refl) (λ m d p row. refl) (λ m p rows. refl))
by_kind P c (kinds.interval MonthDayNano) h = c.on_numbers primitive.MonthDayNano _ (numbers_of _ _ refl refl (λ m d p. refl) (λ m d p n. refl) (λ m d p row. refl) (λ m p rows. refl))
by_kind P c (kinds.decimal precision scale) h = c.on_numbers primitive.Int128 _ (numbers_of _ _ refl refl (λ m d p. refl) (λ m d p n. refl) (λ m d p row. refl) (λ m p rows. refl))
by_kind P c (kinds.fixed_size_binary size) h = c.on_fixed size h
by_kind P c (kinds.binary o) h = c.on_binary o
by_kind P c (kinds.utf8 o) h = c.on_text o
by_kind P c kinds.binary_view h = c.on_binary_view
by_kind P c kinds.utf8_view h = c.on_text_view
by_kind P c (kinds.extension name metadata k) h = c.on_extension name metadata k (by_kind P c k h)
by_kind P c (kinds.float half) h = cc
by_kind P c (kinds.float single) h = cc
by_kind P c (kinds.float double) h = cc
by_kind P c (kinds.«list» small fs) h = cc
by_kind P c (kinds.«list» large fs) h = cc
by_kind P c e h = cc

-- a kind of the same layout and size
pub record Like (l k : Kind) : Type 0 where
  pub layout : physical_of l ≡ physical_of k
  pub size : binary_size l ≡ binary_size k

pub like_itself : (k : Kind) → Like k k
like_itself k = record { layout = refl; size = refl }
