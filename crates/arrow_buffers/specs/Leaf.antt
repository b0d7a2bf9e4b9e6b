-- Arrays of values of one width: what they are seen as, their cells, and why their parts are refused. (Arrow Columnar Format, "Fixed-size Primitive Layout", "Null Layout".)
use Rattle.std.specs.Prelude.{ℕ, ◌*◌, ◌/◌, ◌%◌, List, ◌&&◌, Bool, Option, Some, None, map, length, nat_eq, nat_lt, not, take, drop, replicate, if◌then◌else◌, refl}
use Rattle.std.specs.Option.{option_map}
use Rattle.std.specs.Coded.{Coded, code_by, coded×, coded_ℕ, coded_list, coded_option, coded_bool}
use Rattle.arrow_spec.specs.Kinds.{Kind}
use Rattle.arrow_spec.specs.Cells.{Cell, null, bytes}
use Rattle.arrow_spec.specs.Arrays.{from_on}
use Rattle.arrow_types.specs.KindCode.{kind_code}
use Rattle.arrow_buffers.specs.Layouts.{binary_size}
use Rattle.arrow_buffers.specs.Rows.{part, has_rows, masked}
use Rattle.arrow_buffers.specs.declared.error.ArrayError.{ArrayError}
use Rattle.arrow_buffers.specs.declared.error.ArrayError.TheVariants.{DataType, Length}

-- the kind, the values as held, and the validity, where there is one
pub record Leaf (A : Type 0) : Type 0 where
  pub kind : Kind
  pub values : List A
  pub validity : Option (List Bool)

-- such a record is stored as its fields
abbrev pub leaf_code : {A : Type 0} → Coded A → Coded (Leaf A)
leaf_code {A} c =
    code_by (Kind × (List A × Option (List Bool))) (coded× kind_code (coded× (coded_list c) (coded_option (coded_list coded_bool))))
    (λ f. (f.kind, (f.values, f.validity))) (λ p. record { kind = p.0; values = p.1.0; validity = p.1.1 }) (λ _. refl)

-- the cells: each value's, null where the row is null
abbrev pub leaf_cells : {A : Type 0} → (A → Cell) → Leaf A → List Cell
leaf_cells cell f = masked f.validity (map cell f.values)

-- the rows from a place on, so many of them
abbrev pub leaf_part : {A : Type 0} → ℕ → ℕ → Leaf A → Leaf A
leaf_part offset rows f = record { kind = f.kind; values = part offset rows f.values; validity = option_map (part offset rows) f.validity }

-- why parts are refused: the layout is another, or the validity is not of as many rows
abbrev pub leaf_fault : Bool → ℕ → Option (List Bool) → Option ArrayError
leaf_fault suits rows validity =
    if not suits then Some DataType else (if not (has_rows validity rows) then Some Length else None)

-- ── byte strings of one size ──

-- how many rows they are
abbrev pub fixed_rows : Leaf ℕ → ℕ
fixed_rows f = length f.values / binary_size f.kind

-- the bytes of a row
abbrev pub fixed_row : ℕ → List ℕ → ℕ → List ℕ
fixed_row size values row = take size (drop (size * row) values)

-- the cells: each row's bytes, null where the row is null
abbrev pub fixed_cells : Leaf ℕ → List Cell
fixed_cells f = masked f.validity (from_on (λ row. bytes (fixed_row (binary_size f.kind) f.values row)) 0 (fixed_rows f))

-- the rows from a place on, so many of them
abbrev pub fixed_part : ℕ → ℕ → Leaf ℕ → Leaf ℕ
fixed_part offset rows f = record {
  kind = f.kind;
  values = part (binary_size f.kind * offset) (binary_size f.kind * rows) f.values;
  validity = option_map (part offset rows) f.validity;
}

-- why parts are refused: the kind has no size above 0, or the bytes are not whole rows, or the validity is not of as many
abbrev pub fixed_fault : Leaf ℕ → Option ArrayError
fixed_fault f =
    if not (nat_lt 0 (binary_size f.kind)) then Some DataType
    else (if not (nat_eq (length f.values % binary_size f.kind) 0 && has_rows f.validity (fixed_rows f)) then Some Length
    else None)

-- ── nulls alone ──

-- the kind, and how many rows, each null
pub record Nulls : Type 0 where
  pub kind : Kind
  pub rows : ℕ

-- such a record is stored as its fields
abbrev pub nulls_code : Coded Nulls
nulls_code = code_by (Kind × ℕ) (coded× kind_code coded_ℕ) (λ n. (n.kind, n.rows)) (λ p. record { kind = p.0; rows = p.1 }) (λ _. refl)

-- the cells
abbrev pub null_cells : Nulls → List Cell
null_cells n = replicate n.rows null

-- why parts are refused: the layout is another
abbrev pub nulls_fault : Bool → Option ArrayError
nulls_fault suits = if not suits then Some DataType else None
