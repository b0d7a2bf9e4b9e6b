-- What a flatbuffer's reader gives, over tables and vectors that are read where they stand.
use Rattle.std.specs.Prelude.{◌≡◌, ℕ, ◌+◌, ◌*◌, List, take, drop, Bool, not, nat_eq, nat_lt, if◌then◌else◌, Option, None, Some, is_some, Result, Ok, Err}
use Rattle.std.specs.Int.{Width, w8, w16}
use Rattle.arrow_flat.specs.declared.table.ChoiceWidth.{ChoiceWidth}
use Rattle.arrow_flat.specs.declared.table.ChoiceWidth.TheVariants.{One, Two}
use Rattle.arrow_spec.specs.declared.error.FlatError.{FlatError}
use Rattle.arrow_spec.specs.declared.error.FlatError.TheVariants.{Number}
use Rattle.arrow_spec.specs.Readings.{◌>>=◌}
use Rattle.arrow_spec.specs.Flat.{Table, Vector, slot, unsigned_at, if_present, slot_unsigned, target, table_at}

-- What a function returned, seen by view, is what the reading gives.
abbrev pub Gives : {X Y : Type 0} → (X → Y) → Result X FlatError → Result Y FlatError → Type 0
Gives view (Ok x) read = read ≡ Ok (view x)
Gives view (Err e) read = read ≡ Err e

-- a table among all the bytes
pub record TableIn : Type 0 where
  pub bytes : List ℕ
  pub table : Table

-- a vector among all the bytes, and the width of its items
pub record VectorIn : Type 0 where
  pub bytes : List ℕ
  pub vector : Vector
  pub width : ℕ

-- the tables and vectors alone
abbrev pub table_of : Option TableIn → Option Table
table_of None = None
table_of (Some t) = Some t.table

abbrev pub vector_of : Option VectorIn → Option Vector
vector_of None = None
vector_of (Some v) = Some v.vector

-- a truth value: any byte but 0 is true
abbrev pub is_set_or : Bool → Option ℕ → Bool
is_set_or default None = default
is_set_or default (Some n) = not (nat_eq n 0)

abbrev pub slot_bool_or : Bool → List ℕ → Table → ℕ → Result Bool FlatError
slot_bool_or default b t i = slot b t i >>= λ p. if_present (unsigned_at w8 b) p >>= λ n. Ok (is_set_or default n)

-- whether slot i is there
abbrev pub slot_is_present : List ℕ → Table → ℕ → Result Bool FlatError
slot_is_present b t i = slot b t i >>= λ p. Ok (is_some p)

abbrev pub width_of : ChoiceWidth → Width
width_of One = w8
width_of Two = w16

-- a number below the count
abbrev pub slot_choice : Width → ℕ → ℕ → List ℕ → Table → ℕ → Result ℕ FlatError
slot_choice w default count b t i = slot_unsigned w default b t i >>= λ n. if nat_lt n count then Ok n else Err Number

-- the bytes of item i
abbrev pub item : VectorIn → ℕ → List ℕ
item v i = take v.width (drop (v.vector.first + i * v.width) v.bytes)

-- the table to which item i leads
abbrev pub item_table : VectorIn → ℕ → Result Table FlatError
item_table v i = target v.bytes (v.vector.first + i * v.width) >>= λ p. table_at v.bytes p
