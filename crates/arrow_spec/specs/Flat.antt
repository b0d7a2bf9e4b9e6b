-- Numbers in bytes, and flatbuffers as they are read: a value, absent, or a fault. (FlatBuffers, "Internals": encoding, tables, vectors, strings.)
use Rattle.std.specs.Prelude.{ℕ, zero, suc, ◌+◌, ◌-◌, ◌*◌, List, length, take, drop, Bool, true, false, Option, Some, None, Result, Ok, Err, nat_le, nat_eq, not, if◌then◌else◌, ℤ, pos, negsuc}
use Rattle.std.specs.Int.{Width, w8, w16, w32, byte_len, from_le_bytes, from_be_bytes, cast_signed}
use Rattle.std.specs.Str.{is_utf8}
use Rattle.arrow_spec.specs.declared.error.FlatError.{FlatError}
use Rattle.arrow_spec.specs.declared.error.FlatError.TheVariants.{Range, Utf8}
use Rattle.arrow_spec.specs.Readings.{◌>>=◌}

-- n bytes from a place on, where they all lie inside
abbrev pub part : List ℕ → ℕ → ℕ → Option (List ℕ)
part b at n = if nat_le (at + n) (length b) then Some (take n (drop at b)) else None

-- which end of a number comes first
pub data Order : Type 0 where
  little : Order
  big : Order

-- the byte order of a flag that says whether it is little-endian
abbrev pub order_by : Bool → Order
order_by true = little
order_by false = big

-- the number that a width of bytes makes in an order
abbrev pub from_bytes : Order → Width → List ℕ → ℕ
from_bytes little w bytes = from_le_bytes w bytes
from_bytes big w bytes = from_be_bytes w bytes

-- the same where there may be no bytes
abbrev pub fold_number : Order → Width → Option (List ℕ) → Option ℕ
fold_number order w None = None
fold_number order w (Some bytes) = Some (from_bytes order w bytes)

-- the number in the bytes at a place; none past the end
abbrev pub num : List ℕ → ℕ → Width → Order → Option ℕ
num b at w order = fold_number order w (part b at (byte_len w))

-- what must lie inside the bytes
abbrev pub in_range : {A : Type 0} → Option A → Result A FlatError
in_range (Some x) = Ok x
in_range None = Err Range

-- a little-endian number at a place
abbrev pub unsigned_at : Width → List ℕ → ℕ → Result ℕ FlatError
unsigned_at w b at = in_range (num b at w little)

-- the same in two's complement
abbrev pub signed_at : Width → List ℕ → ℕ → Result ℤ FlatError
signed_at w b at = unsigned_at w b at >>= λ n. Ok (cast_signed w n)

-- a table: its place, its vtable's place and its vtable's size
pub record Table : Type 0 where
  pub place : ℕ
  pub vtable : ℕ
  pub size : ℕ

-- the vtable's place: the number at the table's place goes back from there
abbrev pub vtable_place : ℕ → ℤ → Result ℕ FlatError
vtable_place p (pos s) = if nat_le s p then Ok (p - s) else Err Range
vtable_place p (negsuc s) = Ok (p + suc s)

-- the table at a place: its vtable is there, and its size is 4 at least (FlatBuffers, "Internals": tables)
unfoldable pub table_at : List ℕ → ℕ → Result Table FlatError
table_at b p = do
  s ← signed_at w32 b p
  v ← vtable_place p s
  size ← unsigned_at w16 b v
  if nat_le 4 size then Ok (record { place = p; vtable = v; size = size }) else Err Range

-- the root table, to which the first four bytes lead
unfoldable pub root : List ℕ → Result Table FlatError
root b = unsigned_at w32 b 0 >>= λ p. table_at b p

-- a vtable entry of 0 is an absent slot
abbrev pub place_of_entry : ℕ → ℕ → Option ℕ
place_of_entry p zero = None
place_of_entry p (suc n) = Some (p + suc n)

-- where the value of slot i stands, if it is present
unfoldable pub slot : List ℕ → Table → ℕ → Result (Option ℕ) FlatError
slot b t i = elim (nat_le (4 + 2 * i + 2) t.size) [ false ↦ Ok None | true ↦ unsigned_at w16 b (t.vtable + 4 + 2 * i) >>= λ n. Ok (place_of_entry t.place n) ]

-- a value at an optional place
abbrev pub if_present : {A : Type 0} → (ℕ → Result A FlatError) → Option ℕ → Result (Option A) FlatError
if_present f None = Ok None
if_present f (Some p) = f p >>= λ x. Ok (Some x)

-- an absent value is its default
abbrev pub or_default : {A : Type 0} → A → Option A → A
or_default d None = d
or_default d (Some x) = x

-- the unsigned number in a slot, or its default
abbrev pub slot_unsigned : Width → ℕ → List ℕ → Table → ℕ → Result ℕ FlatError
slot_unsigned w d b t i = slot b t i >>= λ p. if_present (unsigned_at w b) p >>= λ n. Ok (or_default d n)

-- the signed number in a slot, or its default
abbrev pub slot_signed : Width → ℤ → List ℕ → Table → ℕ → Result ℤ FlatError
slot_signed w d b t i = slot b t i >>= λ p. if_present (signed_at w b) p >>= λ n. Ok (or_default d n)

-- the truth value in a slot, false where it is absent; any byte but 0 is true
abbrev pub slot_bool : List ℕ → Table → ℕ → Result Bool FlatError
slot_bool b t i = slot_unsigned w8 0 b t i >>= λ n. Ok (not (nat_eq n 0))

-- where an offset leads
abbrev pub target : List ℕ → ℕ → Result ℕ FlatError
target b p = unsigned_at w32 b p >>= λ n. Ok (p + n)

-- the table to which a slot leads
abbrev pub slot_table : List ℕ → Table → ℕ → Result (Option Table) FlatError
slot_table b t i = slot b t i >>= λ p. if_present (λ q. target b q >>= λ r. table_at b r) p

-- a vector: where its elements begin, and how many there are
pub record Vector : Type 0 where
  pub first : ℕ
  pub count : ℕ

-- the vector to which the offset at a place leads: a count, and so many items of a width (FlatBuffers, "Internals": vectors)
unfoldable pub items : List ℕ → ℕ → ℕ → Result Vector FlatError
items b p width = do
  q ← target b p
  n ← unsigned_at w32 b q
  if nat_le (q + 4 + n * width) (length b) then Ok (record { first = q + 4; count = n }) else Err Range

-- the vector to which a slot leads
abbrev pub slot_vector : ℕ → List ℕ → Table → ℕ → Result (Option Vector) FlatError
slot_vector width b t i = slot b t i >>= λ p. if_present (λ q. items b q width) p

-- the text to which the offset at a place leads: a vector of bytes that are UTF-8 (FlatBuffers, "Internals": strings)
unfoldable pub text : List ℕ → ℕ → Result (List ℕ) FlatError
text b p = do
  v ← items b p 1
  if is_utf8 (take v.count (drop v.first b)) then Ok (take v.count (drop v.first b)) else Err Utf8

-- the text to which a slot leads
abbrev pub slot_text : List ℕ → Table → ℕ → Result (Option (List ℕ)) FlatError
slot_text b t i = slot b t i >>= λ p. if_present (text b) p
