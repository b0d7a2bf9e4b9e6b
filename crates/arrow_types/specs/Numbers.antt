-- Numbers as bytes, in either order.
use Rattle.std.specs.Prelude.{◌≡◌, ◌<◌, Bool, true, false, ℕ, ◌+◌, ◌^◌, List, ◌++◌, take, drop, Option, Some, None, ℤ, pos, negsuc, nat_lt, if◌then◌else◌}
use Rattle.std.specs.Option.{option_map}
use Rattle.std.specs.Int.{Width, w32, w64, byte_len, to_le_bytes, to_be_bytes, cast_signed, cast_unsigned}
use Rattle.arrow_spec.specs.Arrays.{offset_width}
use Rattle.arrow_spec.specs.Kinds.{Offsets, small, large}
use Rattle.arrow_spec.specs.Flat.{Order, little, big, num, from_bytes}
use Rattle.arrow_types.specs.declared.numbers.interval.days_ms.{days_ms}
use Rattle.arrow_types.specs.declared.numbers.interval.months_days_ns.{months_days_ns}

abbrev pub to_bytes : Order → Width → ℕ → List ℕ
to_bytes little w n = to_le_bytes w n
to_bytes big w n = to_be_bytes w n

abbrev pub signed_to_bytes : Width → Order → ℤ → List ℕ
signed_to_bytes w order z = to_bytes order w (cast_unsigned w z)

abbrev pub signed_from_bytes : Width → Order → List ℕ → ℤ
signed_from_bytes w order bytes = cast_signed w (from_bytes order w bytes)

abbrev pub unsigned_to_bytes : Width → Order → ℕ → List ℕ
unsigned_to_bytes w order n = to_bytes order w n

abbrev pub unsigned_from_bytes : Width → Order → List ℕ → ℕ
unsigned_from_bytes w order bytes = from_bytes order w bytes

abbrev pub signed_num : Width → List ℕ → ℕ → Order → Option ℤ
signed_num w bytes at order = option_map (cast_signed w) (num bytes at w order)

abbrev pub unsigned_num : Width → List ℕ → ℕ → Order → Option ℕ
unsigned_num w bytes at order = num bytes at w order

-- days and milliseconds, one after the other, each in the order
abbrev pub days_ms_to_bytes : Order → days_ms → List ℕ
days_ms_to_bytes order x = signed_to_bytes w32 order x.days ++ signed_to_bytes w32 order x.milliseconds

abbrev pub days_ms_from_bytes : Order → List ℕ → days_ms
days_ms_from_bytes order bytes = record { days = signed_from_bytes w32 order (take 4 bytes); milliseconds = signed_from_bytes w32 order (drop 4 bytes) }

abbrev pub days_ms_of : Option ℤ → Option ℤ → Option days_ms
days_ms_of (Some days) (Some milliseconds) = Some (record { days = days; milliseconds = milliseconds })
days_ms_of None milliseconds = None
days_ms_of (Some days) None = None

abbrev pub days_ms_num : List ℕ → ℕ → Order → Option days_ms
days_ms_num bytes at order = days_ms_of (signed_num w32 bytes at order) (signed_num w32 bytes (at + 4) order)

-- months, days and nanoseconds, one after the other, each in the order
abbrev pub months_days_ns_to_bytes : Order → months_days_ns → List ℕ
months_days_ns_to_bytes order x = signed_to_bytes w32 order x.months ++ signed_to_bytes w32 order x.days ++ signed_to_bytes w64 order x.ns

abbrev pub months_days_ns_from_bytes : Order → List ℕ → months_days_ns
months_days_ns_from_bytes order bytes = record {
  months = signed_from_bytes w32 order (take 4 bytes);
  days = signed_from_bytes w32 order (take 4 (drop 4 bytes));
  ns = signed_from_bytes w64 order (drop 8 bytes);
}

abbrev pub months_days_ns_of : Option ℤ → Option ℤ → Option ℤ → Option months_days_ns
months_days_ns_of (Some months) (Some days) (Some ns) = Some (record { months = months; days = days; ns = ns })
months_days_ns_of None days ns = None
months_days_ns_of (Some months) None ns = None
months_days_ns_of (Some months) (Some days) None = None

abbrev pub months_days_ns_num : List ℕ → ℕ → Order → Option months_days_ns
months_days_ns_num bytes at order =
    months_days_ns_of (signed_num w32 bytes at order) (signed_num w32 bytes (at + 4) order) (signed_num w64 bytes (at + 8) order)

-- the number as a `usize`, where it fits
abbrev pub usize_of : ℤ → Option ℕ
usize_of (pos n) = if nat_lt n (2 ^ 64) then Some n else None
usize_of (negsuc n) = None

-- the number, where it is below the limit
abbrev pub below_limit : ℕ → ℕ → Option ℤ
below_limit limit n = if nat_lt n limit then Some (pos n) else None

-- the offsets of a layout, large or not
abbrev pub offsets_by : Bool → Offsets
offsets_by false = small
offsets_by true = large

-- an offset type has its width, and an offset is the number of its bytes
pub record ReadsOffsets {A : Type 0} (is_large : Bool) (width limit : ℕ) (number : A → ℤ) (read : Order → List ℕ → A) : Type 0 where
  pub sized : width ≡ byte_len (offset_width (offsets_by is_large))
  pub reads : (order : Order) (bytes : List ℕ) → number (read order bytes) ≡ signed_from_bytes (offset_width (offsets_by is_large)) order bytes
  pub above : 0 < limit
