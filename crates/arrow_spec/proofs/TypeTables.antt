-- A type's table is read back as the type.
use Rattle.std.proofs.Common.{◌≡◌, ℕ, suc, zero, ◌+◌, ◌*◌, ◌^◌, ◌<◌, ◌≤◌, List, Option, Some, None, Ok, refl, arith, true, false, Bool, pos}
use Rattle.std.specs.Prelude.{nat_lt, nat_le}
use Rattle.std.specs.Int.{w8, w16, w32, cast_unsigned}
use Rattle.arrow_spec.specs.declared.types.IntegerType.{IntegerType}
use Rattle.arrow_spec.specs.declared.types.TimeUnit.{TimeUnit}
use Rattle.arrow_spec.specs.declared.types.TimeUnit.TheVariants.{Second, Millisecond, Microsecond, Nanosecond}
use Rattle.arrow_spec.specs.declared.types.IntervalUnit.TheVariants.{YearMonth, DayTime, MonthDayNano}
use Rattle.arrow_spec.specs.Readings.{bind}
use Rattle.arrow_spec.specs.Flat.{Table, slot, table_at, slot_unsigned, slot_signed, slot_text}
use Rattle.arrow_spec.specs.Kinds as kind
use Rattle.arrow_spec.specs.Kinds.{Kind, Fields, small, large, unit_number}
use Rattle.arrow_spec.specs.Schema as schema
use Rattle.arrow_spec.specs.Schema.{Tag, tag_of, is_nested, type_at, choice, decimal_at, time_at, timestamp_at, time_of, unit_of}
use Rattle.arrow_spec.specs.Layout as layout
use Rattle.arrow_spec.specs.Layout.{Slots}
use Rattle.arrow_spec.specs.Sent.{type_tag, type_node, unit_slot, unless_zero, text_slot}
use Rattle.arrow_spec.specs.Held.{Holds, HoldsSlots}
use Rattle.arrow_spec.specs.WrittenSchemas.{IsText, KindFits, Part}
use Rattle.arrow_spec.proofs.Found.{slot_past}
use Rattle.arrow_spec.proofs.Slots.{unsigned_there, unsigned_absent, signed_absent, signed_there, text_there, text_absent, zero_back}
use Rattle.arrow_spec.proofs.IntegerSchemas.{int_slots, int_back}

-- a table at a place that is the table of a kind with so many children, of a tag with children or without
pub record TypeBack (k : Kind) (nested : Bool) (n : ℕ) (b : List ℕ) (q : ℕ) (build : Fields → Kind) : Type 0 where
  pub tag : Tag
  pub tag_is : tag_of (cast_unsigned w8 (type_tag k)) ≡ Ok tag
  pub nested_is : is_nested tag ≡ nested
  pub t : Table
  pub found : table_at b q ≡ Ok t
  pub type_is : type_at b t n tag ≡ Ok build

-- ── slots of type tables ──

pub past : (b : List ℕ) (t : Table) (i : ℕ) → t.size ≤ 4 + 2 * i → slot b t i ≡ Ok None
past b t i h = slot_past b t i (omega (arith, h))

pub choice_of : (count d : ℕ) (b : List ℕ) (t : Table) (i n : ℕ) → nat_lt n count ≡ true → slot_unsigned w16 d b t i ≡ Ok n → choice count d b t i ≡ Ok n
unfolding choice bind
choice_of count d b t i n below e = rw (choice, e, below) refl

-- a unit with the default Millisecond, and with the default Second
unit_back : (u : TimeUnit) (s : Slots) (b : List ℕ) (t : Table) → HoldsSlots (unit_slot u s) b t 0 → (choice 4 1 b t 0 ≡ Ok (unit_number u)) × HoldsSlots s b t 1
unit_back Millisecond s b t h = (choice_of 4 1 b t 0 1 refl (unsigned_absent w16 1 b t 0 h.0), h.1)
unit_back Second s b t h = (choice_of 4 1 b t 0 0 refl (unsigned_there w16 1 b t 0 h.0.0 0 h.0.1 h.0.2), h.1)
unit_back Microsecond s b t h = (choice_of 4 1 b t 0 2 refl (unsigned_there w16 1 b t 0 h.0.0 2 h.0.1 h.0.2), h.1)
unit_back Nanosecond s b t h = (choice_of 4 1 b t 0 3 refl (unsigned_there w16 1 b t 0 h.0.0 3 h.0.1 h.0.2), h.1)

second_back : (u : TimeUnit) (s : Slots) (b : List ℕ) (t : Table) → HoldsSlots (unless_zero w16 (pos (unit_number u)) s) b t 0 → (choice 4 0 b t 0 ≡ Ok (unit_number u)) × HoldsSlots s b t 1
second_back Second s b t h = (choice_of 4 0 b t 0 0 refl (unsigned_absent w16 0 b t 0 h.0), h.1)
second_back Millisecond s b t h = (choice_of 4 0 b t 0 1 refl (unsigned_there w16 0 b t 0 h.0.0 1 h.0.1 h.0.2), h.1)
second_back Microsecond s b t h = (choice_of 4 0 b t 0 2 refl (unsigned_there w16 0 b t 0 h.0.0 2 h.0.1 h.0.2), h.1)
second_back Nanosecond s b t h = (choice_of 4 0 b t 0 3 refl (unsigned_there w16 0 b t 0 h.0.0 3 h.0.1 h.0.2), h.1)

unit_same : (u : TimeUnit) → unit_of (unit_number u) ≡ u
unit_same Second = refl
unit_same Millisecond = refl
unit_same Microsecond = refl
unit_same Nanosecond = refl

zone_back : (tz : Option (List ℕ)) (b : List ℕ) (t : Table) → IsText tz → HoldsSlots (text_slot tz layout.no_more) b t 1 → slot_text b t 1 ≡ Ok tz
zone_back None b t utf8 h = text_absent b t 1 h.0
zone_back (Some x) b t utf8 h = text_there b t 1 h.0.0 h.0.1 x utf8 h.0.2 h.0.3 h.0.4.0 h.0.4.1

-- ── types by their tags ──

int_type : (i : IntegerType) (b : List ℕ) (t : Table) → HoldsSlots (int_slots i) b t 0 → type_at b t 0 schema.int ≡ Ok (λ fs. kind.integer i)
unfolding type_at bind
int_type i b t h = rw (type_at, int_back i b t h) refl

float_type : (n : ℕ) (b : List ℕ) (t : Table) → choice 3 0 b t 0 ≡ Ok n → type_at b t 0 schema.floating_point ≡ Ok (λ fs. schema.float_of n)
unfolding type_at bind
float_type n b t e = rw (type_at, e) refl

date_type : (n : ℕ) (b : List ℕ) (t : Table) → choice 2 1 b t 0 ≡ Ok n → type_at b t 0 schema.date ≡ Ok (λ fs. schema.date_of n)
unfolding type_at bind
date_type n b t e = rw (type_at, e) refl

interval_type : (n : ℕ) (b : List ℕ) (t : Table) → choice 3 0 b t 0 ≡ Ok n → type_at b t 0 schema.interval ≡ Ok (λ fs. schema.interval_of n)
unfolding type_at bind
interval_type n b t e = rw (type_at, e) refl

time_type : (k : Kind) (unit bits : ℕ) (b : List ℕ) (t : Table) → choice 4 1 b t 0 ≡ Ok unit → slot_signed w32 (pos 32) b t 1 ≡ Ok (pos bits) → time_of bits unit ≡ Ok k → type_at b t 0 schema.time ≡ Ok (λ fs. k)
unfolding type_at time_at bind
time_type k unit bits b t e f g =
    let read : time_at b t ≡ time_of bits unit = rw (time_at, e, f) refl in
    rw (type_at, read, g) refl

time_32 : (u : TimeUnit) → nat_lt (unit_number u) 2 ≡ true → time_of 32 (unit_number u) ≡ Ok (kind.time32 u)
time_32 Second low = refl
time_32 Millisecond low = refl
time_32 Microsecond low = cc
time_32 Nanosecond low = cc

time_64 : (u : TimeUnit) → nat_le 2 (unit_number u) ≡ true → time_of 64 (unit_number u) ≡ Ok (kind.time64 u)
time_64 Second high = cc
time_64 Millisecond high = cc
time_64 Microsecond high = refl
time_64 Nanosecond high = refl

time32_type : (u : TimeUnit) (b : List ℕ) (t : Table) → nat_lt (unit_number u) 2 ≡ true → HoldsSlots (unit_slot u layout.no_more) b t 0 → type_at b t 0 schema.time ≡ Ok (λ fs. kind.time32 u)
time32_type u b t low h =
    let unit = unit_back u layout.no_more b t h in
    time_type (kind.time32 u) (unit_number u) 32 b t unit.0 (signed_absent w32 (pos 32) b t 1 (past b t 1 unit.1)) (time_32 u low)

time64_type : (u : TimeUnit) (b : List ℕ) (t : Table) → nat_le 2 (unit_number u) ≡ true → HoldsSlots (unit_slot u (layout.value w32 (pos 64) layout.no_more)) b t 0 → type_at b t 0 schema.time ≡ Ok (λ fs. kind.time64 u)
time64_type u b t high h =
    let unit = unit_back u (layout.value w32 (pos 64) layout.no_more) b t h in
    time_type (kind.time64 u) (unit_number u) 64 b t unit.0 (signed_there w32 (pos 32) b t 1 unit.1.0.0 (pos 64) (record { sfits = omega arith }) unit.1.0.1 unit.1.0.2) (time_64 u high)

timestamp_type : (u : TimeUnit) (tz : Option (List ℕ)) (b : List ℕ) (t : Table) → IsText tz → HoldsSlots (unless_zero w16 (pos (unit_number u)) (text_slot tz layout.no_more)) b t 0 → type_at b t 0 schema.timestamp ≡ Ok (λ fs. kind.timestamp u tz)
unfolding type_at timestamp_at bind
timestamp_type u tz b t utf8 h =
    let unit = second_back u (text_slot tz layout.no_more) b t h in
    rw (type_at, unit.0, zone_back tz b t utf8 unit.1, unit_same u) refl

duration_type : (u : TimeUnit) (b : List ℕ) (t : Table) → HoldsSlots (unit_slot u layout.no_more) b t 0 → type_at b t 0 schema.duration ≡ Ok (λ fs. kind.duration u)
unfolding type_at bind
duration_type u b t h = rw (type_at, (unit_back u layout.no_more b t h).0, unit_same u) refl

decimal_type : (p s : ℕ) (b : List ℕ) (t : Table) → p < 2 ^ 31 → s < 2 ^ 31 → HoldsSlots (unless_zero w32 (pos p) (unless_zero w32 (pos s) layout.no_more)) b t 0 → type_at b t 0 schema.decimal ≡ Ok (λ fs. kind.decimal p s)
unfolding type_at decimal_at bind
decimal_type p s b t low small' h =
    let precision = zero_back w32 (pos p) (unless_zero w32 (pos s) layout.no_more) b t 0 (record { sfits = low }) h in
    let scale = zero_back w32 (pos s) layout.no_more b t 1 (record { sfits = small' }) precision.1 in
    let bits : slot_signed w32 (pos 128) b t 2 ≡ Ok (pos 128) = signed_absent w32 (pos 128) b t 2 (past b t 2 scale.1) in
    rw (type_at, precision.0, scale.0, bits) refl

decimal256_type : (p s : ℕ) (b : List ℕ) (t : Table) → p < 2 ^ 31 → s < 2 ^ 31 → HoldsSlots (unless_zero w32 (pos p) (unless_zero w32 (pos s) (layout.value w32 (pos 256) layout.no_more))) b t 0 → type_at b t 0 schema.decimal ≡ Ok (λ fs. kind.decimal256 p s)
unfolding type_at decimal_at bind
decimal256_type p s b t low small' h =
    let precision = zero_back w32 (pos p) (unless_zero w32 (pos s) (layout.value w32 (pos 256) layout.no_more)) b t 0 (record { sfits = low }) h in
    let scale = zero_back w32 (pos s) (layout.value w32 (pos 256) layout.no_more) b t 1 (record { sfits = small' }) precision.1 in
    let bits : slot_signed w32 (pos 128) b t 2 ≡ Ok (pos 256) = signed_there w32 (pos 128) b t 2 scale.1.0.0 (pos 256) (record { sfits = omega arith }) scale.1.0.1 scale.1.0.2 in
    rw (type_at, precision.0, scale.0, bits) refl

fixed_size_binary_type : (n : ℕ) (b : List ℕ) (t : Table) → suc n < 2 ^ 31 → HoldsSlots (unless_zero w32 (pos (suc n)) layout.no_more) b t 0 → type_at b t 0 schema.fixed_size_binary ≡ Ok (λ fs. kind.fixed_size_binary (suc n))
unfolding type_at bind
fixed_size_binary_type n b t few h =
    let size = zero_back w32 (pos (suc n)) layout.no_more b t 0 (record { sfits = few }) h in
    rw (type_at, size.0) refl

-- ── kinds without children ──

abbrev pub IsFlat : Kind → Type 0
IsFlat (kind.«list» o fs) = ⊥
IsFlat (kind.fixed_size_list n fs) = ⊥
IsFlat (kind.struct fs) = ⊥
IsFlat (kind.map sorted fs) = ⊥
IsFlat (kind.union mode stated ids fs) = ⊥
IsFlat (kind.dictionary t ordered id k) = ⊥
IsFlat (kind.extension name metadata k) = ⊥
IsFlat k = Unit {0}

pub flat_by : (k : Kind) (tag : Tag) (b : List ℕ) (q : ℕ) (t : Table) → tag_of (cast_unsigned w8 (type_tag k)) ≡ Ok tag → is_nested tag ≡ false → table_at b q ≡ Ok t → type_at b t 0 tag ≡ Ok (λ fs. k) → TypeBack k false 0 b q (λ fs. k)
flat_by k tag b q t tagged flat found type = record { tag = tag; tag_is = tagged; nested_is = flat; t = t; found = found; type_is = type }

pub flat_type : (k : Kind) (at : Part) (levels : ℕ) (b : List ℕ) (q : ℕ) → IsFlat k → KindFits at levels k → Holds (type_node k) b q → TypeBack k false 0 b q (λ fs. k)
unfolding type_at
flat_type kind.null at levels b q flat fits h = flat_by kind.null schema.null b q h.0 refl refl h.1 refl
flat_type kind.boolean at levels b q flat fits h = flat_by kind.boolean schema.bool b q h.0 refl refl h.1 refl
flat_type (kind.integer i) at levels b q flat fits h = flat_by (kind.integer i) schema.int b q h.0 refl refl h.1 (int_type i b h.0 h.2)
flat_type (kind.float kind.half) at levels b q flat fits h = flat_by (kind.float kind.half) schema.floating_point b q h.0 refl refl h.1 (float_type 0 b h.0 (choice_of 3 0 b h.0 0 0 refl (unsigned_absent w16 0 b h.0 0 (past b h.0 0 h.2))))
flat_type (kind.float kind.single) at levels b q flat fits h = flat_by (kind.float kind.single) schema.floating_point b q h.0 refl refl h.1 (float_type 1 b h.0 (choice_of 3 0 b h.0 0 1 refl (unsigned_there w16 0 b h.0 0 h.2.0.0 1 h.2.0.1 h.2.0.2)))
flat_type (kind.float kind.double) at levels b q flat fits h = flat_by (kind.float kind.double) schema.floating_point b q h.0 refl refl h.1 (float_type 2 b h.0 (choice_of 3 0 b h.0 0 2 refl (unsigned_there w16 0 b h.0 0 h.2.0.0 2 h.2.0.1 h.2.0.2)))
flat_type kind.date32 at levels b q flat fits h = flat_by kind.date32 schema.date b q h.0 refl refl h.1 (date_type 0 b h.0 (choice_of 2 1 b h.0 0 0 refl (unsigned_there w16 1 b h.0 0 h.2.0.0 0 h.2.0.1 h.2.0.2)))
flat_type kind.date64 at levels b q flat fits h = flat_by kind.date64 schema.date b q h.0 refl refl h.1 (date_type 1 b h.0 (choice_of 2 1 b h.0 0 1 refl (unsigned_absent w16 1 b h.0 0 (past b h.0 0 h.2))))
flat_type (kind.time32 u) at levels b q flat fits h = flat_by (kind.time32 u) schema.time b q h.0 refl refl h.1 (time32_type u b h.0 fits h.2)
flat_type (kind.time64 u) at levels b q flat fits h = flat_by (kind.time64 u) schema.time b q h.0 refl refl h.1 (time64_type u b h.0 fits h.2)
flat_type (kind.timestamp u tz) at levels b q flat fits h = flat_by (kind.timestamp u tz) schema.timestamp b q h.0 refl refl h.1 (timestamp_type u tz b h.0 fits h.2)
flat_type (kind.duration u) at levels b q flat fits h = flat_by (kind.duration u) schema.duration b q h.0 refl refl h.1 (duration_type u b h.0 h.2)
flat_type (kind.interval YearMonth) at levels b q flat fits h = flat_by (kind.interval YearMonth) schema.interval b q h.0 refl refl h.1 (interval_type 0 b h.0 (choice_of 3 0 b h.0 0 0 refl (unsigned_absent w16 0 b h.0 0 (past b h.0 0 h.2))))
flat_type (kind.interval DayTime) at levels b q flat fits h = flat_by (kind.interval DayTime) schema.interval b q h.0 refl refl h.1 (interval_type 1 b h.0 (choice_of 3 0 b h.0 0 1 refl (unsigned_there w16 0 b h.0 0 h.2.0.0 1 h.2.0.1 h.2.0.2)))
flat_type (kind.interval MonthDayNano) at levels b q flat fits h = flat_by (kind.interval MonthDayNano) schema.interval b q h.0 refl refl h.1 (interval_type 2 b h.0 (choice_of 3 0 b h.0 0 2 refl (unsigned_there w16 0 b h.0 0 h.2.0.0 2 h.2.0.1 h.2.0.2)))
flat_type (kind.decimal p s) at levels b q flat fits h = flat_by (kind.decimal p s) schema.decimal b q h.0 refl refl h.1 (decimal_type p s b h.0 fits.0 fits.1 h.2)
flat_type (kind.decimal256 p s) at levels b q flat fits h = flat_by (kind.decimal256 p s) schema.decimal b q h.0 refl refl h.1 (decimal256_type p s b h.0 fits.0 fits.1 h.2)
flat_type (kind.binary small) at levels b q flat fits h = flat_by (kind.binary small) schema.binary b q h.0 refl refl h.1 refl
flat_type (kind.binary large) at levels b q flat fits h = flat_by (kind.binary large) schema.large_binary b q h.0 refl refl h.1 refl
flat_type (kind.utf8 small) at levels b q flat fits h = flat_by (kind.utf8 small) schema.utf8 b q h.0 refl refl h.1 refl
flat_type (kind.utf8 large) at levels b q flat fits h = flat_by (kind.utf8 large) schema.large_utf8 b q h.0 refl refl h.1 refl
flat_type kind.binary_view at levels b q flat fits h = flat_by kind.binary_view schema.binary_view b q h.0 refl refl h.1 refl
flat_type kind.utf8_view at levels b q flat fits h = flat_by kind.utf8_view schema.utf8_view b q h.0 refl refl h.1 refl
flat_type (kind.fixed_size_binary zero) at levels b q flat fits h = absurd (omega (arith, fits.0))
flat_type (kind.fixed_size_binary (suc n)) at levels b q flat fits h = flat_by (kind.fixed_size_binary (suc n)) schema.fixed_size_binary b q h.0 refl refl h.1 (fixed_size_binary_type n b h.0 fits.1 h.2)
flat_type k at levels b q flat fits h = absurd flat
