-- The cell that a number's bytes are is the one that the number is.
use Rattle.std.specs.Prelude.{◌≡◌, ℕ, ◌<◌, ◌^◌, true, ℤ, pos, refl, List}
use Rattle.std.proofs.Common.{ap, ◌∙◌, sym, ◌∷◌, [], get_or}
use Rattle.std.proofs.lemmas.Bool.{eqb-true}
use Rattle.std.specs.Int.{w8, w16, w32, w64, w128}
use Rattle.std.specs.Int.RustNames.{FitsSigned}
use Rattle.arrow_spec.specs.Flat.{little}
use Rattle.arrow_spec.specs.Kinds.{Kind}
use Rattle.arrow_spec.specs.Cells.{number, interval}
use Rattle.arrow_types.specs.Physical.{physical_of}
use Rattle.arrow_types.specs.Numbers.{signed_to_bytes, unsigned_to_bytes, days_ms_to_bytes, months_days_ns_to_bytes}
use Rattle.arrow_types.specs.NumberLaws.{signed_back, unsigned_back}
use Rattle.arrow_types.specs.declared.numbers.interval.days_ms.{days_ms}
use Rattle.arrow_types.specs.declared.numbers.interval.months_days_ns.{months_days_ns}
use Rattle.arrow_types.specs.declared.physical.PhysicalType.{PhysicalType}
use Rattle.arrow_types.specs.declared.physical.PhysicalType.TheVariants as physical
use Rattle.arrow_types.specs.declared.physical.PrimitiveType.{PrimitiveType}
use Rattle.arrow_buffers.specs.Layouts.{is_primitive, primitive_number}
use Rattle.arrow_arrays.specs.LeafParts.{number_cell, layout_cell, signed_at}
use Rattle.arrow_types.specs.declared.physical.PrimitiveType.TheVariants.{Int8, Int16, Int32, Int64, Int128, Int256, UInt8, UInt16, UInt32, UInt64, Float16, Float32, Float64, DaysMs, MonthDayNano}

-- a primitive type is told by its number
abbrev by_number : ℕ → PrimitiveType
by_number n = get_or (Int8 ∷ Int16 ∷ Int32 ∷ Int64 ∷ Int128 ∷ Int256 ∷ UInt8 ∷ UInt16 ∷ UInt32 ∷ UInt64 ∷ Float16 ∷ Float32 ∷ Float64 ∷ DaysMs ∷ MonthDayNano
    ∷ []) n Int8

by_number-number : (p : PrimitiveType) → by_number (primitive_number p) ≡ p
by_number-number Int8 = refl
by_number-number p = refl

pub layout_is : (p : PrimitiveType) (l : PhysicalType) → is_primitive p l ≡ true → l ≡ physical.Primitive p
layout_is p (physical.Primitive q) e =
    ap physical.Primitive (sym (by_number-number q) ∙ ap by_number (eqb-true (primitive_number q) (primitive_number p) e) ∙ by_number-number p)
layout_is p l e = cc

-- the cell in a layout of a primitive type
cell_is : (p : PrimitiveType) (k : Kind) (bytes : List ℕ) → is_primitive p (physical_of k) ≡ true
    → number_cell k bytes ≡ layout_cell (physical.Primitive p) bytes
cell_is p k bytes e = ap (λ l. layout_cell l bytes) (layout_is p (physical_of k) e)

pub int8_cell : (k : Kind) (x : ℤ) → FitsSigned w8 x → is_primitive Int8 (physical_of k) ≡ true → number_cell k (signed_to_bytes w8 little x) ≡ number x
int8_cell k x h e = cell_is Int8 k (signed_to_bytes w8 little x) e ∙ ap number (signed_back w8 little x h)

pub int16_cell : (k : Kind) (x : ℤ) → FitsSigned w16 x → is_primitive Int16 (physical_of k) ≡ true → number_cell k (signed_to_bytes w16 little x) ≡ number x
int16_cell k x h e = cell_is Int16 k (signed_to_bytes w16 little x) e ∙ ap number (signed_back w16 little x h)

pub int32_cell : (k : Kind) (x : ℤ) → FitsSigned w32 x → is_primitive Int32 (physical_of k) ≡ true → number_cell k (signed_to_bytes w32 little x) ≡ number x
int32_cell k x h e = cell_is Int32 k (signed_to_bytes w32 little x) e ∙ ap number (signed_back w32 little x h)

pub int64_cell : (k : Kind) (x : ℤ) → FitsSigned w64 x → is_primitive Int64 (physical_of k) ≡ true → number_cell k (signed_to_bytes w64 little x) ≡ number x
int64_cell k x h e = cell_is Int64 k (signed_to_bytes w64 little x) e ∙ ap number (signed_back w64 little x h)

pub int128_cell : (k : Kind) (x : ℤ) → FitsSigned w128 x → is_primitive Int128 (physical_of k) ≡ true → number_cell k (signed_to_bytes w128 little x) ≡ number x
int128_cell k x h e = cell_is Int128 k (signed_to_bytes w128 little x) e ∙ ap number (signed_back w128 little x h)

pub uint8_cell : (k : Kind) (x : ℕ) → x < 2 ^ 8 → is_primitive UInt8 (physical_of k) ≡ true → number_cell k (unsigned_to_bytes w8 little x) ≡ number (pos x)
uint8_cell k x h e = cell_is UInt8 k (unsigned_to_bytes w8 little x) e ∙ ap (λ n. number (pos n)) (unsigned_back w8 little x h)

pub uint16_cell : (k : Kind) (x : ℕ) → x < 2 ^ 16 → is_primitive UInt16 (physical_of k) ≡ true → number_cell k (unsigned_to_bytes w16 little x) ≡ number (pos x)
uint16_cell k x h e = cell_is UInt16 k (unsigned_to_bytes w16 little x) e ∙ ap (λ n. number (pos n)) (unsigned_back w16 little x h)

pub uint32_cell : (k : Kind) (x : ℕ) → x < 2 ^ 32 → is_primitive UInt32 (physical_of k) ≡ true → number_cell k (unsigned_to_bytes w32 little x) ≡ number (pos x)
uint32_cell k x h e = cell_is UInt32 k (unsigned_to_bytes w32 little x) e ∙ ap (λ n. number (pos n)) (unsigned_back w32 little x h)

pub uint64_cell : (k : Kind) (x : ℕ) → x < 2 ^ 64 → is_primitive UInt64 (physical_of k) ≡ true → number_cell k (unsigned_to_bytes w64 little x) ≡ number (pos x)
uint64_cell k x h e = cell_is UInt64 k (unsigned_to_bytes w64 little x) e ∙ ap (λ n. number (pos n)) (unsigned_back w64 little x h)

pub days_ms_cell : (k : Kind) (x : days_ms) → FitsSigned w32 x.days × FitsSigned w32 x.milliseconds → is_primitive DaysMs (physical_of k) ≡ true
    → number_cell k (days_ms_to_bytes little x) ≡ interval x.days x.milliseconds (pos 0)
days_ms_cell k x h e =
    let bytes = days_ms_to_bytes little x in
    cell_is DaysMs k bytes e
    ∙ ap (λ z. interval z (signed_at w32 4 bytes) (pos 0)) (signed_back w32 little x.days h.0)
    ∙ ap (λ z. interval x.days z (pos 0)) (signed_back w32 little x.milliseconds h.1)

pub months_days_ns_cell : (k : Kind) (x : months_days_ns) → FitsSigned w32 x.months × FitsSigned w32 x.days × FitsSigned w64 x.ns
    → is_primitive MonthDayNano (physical_of k) ≡ true → number_cell k (months_days_ns_to_bytes little x) ≡ interval x.months x.days x.ns
months_days_ns_cell k x h e =
    let bytes = months_days_ns_to_bytes little x in
    cell_is MonthDayNano k bytes e
    ∙ ap (λ z. interval z (signed_at w32 4 bytes) (signed_at w64 8 bytes)) (signed_back w32 little x.months h.0)
    ∙ ap (λ z. interval x.months z (signed_at w64 8 bytes)) (signed_back w32 little x.days h.1)
    ∙ ap (interval x.months x.days) (signed_back w64 little x.ns h.2)
