-- The bits of bytes. (Arrow Columnar Format, "Validity bitmaps".)
use Rattle.std.specs.Prelude.{ℕ, ◌+◌, ◌^◌, List, Bool, if◌then◌else◌}
use Rattle.arrow_spec.specs.Arrays.{bit, from_on}

-- so many bits from one on, the lowest bit of each byte first
abbrev pub bits_from : List ℕ → ℕ → ℕ → List Bool
bits_from bytes at count = from_on (bit bytes) at count

-- a byte with one bit more, behind those below its weight
abbrev pub with_bit : ℕ → ℕ → Bool → ℕ
with_bit byte place b = if b then byte + 2 ^ place else byte
