-- The bytes of the buffers of a body: numbers in an order, and offsets that begin at 0. (Arrow Columnar Format, "Buffer Listing for Each Layout".)
use Rattle.std.specs.Prelude.{◌≡◌, length, ℕ, zero, suc, ◌+◌, ◌-◌, ◌*◌, ◌/◌, ◌%◌, ◌^◌, ◌<◌, List, [], ◌∷◌, ◌++◌, map, take, drop, reverse, ℤ, Bool, true, if◌then◌else◌}
use Rattle.std.specs.Int.{byte_len}
use Rattle.std.specs.List.{flat_map}
use Rattle.arrow_spec.specs.Flat.{Order, little, big}
use Rattle.arrow_spec.specs.Kinds.{Offsets}
use Rattle.arrow_spec.specs.Counts.{magnitude}
use Rattle.arrow_spec.specs.Arrays.{offset_width}
use Rattle.arrow_types.specs.Numbers.{to_bytes, signed_from_bytes, offsets_by}
use Rattle.arrow_types.specs.Physical.{primitive_size}
use Rattle.arrow_types.specs.declared.physical.PrimitiveType.{PrimitiveType}
use Rattle.arrow_types.specs.declared.physical.PrimitiveType.TheVariants as primitive
use Rattle.arrow_buffers.specs.Items.{items_at}
use Rattle.arrow_buffers.specs.Variable.{place_at, are_offsets}

-- ── bits ──

-- the byte that up to eight bits make behind those of a byte that are known, the next of which has the weight
abbrev pub byte_by : ℕ → ℕ → List Bool → ℕ
byte_by weight byte [] = byte
byte_by weight byte (b ∷ bs) = byte_by (weight * 2) (if b then byte + weight else byte) bs

-- ── numbers ──

-- the bytes of a number in an order, by those that have the lowest first: each integer in it is turned by itself
abbrev pub in_order : Order → PrimitiveType → List ℕ → List ℕ
in_order little p bytes = bytes
in_order big primitive.DaysMs bytes = reverse (take 4 bytes) ++ reverse (drop 4 bytes)
in_order big primitive.MonthDayNano bytes = reverse (take 4 bytes) ++ reverse (take 4 (drop 4 bytes)) ++ reverse (drop 8 bytes)
in_order big p bytes = reverse bytes

-- so many numbers, each turned from one order into the other
abbrev pub turned_items : PrimitiveType → ℕ → List ℕ → List ℕ
turned_items p zero bytes = []
turned_items p (suc n) bytes = in_order big p (take (primitive_size p) bytes) ++ turned_items p n (drop (primitive_size p) bytes)

-- all of the numbers in some bytes
abbrev pub turned : PrimitiveType → List ℕ → List ℕ
turned p bytes = turned_items p (length bytes / primitive_size p) bytes

-- bytes are those of whole numbers
pub record AreNumbers (p : PrimitiveType) (bytes : List ℕ) : Type 0 where
  pub above : 0 < primitive_size p
  pub whole : length bytes % primitive_size p ≡ 0

-- ── offsets ──

-- offsets that begin at 0
abbrev pub rebased : List ℤ → List ℕ
rebased offsets = map (λ x. magnitude x - place_at offsets 0) offsets

-- their bytes
abbrev pub offset_bytes : Order → Offsets → List ℤ → List ℕ
offset_bytes order o offsets = flat_map (λ n. to_bytes order (offset_width o) n) (rebased offsets)

-- the offsets that stand in some bytes
abbrev pub held_offsets : Bool → Order → List ℕ → List ℤ
held_offsets is_large order bytes =
    let w = offset_width (offsets_by is_large) in
    items_at (signed_from_bytes w) (byte_len w) order bytes 0 (length bytes / byte_len w)

-- they rise up to a limit, their bytes are those of whole offsets, and this is the first
pub record AreCounted (is_large : Bool) (order : Order) (bytes : List ℕ) (limit first : ℕ) : Type 0 where
  pub rise : are_offsets (held_offsets is_large order bytes) limit ≡ true
  pub whole : length bytes % byte_len (offset_width (offsets_by is_large)) ≡ 0
  pub starts : first ≡ place_at (held_offsets is_large order bytes) 0
  pub small : limit < 2 ^ 64
