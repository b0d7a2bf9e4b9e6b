-- The bytes of messages, bodies and bits as they are written.
use Rattle.std.specs.Prelude.{ℕ, ◌+◌, ◌-◌, ◌*◌, List, [], ◌∷◌, ◌++◌, length, Option, Some, None, Bool, nat_eq, if◌then◌else◌}
use Rattle.arrow_spec.specs.Layout.{Node, up_to, zeros, u32, layout, size}

-- how long a message's metadata is with zeros up to a multiple of 8
abbrev pub padded_size : Node → ℕ
padded_size n = up_to 8 (size n)

-- the metadata with those zeros
abbrev pub padded : Node → List ℕ
padded n = layout n ++ zeros (padded_size n - size n)

-- metadata of such a length behind the mark and the length
abbrev pub prefixed : ℕ → List ℕ → List ℕ
prefixed n metadata = (255 ∷ 255 ∷ 255 ∷ 255 ∷ []) ++ u32 n ++ metadata

-- a message with its whole body
unfoldable pub message_bytes : Node → List ℕ → List ℕ
message_bytes n body = prefixed (padded_size n) (padded n) ++ body

-- buffers one after another, each from a multiple of 64 on
abbrev pub body_bytes : ℕ → List (List ℕ) → List ℕ
body_bytes at [] = []
body_bytes at (x ∷ xs) = x ++ zeros (up_to 64 (at + length x) - (at + length x)) ++ body_bytes (up_to 64 (at + length x)) xs

-- bits behind those of a byte that are known, which lie below the weight
abbrev pub packed_from : ℕ → ℕ → List Bool → List ℕ
packed_from weight byte [] = if nat_eq weight 1 then [] else (byte ∷ [])
packed_from weight byte (b ∷ bs) =
    if nat_eq weight 128 then ((if b then byte + weight else byte) ∷ packed_from 1 0 bs) else packed_from (weight * 2) (if b then byte + weight else byte) bs

-- eight bits a byte, the lowest first, and zero behind the last
abbrev pub packed : List Bool → List ℕ
packed bits = packed_from 1 0 bits

-- the bytes of a validity: none where none is held
abbrev pub validity_bytes : Option (List Bool) → List ℕ
validity_bytes None = []
validity_bytes (Some bits) = packed bits
