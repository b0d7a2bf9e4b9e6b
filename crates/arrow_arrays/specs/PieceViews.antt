-- Pieces of bytes, and the views and buffers of an array of them. (Arrow Columnar Format, "Variable-size Binary View Layout".)
use Rattle.std.specs.Prelude.{ℕ, ◌+◌, ◌-◌, ◌*◌, ◌/◌, ◌%◌, List, [], ◌∷◌, ◌++◌, length, take, drop, replicate, min, nat_le, if◌then◌else◌}
use Rattle.std.specs.Int.{w32, to_le_bytes}
use Rattle.arrow_spec.specs.Arrays.{from_on}
use Rattle.arrow_buffers.specs.Rows.{part}

-- the pieces of these lengths, one after another
abbrev pub pieces : List ℕ → List ℕ → List (List ℕ)
pieces [] bytes = []
pieces (n ∷ ns) bytes = take n bytes ∷ pieces ns (drop n bytes)

-- how far apart the buffers begin
abbrev pub stride : ℕ
stride = 4294967296

-- the buffer of a number: twice as many bytes as that, where there are as many
abbrev pub share : List ℕ → ℕ → List ℕ
share bytes k = part (stride * k) (min (length bytes - stride * k) (2 * stride)) bytes

-- all buffers
abbrev pub shares : List ℕ → List (List ℕ)
shares bytes = from_on (share bytes) 0 (length bytes / stride + 1)

-- the view of up to 12 bytes: the length, the bytes, and zeros
abbrev pub short_view_of : List ℕ → List ℕ
short_view_of piece = to_le_bytes w32 (length piece) ++ piece ++ replicate (12 - length piece) 0

-- the view of more bytes: the length, the first 4, the number of a buffer and the place in it
abbrev pub long_view_of : List ℕ → ℕ → List ℕ
long_view_of piece at = to_le_bytes w32 (length piece) ++ take 4 piece ++ to_le_bytes w32 (at / stride) ++ to_le_bytes w32 (at % stride)

-- the view of a piece that stands at a place
abbrev pub view_of : List ℕ → ℕ → List ℕ
view_of piece at = if nat_le (length piece) 12 then short_view_of piece else long_view_of piece at

-- the views of the pieces of these lengths, which stand from a place on
abbrev pub views_from : List ℕ → ℕ → List ℕ → List ℕ
views_from bytes at [] = []
views_from bytes at (n ∷ ns) = view_of (part at n bytes) at ++ views_from bytes (at + n) ns
