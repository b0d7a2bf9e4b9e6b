-- How bytes are put: as they are, or as hex text.
use Rattle.std.specs.Prelude.{ℕ, ◌*◌, ◌≤◌, List, ⊤}
use Rattle.hex.specs.Hex.{encode_lower}
use Rattle.ipc_bodies.specs.declared.encoding.Encoding.{Encoding}
use Rattle.ipc_bodies.specs.declared.encoding.Encoding.TheVariants.{Bytes, HexText}

-- bytes as they are, or as hex text
abbrev pub text_of : Encoding → List ℕ → List ℕ
text_of Bytes x = x
text_of HexText x = encode_lower x

-- how many bytes of text a byte is
abbrev pub text_width : Encoding → ℕ
text_width Bytes = 1
text_width HexText = 2

-- how many bytes of room a byte takes that is made there, with its text
abbrev pub made_width : Encoding → ℕ
made_width Bytes = 1
made_width HexText = 3

-- the text of so many bytes has room; bytes that are put as they are take none
abbrev pub HasRoom : Encoding → ℕ → ℕ → Type 0
HasRoom Bytes n room = ⊤
HasRoom HexText n room = 2 * n ≤ room
