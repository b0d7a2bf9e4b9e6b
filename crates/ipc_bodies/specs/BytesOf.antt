-- The bytes of a buffer, by what holds them.
use Rattle.std.specs.Prelude.{ℕ, List, []}
use Rattle.arrow_spec.specs.Framing.{packed}
use Rattle.ipc_bodies.specs.declared.buffer.Held.{Held}
use Rattle.ipc_bodies.specs.declared.buffer.Held.TheVariants as held

abbrev pub bytes_of : Held → List ℕ
bytes_of held.Nothing = []
bytes_of (held.Bits bits) = packed bits
bytes_of (held.Bytes bytes) = bytes
bytes_of (held.Turned bytes) = bytes
bytes_of (held.Offsets bytes) = bytes
