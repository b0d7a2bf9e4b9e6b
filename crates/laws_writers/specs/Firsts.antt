-- What is sent of a batch's dictionaries, as a file may have it: of each id at most one message that is no delta, and it is the first. (Arrow Columnar Format, "IPC File Format".)
use Rattle.std.specs.Prelude.{◌≡◌, ℤ, List, [], ◌∷◌, false, Option, None}
use Rattle.arrow_spec.specs.Cells.{Cell}
use Rattle.ipc_messages.specs.Below.{ToSend}
use Rattle.laws_writers.specs.Heard.{with_part}

-- each of some messages is a delta, or nothing is known under its id by those before it
abbrev pub AreFirst : (ℤ → Option (List Cell)) → List ToSend → Type 0
AreFirst c [] = Unit {0}
AreFirst c (m ∷ ms) = (m.is_delta ≡ false → c m.id ≡ None) × AreFirst (λ q. with_part q m (c q)) ms
