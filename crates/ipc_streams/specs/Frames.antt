-- The next message of a stream as it is pulled from a feed. (Arrow Columnar Format, "Encapsulated message format", "IPC Streaming Format".)
use Rattle.std.specs.Prelude.{◌≡◌, ◌≤◌, ℕ, List, [], take, drop, length, nat_lt, true, false, ⊤, Option, Some, None, Result, Ok, Err, if◌then◌else◌}
use Rattle.arrow_spec.specs.declared.error.IpcError.{IpcError}
use Rattle.arrow_spec.specs.Messages.{is_mark}
use Rattle.arrow_spec.specs.Readings.{◌>>=◌, Reading, Refuses, as_kind, natural, refusals}
use Rattle.arrow_spec.specs.declared.error.OutOfSpecKind.TheVariants as kinds
use Rattle.arrow_spec.specs.Flat.{signed_at}
use Rattle.std.specs.Int.{w32}
use Rattle.arrow_spec.specs.Streams.{next_message, stream_prefix}
use Rattle.ipc_streams.specs.declared.frame.Frame.{Frame}
use Rattle.ipc_streams.specs.declared.frame.Frame.TheVariants as frames

-- how long a message's prefix is: eight bytes with the mark, and four without
abbrev pub prefix_length : List ℕ → ℕ
prefix_length b = if is_mark (take 4 b) then 8 else 4

-- what stands at the front of some bytes, behind which others are left: fewer than four bytes, an end mark, or a message's prefix and metadata
abbrev pub IsFront : List ℕ → Option (List ℕ) → Frame → Type 0
IsFront b rest' frames.Waiting = (next_message b ≡ Ok None) × (nat_lt (length b) 4 ≡ true) × (rest' ≡ Some [])
IsFront b rest' frames.Ended = (next_message b ≡ Ok None) × (nat_lt (length b) 4 ≡ false) × (rest' ≡ Some (drop (prefix_length b) b))
IsFront b rest' (frames.Message metadata) = (behind : List ℕ) × (next_message b ≡ Ok (Some (record { metadata = metadata.items; behind = behind })))
    × (rest' ≡ Some behind)

-- the same of what a call answers, where the bytes are told
abbrev pub GivesFront : Option (List ℕ) → Option (List ℕ) → Result Frame IpcError → Type 0
GivesFront None rest' result = ⊤
GivesFront (Some b) rest' (Ok frame) = IsFront b rest' frame
GivesFront (Some b) rest' (Err e) = Refuses e (refusals (next_message b))

-- the length that four bytes state
unfoldable pub stated_length : List ℕ → Reading ℕ
stated_length four = as_kind (λ f. kinds.Truncated) (signed_at w32 four 0) >>= natural

-- a call gives the length of a message's metadata, behind the first four bytes of its prefix, and leaves the bytes behind the prefix
abbrev pub IsLength : List ℕ → Option (List ℕ) → Result ℕ IpcError → Type 0
IsLength b rest' (Ok n) = (stream_prefix b ≡ Ok (prefix_length b, n)) × (rest' ≡ Some (drop (prefix_length b) b))
IsLength b rest' (Err e) = Refuses e (refusals (stream_prefix b))

abbrev pub GivesLength : List ℕ → Option (List ℕ) → Option (List ℕ) → Result ℕ IpcError → Type 0
GivesLength front rest rest' result = (b : List ℕ) → 4 ≤ length b → front ≡ take 4 b → rest ≡ Some (drop 4 b) → IsLength b rest' result
