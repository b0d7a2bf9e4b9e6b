-- The objects over memory as clauses see them: what they hold, and which of their calls fail.
use Rattle.std.specs.Prelude.{◌≡◌, ℕ, ◌+◌, ◌-◌, ◌^◌, min, max, List, [], length, Bool, false, true, ◌&&◌, ◌||◌, ◌==◌, nat_le, nat_lt, Option, Some, None, Result, Ok, Err, if◌then◌else◌}
use Rattle.std.specs.List.{list_any}
use Rattle.ipc_io.specs.declared.outside.PutError.{PutError}
use Rattle.ipc_io.specs.declared.outside.PutError.TheVariants as put

-- the numbers of the calls that are to fail, from 0 on; the number of the next call; and how often a call has failed
pub record Calls : Type 0 where
  pub failing : List ℕ
  pub next : ℕ
  pub faults : ℕ

abbrev pub no_calls : List ℕ → Calls
no_calls failing = record { failing = failing; next = 0; faults = 0 }

-- whether the next call is to fail
abbrev pub is_failing : Calls → Bool
is_failing calls = list_any (λ n. n == calls.next) calls.failing

-- a count, which stops at the last value of a u64 and does not fall
abbrev pub counted : ℕ → ℕ → ℕ
counted count more = max count (min (count + more) (2 ^ 64 - 1))

abbrev pub one_if : Bool → ℕ
one_if failed = if failed then 1 else 0

-- after a call that failed, or did not
abbrev pub after_call : Calls → Bool → Calls
after_call calls failed = record { failing = calls.failing; next = counted calls.next 1; faults = counted calls.faults (one_if failed) }

-- ── sources ──

pub record SourceState : Type 0 where
  pub bytes : List ℕ
  pub places : List ℕ
  pub calls : Calls
  pub fetched : ℕ

-- whether one of these places is among n from `at` on
abbrev pub holds_place : List ℕ → ℕ → ℕ → Bool
holds_place places at n = list_any (λ p. nat_le at p && nat_lt (p - at) n) places

-- whether a read of n bytes from `at` on fails
abbrev pub is_read_failing : SourceState → ℕ → ℕ → Bool
is_read_failing source at n = holds_place source.places at n || is_failing source.calls

abbrev pub after_read : SourceState → ℕ → Bool → SourceState
after_read source n failed = record { bytes = source.bytes; places = source.places; calls = after_call source.calls failed; fetched = counted source.fetched n }

abbrev pub after_size : SourceState → Bool → SourceState
after_size source failed = record source { calls = after_call source.calls failed }

-- no call and no place is to fail
pub record SourceNeverFails (source : SourceState) : Type 0 where
  pub calls : source.calls.failing ≡ []
  pub places : source.places ≡ []

abbrev pub new_source : List ℕ → List ℕ → List ℕ → SourceState
new_source bytes failing places = record { bytes = bytes; places = places; calls = no_calls failing; fetched = 0 }

-- ── feeds ──

pub record FeedState : Type 0 where
  pub rest : List ℕ
  pub most : ℕ
  pub calls : Calls

-- how many bytes a pull gives where there is room for so many
abbrev pub pulled : FeedState → ℕ → ℕ
pulled feed room = min (min room feed.most) (length feed.rest)

-- ── sinks ──

pub record SinkState : Type 0 where
  pub written : List ℕ
  pub room : Option ℕ
  pub calls : Calls
  pub wants : ℕ

-- how many of so many bytes there is room for
abbrev pub fitting : Option ℕ → ℕ → ℕ → ℕ
fitting None used n = n
fitting (Some room) used n = min n (room - used)

-- how many of so many bytes are put by a call that fails
abbrev pub put_in_vain : SinkState → ℕ → ℕ
put_in_vain sink n = if is_failing sink.calls then 0 else fitting sink.room (length sink.written) n

-- no call is to fail, and there is room for all
pub record SinkNeverFails (sink : SinkState) : Type 0 where
  pub calls : sink.calls.failing ≡ []
  pub room : sink.room ≡ None

abbrev pub is_failed : Result (Unit {0}) PutError → Bool
is_failed (Ok done) = false
is_failed (Err put.Failed) = true
is_failed (Err put.Memory) = false
