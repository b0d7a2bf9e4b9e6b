-- A stream, one batch after another. (Arrow Columnar Format, "IPC Streaming Format", "Dictionary Messages".)
use Rattle.std.specs.Prelude.{◌≡◌, ℕ, zero, suc, List, [], ◌∷◌, drop, length, Some, None, Ok, not, nat_eq, nat_lt, ◌||◌, if◌then◌else◌}
use Rattle.arrow_spec.specs.declared.error.IpcError.TheVariants.{TooMany}
use Rattle.arrow_spec.specs.declared.error.Counted.TheVariants as counted
use Rattle.arrow_spec.specs.Arrays.{Dictionaries}
use Rattle.arrow_spec.specs.Features.{chosen_floats}
use Rattle.arrow_spec.specs.Files.{TableBatch}
use Rattle.arrow_spec.specs.Messages.{message_of}
use Rattle.arrow_spec.specs.Readings.{◌>>=◌, Reading, free_of, refuse, unless}
use Rattle.arrow_spec.specs.Streams.{Framed, Reader, Step, next_message, stream_step}
use Rattle.ipc_streams.specs.Frames.{prefix_length}

-- what stands next in a stream: a batch, its end, or too few bytes for a message to begin
pub data Found : Type 0 where
  a_batch : TableBatch → Found
  ended : Found
  waiting : Found

-- the same, with the dictionaries behind the messages that stand before it, and the bytes behind it
pub record Next : Type 0 where
  pub found : Found
  pub dictionaries : Dictionaries
  pub rest : List ℕ

-- no message begins where fewer than four bytes are left, which are passed over, or an end mark stands
abbrev pub no_message : Dictionaries → List ℕ → Next
no_message d b =
    if nat_lt (length b) 4 then record { found = waiting; dictionaries = d; rest = [] } else record {
      found = ended;
      dictionaries = d;
      rest = drop (prefix_length b) b;
    }

-- how many dictionary messages may stand before a batch
abbrev pub most_dictionaries : ℕ
most_dictionaries = 1048576

-- a message is no dictionary, or so many more dictionaries may stand there
unfoldable pub has_room : ℕ → Reader → Framed → Reading (Unit {0})
has_room left s f = do
  floats ← free_of (chosen_floats s.columns s.schema.fields 0)
  m ← message_of f.metadata (λ tag. nat_eq tag 2 || nat_eq tag 3)
  unless (not (nat_eq m.tag 2) || nat_lt 0 left) (TooMany counted.Dictionaries)

-- what a message leaves, where it has room
unfoldable pub step_within : ℕ → Reader → Dictionaries → Framed → Reading Step
step_within left s d f = has_room left s f >>= λ room. stream_step s d f

-- a message's batch, or what stands behind its dictionary
abbrev pub batch_or : Reading Next → Step → Reading Next
batch_or others step = by step.batch
  where
    by : List TableBatch → Reading Next
    by [] = others
    by (x ∷ xs) = Ok (record { found = a_batch x; dictionaries = step.dictionaries; rest = step.rest })

-- what stands next, behind so many dictionaries at most
unfoldable pub next_in : ℕ → Reader → Dictionaries → List ℕ → Reading Next
next_in zero s d b = do
  next ← next_message b
  elim next [
    | None ↦ Ok (no_message d b)
    | Some f ↦ step_within zero s d f >>= λ step. batch_or (refuse (TooMany counted.Dictionaries)) step
  ]
next_in (suc left) s d b = do
  next ← next_message b
  elim next [
    | None ↦ Ok (no_message d b)
    | Some f ↦ step_within (suc left) s d f >>= λ step. batch_or (next_in left s step.dictionaries step.rest) step
  ]

-- A stream's batches, one after another, up to where it ends or waits.
pub data Nexts (s : Reader) : Dictionaries → List ℕ → List TableBatch → Type 0 where
  none_left : {d e : Dictionaries} {b rest : List ℕ} → next_in most_dictionaries s d b ≡ Ok (record { found = ended; dictionaries = e; rest = rest })
      → Nexts s d b []
  none_yet : {d e : Dictionaries} {b rest : List ℕ}
      → next_in most_dictionaries s d b ≡ Ok (record { found = waiting; dictionaries = e; rest = rest }) → Nexts s d b []
  one_more : {d e : Dictionaries} {b rest : List ℕ} {x : TableBatch} {xs : List TableBatch}
      → next_in most_dictionaries s d b ≡ Ok (record { found = a_batch x; dictionaries = e; rest = rest }) → Nexts s e rest xs → Nexts s d b (x ∷ xs)
