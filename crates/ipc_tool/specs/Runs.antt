-- What is answered to words, over a shelf, an input and an output, and noted.
use Rattle.std.specs.Prelude.{◌≡◌, ◌⊎◌, ◌≤◌, ℕ, List, Result, Ok, Err, IsErrAnd, IsNone, IsSomeAnd, MatchResult}
use Rattle.std.specs.Io.KnownBytes.{Keeps}
use Rattle.arrow_spec.specs.declared.error.IpcError.TheVariants as errors
use Rattle.ipc_words.specs.Requests.{request_of}
use Rattle.ipc_tool.specs.Commands.{task_of}
use Rattle.ipc_tool.specs.Notes.{IsNoted, Noted}
use Rattle.ipc_tool.specs.Outside.{Outside}
use Rattle.ipc_tool.specs.Refusal.{number_of}
use Rattle.ipc_tool.specs.Tasks.{Does}
use Rattle.ipc_tool.specs.declared.refusal.Refusal.{Refusal}
use Rattle.ipc_tool.specs.declared.refusal.Refusal.TheVariants.{Ipc, Words}

-- why words are refused: they are no request, or there was no memory for them
abbrev pub WordsCause : Refusal → List (List ℕ) → Type 0
WordsCause e words = ((e ≡ Words) × IsNone (request_of words)) ⊎ (e ≡ Ipc errors.Memory)

-- the words were refused, and everything stands as it stood
pub record IsUnbegun (words : List (List ℕ)) (answer : Result (Unit {0}) Refusal) (old new : Outside) : Type 0 where
  pub cause : IsErrAnd answer (λ e. WordsCause e words)
  pub same : new ≡ old

-- The words are refused, or they are a request whose task the answer does.
abbrev pub Answers : List (List ℕ) → Result (Unit {0}) Refusal → Outside → Outside → Type 0
Answers words answer old new = IsUnbegun words answer old new ⊎ IsSomeAnd (request_of words) (λ r. Does (task_of r) answer old new)

-- the status of an answer
abbrev pub status_in : Result (Unit {0}) Refusal → ℕ
status_in (Ok done) = 0
status_in (Err e) = number_of e

-- nothing is noted of what is done, and of a refusal its line
abbrev pub IsNotedOf : Result (Unit {0}) Refusal → Noted → Noted → Type 0
IsNotedOf answer noted noted' =
    MatchResult answer (λ _. Keeps noted.written noted'.written)
    (λ e. IsNoted e noted.written noted'.written noted.faults noted'.faults noted.wants noted'.wants)

-- What a run says by its status: it is that of one answer to the words, which was noted.
pub record Ran (status : ℕ) (words : List (List ℕ)) (old new : Outside) (noted noted' : Noted) : Type 0 where
  pub answer : Result (Unit {0}) Refusal
  pub answered : Answers words answer old new
  pub is : status ≡ status_in answer
  pub at_most : status ≤ 17
  pub line : IsNotedOf answer noted noted'
