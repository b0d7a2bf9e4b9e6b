-- Answers that do a task.
use Rattle.std.proofs.Common.{◌≡◌, Ok, Err, IsErrAnd, Result, subst, sym}
use Rattle.ipc_tool.specs.Outside.{Outside}
use Rattle.ipc_tool.specs.Tasks.{Does, Task}
use Rattle.ipc_tool.specs.declared.refusal.Refusal.{Refusal}

-- what `?` makes of an error
pub does_at : (t : Task) (r : Result (Unit {0}) Refusal) (e : Refusal) (old new : Outside) → IsErrAnd r (λ f. f ≡ e) → Does t (Err e) old new → Does t r old new
does_at t (Ok x) e old new h d = absurd h
does_at t (Err f) e old new h d = subst (λ x. Does t (Err x) old new) (sym h) d
