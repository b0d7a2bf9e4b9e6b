-- A line that was noted, or failed.
use Rattle.std.proofs.Common.{ℕ, ◌⊎◌, List, [], Option, Result, Ok, Err, inl, inr, append-nil, subst}
use Rattle.ipc_io.specs.Outside.{AppendsPrefix, PutsFront, PutsHaveCause, Stands, Rose}
use Rattle.ipc_io.proofs.Known.{AppendsPrefix-front}
use Rattle.ipc_tool.specs.declared.refusal.Refusal.{Refusal}
use Rattle.ipc_tool.specs.Refusal.{line_of}
use Rattle.ipc_tool.specs.Notes.{IsNoted}
use Rattle.ipc_round_trip.proofs.Below.{stood}

pub neither_rose : (f f' w w' : ℕ) → Stands f f' → Stands w w' → Rose f f' ⊎ Rose w w' → ⊥
neither_rose f f' w w' s t (inl r) = stood f f' s r
neither_rose f f' w w' s t (inr r) = stood w w' t r

pub noted : {E : Type 0} → (e : Refusal) (old new : Option (List ℕ)) (f f' w w' : ℕ) (r : Result (Unit {0}) E) → PutsFront old new r (line_of e) → PutsHaveCause f f' w w' r → IsNoted e old new f f' w w'
noted e old new f f' w w' (Ok done) p q = record {
  part = subst (AppendsPrefix old new) (append-nil (line_of e)) (AppendsPrefix-front old new (line_of e) [] p);
  whole = λ s t. p;
}
noted e old new f f' w w' (Err x) p q = record { part = p; whole = λ s t. absurd (neither_rose f f' w w' s t q.rose) }
