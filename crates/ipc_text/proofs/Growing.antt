-- What is put behind a text, piece by piece.
use Rattle.std.proofs.Common.{◌≡◌, List, ℕ, ◌++◌, Result, Ok, Err, ◌∙◌, ap, append_assoc}
use Rattle.std.specs.Prelude.{OnOk}

pub grown_on : (old mid new p q : List ℕ) → mid ≡ old ++ p → new ≡ mid ++ q → new ≡ old ++ (p ++ q)
grown_on old mid new p q h g = g ∙ ap (λ s. s ++ q) h ∙ append_assoc old p q

pub grown_last : {E : Type 0} (r : Result (Unit {0}) E) (old mid new p q : List ℕ) → mid ≡ old ++ p → OnOk r (new ≡ mid ++ q) → OnOk r (new ≡ old ++ (p ++ q))
grown_last (Ok x) old mid new p q h g = grown_on old mid new p q h g
grown_last (Err e) old mid new p q h g = tt

pub grown_as : {E : Type 0} (r : Result (Unit {0}) E) (old new p q : List ℕ) → p ≡ q → OnOk r (new ≡ old ++ p) → OnOk r (new ≡ old ++ q)
grown_as (Ok x) old new p q h g = g ∙ ap (λ s. old ++ s) h
grown_as (Err e) old new p q h g = tt
