-- Causes that are joined: what refuses a part refuses the whole, and nothing is wrong with the whole where nothing is with its parts.
use Rattle.std.proofs.Common.{◌≡◌, List, [], ◌∷◌, ◌++◌, refl, inl, inr}
use Rattle.arrow_spec.specs.declared.error.IpcError.{IpcError}
use Rattle.arrow_spec.specs.declared.error.IpcError.TheVariants as errors
use Rattle.arrow_spec.specs.Readings.{free_of, IsAmong, Refuses, refusals}

among_first : (xs ys : List IpcError) (e : IpcError) → IsAmong xs e → IsAmong (xs ++ ys) e
among_first (x ∷ xs) ys e (inl h) = inl h
among_first (x ∷ xs) ys e (inr h) = inr (among_first xs ys e h)
among_first [] ys e h = absurd h

among_second : (xs ys : List IpcError) (e : IpcError) → IsAmong ys e → IsAmong (xs ++ ys) e
among_second [] ys e h = h
among_second (x ∷ xs) ys e h = inr (among_second xs ys e h)

refuses_mono : (xs ys : List IpcError) (e : IpcError) → (IsAmong xs e → IsAmong ys e) → Refuses e xs → Refuses e ys
refuses_mono xs ys errors.Memory f h = tt
refuses_mono xs ys errors.ReadFault f h = tt
refuses_mono xs ys errors.WriteFault f h = tt
refuses_mono xs ys e f h = f h

pub refusals-place : (xs : List IpcError) → refusals (free_of xs) ≡ xs
refusals-place [] = refl
refusals-place (x ∷ xs) = refl

pub refuses_second : (xs ys : List IpcError) (e : IpcError) → Refuses e (refusals (free_of ys)) → Refuses e (refusals (free_of (xs ++ ys)))
refuses_second xs ys e h = rw (refusals-place (xs ++ ys)) (refuses_mono ys (xs ++ ys) e (among_second xs ys e) (rw (refusals-place ys) at h))
