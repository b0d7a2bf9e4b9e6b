-- Numbers that are written one after another.
use Rattle.std.proofs.Common.{◌≡◌, ℕ, ◌+◌, ◌<◌, List, [], ◌∷◌, ◌++◌, length, sym, ap, ◌∙◌, append_assoc, append-nil, get_or, take, ℤ, pos, to_z, SFits}
use Rattle.std.specs.List.{flat_map}
use Rattle.std.specs.Int.{Width, to_le_bytes, cast_unsigned}
use Rattle.std.proofs.lemmas.Int.{to_z-of_z}
use Rattle.std.proofs.lemmas.List.{take_more}
use Rattle.std.proofs.lemmas.Grind.{flat_map-append}

pub number_step : (w : Width) (zs : List ℤ) (i : ℕ) (start old new bytes : List ℕ) → i < length zs → SFits w (get_or zs i (pos 0)) → old ≡ start ++ flat_map (λ x. to_le_bytes w (cast_unsigned w x)) (take i zs)
    → bytes ≡ to_le_bytes w (cast_unsigned w (to_z w (cast_unsigned w (get_or zs i (pos 0))))) → new ≡ old ++ bytes → new ≡ start ++ flat_map (λ x. to_le_bytes w (cast_unsigned w x)) (take (i + 1) zs)
number_step w zs i start old new bytes h fits ho hb hn =
    let f = λ (x : ℤ). to_le_bytes w (cast_unsigned w x) in
    let z = get_or zs i (pos 0) in
    let piece = f z in
    let more : flat_map f (take (i + 1) zs) ≡ flat_map f (take i zs) ++ piece =
    ap (λ xs. flat_map f xs) (take_more zs i (pos 0) h) ∙ flat_map-append f (take i zs) (z ∷ []) ∙ ap (λ xs. flat_map f (take i zs) ++ xs) (append-nil piece) in
    hn ∙ ap (λ xs. xs ++ bytes) ho ∙ ap (λ xs. (start ++ flat_map f (take i zs)) ++ xs) (hb ∙ ap f (to_z-of_z w z fits))
    ∙ append_assoc start (flat_map f (take i zs)) piece ∙ ap (λ xs. start ++ xs) (sym more)
