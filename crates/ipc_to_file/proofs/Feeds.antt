-- The bytes of a source from a place on, as they are pulled.
use Rattle.std.proofs.Common.{◌≡◌, ℕ, ◌+◌, ◌≤◌, ◌<◌, List, ◌++◌, length, take, drop, Option, None, Some, sym, ap, subst, ◌∙◌, arith, option_map}
use Rattle.std.specs.Io.KnownBytes.{Consumes, IsAtEnd}
use Rattle.std.proofs.lemmas.List.{drop-drop, take-append-drop, take-append-le, take_all}
use Rattle.ipc_io.specs.Outside.{StandsAt}

abbrev rest_at : ℕ → Option (List ℕ) → Option (List ℕ)
rest_at at = option_map (drop at)

some_rest : (o : Option (List ℕ)) (at : ℕ) (bytes : List ℕ) → StandsAt o at bytes → Consumes (rest_at at o) (rest_at (at + length bytes) o) bytes
some_rest None at bytes s = tt
some_rest (Some b) at bytes s = sym (take-append-drop (length bytes) (drop at b)) ∙ ap (λ xs. xs ++ drop (length bytes) (drop at b)) (sym s.1) ∙ ap (λ xs. bytes ++ xs) (drop-drop (length bytes) at b)

-- the bytes that were read into the front of what there was room for
pub some_pulled : (o o1 o2 : Option (List ℕ)) (at count : ℕ) (bytes behind : List ℕ) → o1 ≡ o → o2 ≡ o1 → length bytes ≡ count → (count ≡ 0 → length (bytes ++ behind) ≡ 0) → StandsAt o1 at bytes
    → Consumes (rest_at at o) (rest_at (at + count) o2) (take count (bytes ++ behind)) × (count ≡ 0 → 0 < length (bytes ++ behind) → IsAtEnd (rest_at (at + count) o2))
some_pulled o o1 o2 at count bytes behind same same' long few s =
    let all : count ≤ length bytes = omega arith in
    let front : take count (bytes ++ behind) ≡ bytes = take-append-le count bytes behind all ∙ take_all count bytes (omega arith) in
    let there : Consumes (rest_at at o1) (rest_at (at + count) o1) bytes = subst (λ n. Consumes (rest_at at o1) (rest_at (at + n) o1) bytes) long (some_rest o1 at bytes s) in
    let here : Consumes (rest_at at o) (rest_at (at + count) o2) bytes = subst (λ x. Consumes (rest_at at x) (rest_at (at + count) o2) bytes) same (subst (λ x. Consumes (rest_at at o1) (rest_at (at + count) x) bytes) (sym same') there) in
    (subst (Consumes (rest_at at o) (rest_at (at + count) o2)) (sym front) here, λ none more. absurd (omega (arith, few none, more)))
