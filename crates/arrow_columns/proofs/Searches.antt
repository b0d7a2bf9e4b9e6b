-- A search by name, one step on.
use Rattle.std.proofs.Common.{◌≡◌, ℕ, zero, suc, ◌+◌, ◌<◌, List, [], ◌∷◌, Some, true, false, cond, length, drop, slice_get, refl, ap, sym, ◌∙◌, arith}
use Rattle.std.proofs.Math.Nat.{suc-add}
use Rattle.std.specs.Str.{bytes_eq}
use Rattle.arrow_types.specs.Schemas.{Keyed}
use Rattle.arrow_columns.specs.Named.{is_named, place_from}

-- what stands at a place below the end
pub record Stands (s : List Keyed) (i : ℕ) (p : Keyed) : Type 0 where
  pub found : slice_get s i ≡ Some p
  pub rest : drop i s ≡ p ∷ drop (i + 1) s

some_standing : (s : List Keyed) (i : ℕ) → i < length s → (p : Keyed) × Stands s i p
some_standing [] i h = absurd (omega arith)
some_standing (x ∷ xs) zero h = (x, record { found = refl; rest = refl })
some_standing (x ∷ xs) (suc i) h =
    let r = some_standing xs i (omega arith) in
    (r.0, record { found = r.1.found; rest = rw suc-add r.1.rest })

-- the field at a place is the one that is looked for
pub named_here : (name : List ℕ) (s : List Keyed) (i : ℕ) → i < length s → is_named name (slice_get s i) ≡ true → place_from name i (drop i s) ≡ Some i
named_here name s i h e =
    let r = some_standing s i h in
    let b : bytes_eq name r.0.0 ≡ true = sym (ap (is_named name) r.1.found) ∙ e in
    ap (place_from name i) r.1.rest ∙ ap (λ t. cond t (Some i) (place_from name (i + 1) (drop (i + 1) s))) b

-- it is not
pub named_behind : (name : List ℕ) (s : List Keyed) (i : ℕ) → i < length s → is_named name (slice_get s i) ≡ false → place_from name i (drop i s) ≡ place_from name (i + 1) (drop (i + 1) s)
named_behind name s i h e =
    let r = some_standing s i h in
    let b : bytes_eq name r.0.0 ≡ false = sym (ap (is_named name) r.1.found) ∙ e in
    ap (place_from name i) r.1.rest ∙ ap (λ t. cond t (Some i) (place_from name (i + 1) (drop (i + 1) s))) b
