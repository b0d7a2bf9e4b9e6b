-- Fields that are looked at one after another.
use Rattle.std.proofs.Common.{◌≡◌, ◌∙◌, refl, ap, ℕ, zero, suc, ◌+◌, List, [], ◌∷◌, ◌||◌, Some, map, drop, slice_get, arith}
use Rattle.arrow_types.specs.Child.{Child}
use Rattle.arrow_types.specs.Schemas.{Keyed, fields_in}
use Rattle.csv_texts.specs.Texts.{are_nested, is_nested}

pub nested_next : (s : List Keyed) (i : ℕ) (c : Child) → slice_get (map (λ p. p.1) s) i ≡ Some c → are_nested (fields_in (drop i s)) ≡ (is_nested c.kind || are_nested (fields_in (drop (i + 1) s)))
nested_next [] i c h = cc
nested_next (p ∷ ps) zero c h = let e : p.1 ≡ c = cc in ap (λ (z : Child). is_nested z.kind || are_nested (fields_in ps)) e
nested_next (p ∷ ps) (suc i) c h = let e : suc i + 1 ≡ suc (i + 1) = omega arith in rw e (nested_next ps i c h)
