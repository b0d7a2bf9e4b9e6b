-- The fields at places of a schema have keys of their own.
use Rattle.std.proofs.Common.{◌≡◌, ℕ, suc, ◌+◌, ◌<◌, ◌≤◌, List, [], ◌∷◌, ◌++◌, length, cond, get_or, Some, false, arith, refl, sym, ap, ◌∙◌, inl, inr, ◌⊎◌}
use Rattle.std.specs.List.{IsDistinct}
use Rattle.std.specs.Prelude.{slice_get}
use Rattle.std.specs.Str.{bytes_eq}
use Rattle.std.proofs.lemmas.Bool.{cases_lt}
use Rattle.std.proofs.lemmas.Cmp.{nat_list_eq_equiv}
use Rattle.std.proofs.lemmas.Map.Keys.{apart_from_distinct}
use Rattle.std.proofs.lemmas.Option.{slice_get_within, slice_get-map, slice_get-get_or, get_or_from_slice_get}
use Rattle.std.specs.Option.{option_map}
use Rattle.arrow_types.specs.Schemas.{Keyed, keys_in, with_field}
use Rattle.ipc_projection.specs.Places.{ArePlaces}
use Rattle.ipc_projection.proofs.Stood.{StandSoFar, one_more}

-- a key that no field has goes last
with_field-new : (done : List Keyed) (p : Keyed) → ((j : ℕ) (q : Keyed) → slice_get done j ≡ Some q → bytes_eq p.0 q.0 ≡ false) → with_field p.0 p.1 done ≡ done ++ p ∷ []
with_field-new [] p h = refl
with_field-new (q ∷ done) p h = ap (λ b. cond b ((q.0, p.1) ∷ done) (q ∷ with_field p.0 p.1 done)) (h 0 q refl) ∙ ap (λ r. q ∷ r) (with_field-new done p (λ j. h (suc j)))

-- fields at two places have two keys
keys_apart : (s : List Keyed) → IsDistinct bytes_eq (keys_in s) → (c d : ℕ) (p q : Keyed) → slice_get s c ≡ Some p → slice_get s d ≡ Some q → (c ≡ d → ⊥) → bytes_eq p.0 q.0 ≡ false
keys_apart s h c d p q e f away = by (cases_lt c d) (cases_lt d c)
  where
    key : (i : ℕ) (r : Keyed) → slice_get s i ≡ Some r → slice_get (keys_in s) i ≡ Some r.0
    key i r g = slice_get-map (λ r. r.0) s i ∙ ap (option_map (λ r. r.0)) g

    in_order : (i k : ℕ) (x y : Keyed) → slice_get s i ≡ Some x → slice_get s k ≡ Some y → i < k → bytes_eq x.0 y.0 ≡ false
    in_order i k x y g m l =
        sym (ap (bytes_eq x.0) (get_or_from_slice_get (keys_in s) k y.0 [] (key k y m)))
        ∙ sym (ap (λ b. bytes_eq b (get_or (keys_in s) k [])) (get_or_from_slice_get (keys_in s) i x.0 [] (key i x g)))
        ∙ apart_from_distinct bytes_eq (keys_in s) i k [] h l (slice_get_within (keys_in s) k y.0 (key k y m))

    by : (c < d) ⊎ (d ≤ c) → (d < c) ⊎ (c ≤ d) → bytes_eq p.0 q.0 ≡ false
    by (inl l) _ = in_order c d p q e f l
    by (inr l) (inl m) = nat_list_eq_equiv.symm p.0 q.0 ∙ in_order d c q p f e m
    by (inr l) (inr m) = absurd (away (omega (arith, l, m)))

-- the field at the next place goes last
pub field_stood : (s : List Keyed) (places : List ℕ) (i : ℕ) (done : List Keyed) → IsDistinct bytes_eq (keys_in s) → ArePlaces places (length s) → StandSoFar s places i done
    → (c : ℕ) (p : Keyed) → slice_get places i ≡ Some c → slice_get s c ≡ Some p → (new : List Keyed) → new ≡ with_field p.0 p.1 done → StandSoFar s places (i + 1) new
field_stood s places i done h a r c p e f new is = one_more s places i done r c p e f new (is ∙ with_field-new done p apart)
  where
    apart : (j : ℕ) (q : Keyed) → slice_get done j ≡ Some q → bytes_eq p.0 q.0 ≡ false
    apart j q m =
        let w : j < length done = slice_get_within done j q m in
        let n : length done ≡ i = r.count in
        let l : i < length places = slice_get_within places i c e in
        let g : slice_get places j ≡ Some (get_or places j 0) = slice_get-get_or places j 0 (omega arith) in
        keys_apart s h c (get_or places j 0) p q f (sym (r.each j (get_or places j 0) (omega arith) g) ∙ m) (λ same. let k : j ≡ i = a.once j i c (g ∙ ap Some (sym same)) e in omega arith)
