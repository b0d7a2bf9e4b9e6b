-- From the places to which a map leads, back.
use Rattle.std.proofs.Common.{◌≡◌, ℕ, ◌+◌, ◌<◌, ◌≤◌, List, length, set, Some, arith, sym, ap, ◌∙◌, inl, inr, ◌⊎◌}
use Rattle.std.specs.BTreeMap.{BTreeMap}
use Rattle.std.specs.Prelude.{slice_get}
use Rattle.std.proofs.lemmas.Bool.{cases_lt}
use Rattle.std.proofs.lemmas.Option.{slice_get_within, same_Some}
use Rattle.ipc_projection.specs.Places.{ArePlaces, IsInverse, IsPermutation, entry}
use Rattle.ipc_projection.proofs.Stood.{get_set, get_others}

-- one more place is known
pub one_inverted : (m : BTreeMap ℕ ℕ) (n i : ℕ) (places : List ℕ) → IsPermutation m n → length places ≡ n → ((k j : ℕ) → k < i → entry m k ≡ Some j → slice_get places j ≡ Some k) → (p : ℕ) → entry m i ≡ Some p
    → (k j : ℕ) → k < i + 1 → entry m k ≡ Some j → slice_get (set places p i) j ≡ Some k
one_inverted m n i places h w known p e k j l f = by (cases_lt k i)
  where
    by : (k < i) ⊎ (i ≤ k) → slice_get (set places p i) j ≡ Some k
    by (inl b) = get_others places p i j (λ s. let same : k ≡ i = h.once k i p (f ∙ ap Some s) e in omega arith) ∙ known k j b f
    by (inr b) =
        let same : i ≡ k = omega (arith, l) in
        let s : j ≡ p = same_Some _ _ (sym f ∙ ap (entry m) (sym same) ∙ e) in
        let inside : p < n = (h.inside i p e).1 in
        ap (slice_get (set places p i)) s ∙ get_set places p i (omega arith) ∙ ap Some same

-- what is known of all places are places
pub inverse_places : (m : BTreeMap ℕ ℕ) (n : ℕ) (places : List ℕ) → IsPermutation m n → IsInverse m places n → ArePlaces places n
inverse_places m n places h v = record {
  below = λ j c e. (h.inside c j (led j c e)).0;
  once = λ j k c e f. same_Some _ _ (sym (led j c e) ∙ led k c f);
}
  where
    led : (j c : ℕ) → slice_get places j ≡ Some c → entry m c ≡ Some j
    led j c e =
        let w : length places ≡ n = v.count in
        let l : j < length places = slice_get_within places j c e in
        let i = h.reached j (omega arith) in
        let s : c ≡ i.0 = same_Some _ _ (sym e ∙ v.each i.0 j i.1) in
        ap (entry m) s ∙ i.1
