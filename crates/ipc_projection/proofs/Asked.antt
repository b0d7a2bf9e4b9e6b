-- Columns asked for one after another: each has a place, and a number that is no column's or stood before is refused.
use Rattle.std.proofs.Common.{◌≡◌, ℕ, ◌+◌, ◌<◌, ◌≤◌, List, [], ◌∷◌, length, drop, set, get_or, replicate, None, Option, Some, Err, true, false, Bool, cond, arith, refl, sym, ap, ◌∙◌, inl, inr, ◌⊎◌}
use Rattle.std.specs.Prelude.{is_some, slice_get, nat_eq, nat_lt, not, ◌&&◌, ◌||◌}
use Rattle.std.proofs.lemmas.Bool.{cases_lt, cases_eq, and_from}
use Rattle.std.proofs.lemmas.List.{length-set, length-replicate, drop_more, get_or-set_same, get_or-set_other, get_or-replicate, get_or_past}
use Rattle.std.proofs.lemmas.List.Sums.{sum_by-set}
use Rattle.std.proofs.lemmas.List.Folds.{sum_by-replicate}
use Rattle.std.proofs.lemmas.Option.{get_or_from_slice_get, same_Some, none-some}
use Rattle.arrow_spec.specs.declared.error.IpcError.TheVariants.{Projection}
use Rattle.arrow_spec.specs.Readings.{◌>>=◌, bind, unless}
use Rattle.arrow_spec.specs.Columns.{stands_in}
use Rattle.arrow_spec.specs.Files.{wrong_columns}
use Rattle.ipc_projection.specs.Places.{ArePlacesOf}
use Rattle.ipc_projection.proofs.Stood.{get_set, get_others}

-- ── what stood before ──

-- the numbers that were there are those of columns with a place
abbrev pub AreEarlier : List ℕ → List (Option ℕ) → Type 0
AreEarlier earlier places = (c : ℕ) → stands_in earlier c ≡ is_some (get_or places c None)

nothing_at : (n c : ℕ) → get_or {A = Option ℕ} (replicate n None) c None ≡ None
nothing_at n c = by (cases_lt c n)
  where
    by : (c < n) ⊎ (n ≤ c) → get_or {A = Option ℕ} (replicate n None) c None ≡ None
    by (inl l) = get_or-replicate n c None None l
    by (inr l) = get_or_past (replicate n None) c None (let e = length-replicate {A = Option ℕ} n None in omega (arith, e, l))

pub none_earlier : (n : ℕ) → AreEarlier [] (replicate n None)
none_earlier n c = ap is_some (sym (nothing_at n c))

-- a column that is asked for has a place now
pub one_earlier : (earlier : List ℕ) (places : List (Option ℕ)) (c i : ℕ) → c < length places → AreEarlier earlier places → AreEarlier (c ∷ earlier) (set places c (Some i))
one_earlier earlier places c i l h d = by (nat_eq c d) refl
  where
    by : (b : Bool) → nat_eq c d ≡ b → (b || stands_in earlier d) ≡ is_some (get_or (set places c (Some i)) d None)
    by true e = let s : c ≡ d = grind arith in sym (ap is_some (get_or-set_same places c (Some i) None l)) ∙ ap (λ k. is_some (get_or (set places c (Some i)) k None)) s
    by false e = let s : d ≡ c → ⊥ = grind arith in h d ∙ ap is_some (sym (get_or-set_other places c d (Some i) None s))

-- what the next number comes to, where others stood before it
by_test : (n : ℕ) (earlier cs : List ℕ) (i : ℕ) → i < length cs → (b : Bool) → (nat_lt (get_or cs i 0) n && not (stands_in earlier (get_or cs i 0))) ≡ b
    → wrong_columns n earlier (drop i cs) ≡ (unless b (Projection (get_or cs i 0)) >>= λ _. wrong_columns n (get_or cs i 0 ∷ earlier) (drop (i + 1) cs))
by_test n earlier cs i within b e = ap (wrong_columns n earlier) (drop_more cs i 0 within) ∙ ap (λ b. unless b (Projection (get_or cs i 0)) >>= λ _. wrong_columns n (get_or cs i 0 ∷ earlier) (drop (i + 1) cs)) e

pub next_right : (n : ℕ) (earlier cs : List ℕ) (i : ℕ) → i < length cs → get_or cs i 0 < n → stands_in earlier (get_or cs i 0) ≡ false
    → wrong_columns n (get_or cs i 0 ∷ earlier) (drop (i + 1) cs) ≡ wrong_columns n earlier (drop i cs)
unfolding bind
next_right n earlier cs i l k h =
    let lower : nat_lt (get_or cs i 0) n ≡ true = grind arith in
    sym (by_test n earlier cs i l true (and_from _ _ lower (ap not h)))

pub next_wrong : (n : ℕ) (earlier cs : List ℕ) (i : ℕ) → i < length cs → (n ≤ get_or cs i 0) ⊎ (stands_in earlier (get_or cs i 0) ≡ true)
    → wrong_columns n earlier (drop i cs) ≡ Err (Projection (get_or cs i 0) ∷ [])
unfolding bind
next_wrong n earlier cs i l (inl k) =
    let high : nat_lt (get_or cs i 0) n ≡ false = grind arith in
    by_test n earlier cs i l false (ap (λ b. b && not (stands_in earlier (get_or cs i 0))) high)
next_wrong n earlier cs i l (inr h) = by_test n earlier cs i l false (ap (λ b. nat_lt (get_or cs i 0) n && not b) h ∙ never (nat_lt (get_or cs i 0) n))
  where
    never : (b : Bool) → (b && false) ≡ false
    never true = refl
    never false = refl

-- ── places ──

-- None alone is a clone of None
pub only_none : (is_clone : Option ℕ → Type 0) → ((x : ℕ) → is_clone (Some x) → ⊥) → (y : Option ℕ) → is_clone y → y ≡ None
only_none is_clone none None h = refl
only_none is_clone none (Some x) h = absurd (none x h)

pub not_some : (o : Option ℕ) → is_some o ≡ false → o ≡ None
not_some None h = refl
not_some (Some x) h = cc

pub none_placed : (asked : List ℕ) (n : ℕ) → ArePlacesOf asked 0 (replicate n None) n
none_placed asked n = record {
  width = length-replicate n None;
  placed = λ j c l. absurd (omega (arith, l));
  found = λ c j e. absurd (none-some j (sym (nothing_at n c) ∙ get_or_from_slice_get _ c (Some j) None e));
  count = let z = sum_by-replicate (λ (x : Option ℕ). cond {A = ℕ} (is_some x) 1 0) n None in omega (arith, z);
}

pub one_placed : (asked : List ℕ) (i : ℕ) (places : List (Option ℕ)) (n : ℕ) → ArePlacesOf asked i places n → (c : ℕ) → slice_get asked i ≡ Some c → c < n → get_or places c None ≡ None
    → ArePlacesOf asked (i + 1) (set places c (Some i)) n
one_placed asked i places n p c e l free = record {
  width = length-set places c (Some i) ∙ p.width;
  placed = λ j d m f. placed j d m f (cases_lt j i);
  found = λ d j f. found d j f (cases_eq d c);
  count =
      let z = sum_by-set (λ (x : Option ℕ). cond {A = ℕ} (is_some x) 1 0) places c (Some i) None inside in
      let w : ◌≡◌ {A = ℕ} (cond (is_some (get_or places c None)) 1 0) 0 = ap (λ (x : Option ℕ). cond {A = ℕ} (is_some x) 1 0) free in
      omega (arith, z, w, p.count);
}
  where
    inside : c < length places
    inside = let w : length places ≡ n = p.width in omega arith

    free_of : (j : ℕ) → slice_get places c ≡ Some (Some j) → ⊥
    free_of j f = none-some j (sym free ∙ get_or_from_slice_get places c (Some j) None f)

    placed : (j d : ℕ) → j < i + 1 → slice_get asked j ≡ Some d → (j < i) ⊎ (i ≤ j) → slice_get (set places c (Some i)) d ≡ Some (Some j)
    placed j d m f (inl k) =
        let was : slice_get places d ≡ Some (Some j) = p.placed j d k f in
        get_others places c (Some i) d (λ s. free_of j (ap (slice_get places) (sym s) ∙ was)) ∙ was
    placed j d m f (inr k) =
        let last : j ≡ i = omega (arith, m, k) in
        let s : d ≡ c = same_Some _ _ (sym f ∙ ap (slice_get asked) last ∙ e) in
        ap (slice_get (set places c (Some i))) s ∙ get_set places c (Some i) inside ∙ ap (λ k. Some (Some k)) (sym last)

    found : (d j : ℕ) → slice_get (set places c (Some i)) d ≡ Some (Some j) → (d ≡ c) ⊎ (d ≡ c → ⊥) → (j < i + 1) × (slice_get asked j ≡ Some d)
    found d j f (inl s) =
        let same : i ≡ j = same_Some _ _ (same_Some _ _ (sym (get_set places c (Some i) inside) ∙ ap (slice_get (set places c (Some i))) (sym s) ∙ f)) in
        (omega (arith, same), ap (slice_get asked) (sym same) ∙ e ∙ ap Some (sym s))
    found d j f (inr away) =
        let was = p.found d j (sym (get_others places c (Some i) d away) ∙ f) in
        let k : j < i = was.0 in
        (omega arith, was.1)
