-- The ids of unions, one after another.
use Rattle.std.proofs.Common.{◌≡◌, ℕ, suc, ◌+◌, ◌-◌, ◌<◌, List, [], ◌∷◌, ◌++◌, drop, ℤ, pos, refl, sym, ◌∙◌, ap, append_assoc, append-nil, add-one, arith}
use Rattle.std.specs.Fmt.{signed_decimal}
use Rattle.arrow_spec.specs.Schema.{counted_ids}
use Rattle.arrow_spec.specs.SchemaText.{ids_text}
use Rattle.ipc_text.specs.Ids.{comma, ids_from}

ids_behind : (i : ℕ) (x : ℤ) (xs : List ℤ) → ids_from (suc i) (x ∷ xs) ≡ comma (suc i) ++ ids_text (x ∷ xs)
ids_behind i x [] = ap (λ s. comma (suc i) ++ s) (append-nil (signed_decimal x))
ids_behind i x (y ∷ ys) = ap (λ s. comma (suc i) ++ (signed_decimal x ++ s)) (ids_behind (suc i) y ys) ∙ ap (λ s. comma (suc i) ++ s) (sym (append_assoc (signed_decimal x) (comma (suc i)) (ids_text (y ∷ ys))))

pub ids_all : (xs : List ℤ) → ids_from 0 xs ≡ ids_text xs
ids_all [] = refl
ids_all (x ∷ []) = append-nil (signed_decimal x)
ids_all (x ∷ y ∷ ys) = ap (λ s. signed_decimal x ++ s) (ids_behind 0 y ys) ∙ sym (append_assoc (signed_decimal x) (comma 1) (ids_text (y ∷ ys)))

-- one more id behind its comma
id_more : (i : ℕ) (x : ℤ) (xs : List ℤ) (old mid new whole : List ℕ) → mid ≡ old ++ comma i → new ≡ mid ++ signed_decimal x → old ++ ids_from i (x ∷ xs) ≡ whole → new ++ ids_from (suc i) xs ≡ whole
id_more i x xs old mid new whole h g w =
    let s = signed_decimal x in
    let rest = ids_from (suc i) xs in
    ap (λ z. z ++ rest) (g ∙ ap (λ z. z ++ s) h) ∙ append_assoc (old ++ comma i) s rest ∙ append_assoc old (comma i) (s ++ rest) ∙ ap (λ z. old ++ z) (sym (append_assoc (comma i) s rest)) ∙ w

pub stated_more : (xs : List ℤ) (i : ℕ) (x : ℤ) (old mid new whole : List ℕ) → drop i xs ≡ x ∷ drop (suc i) xs → mid ≡ old ++ comma i → new ≡ mid ++ signed_decimal x → old ++ ids_from i (drop i xs) ≡ whole → new ++ ids_from (i + 1) (drop (i + 1) xs) ≡ whole
stated_more xs i x old mid new whole e h g w = ap (λ n. new ++ ids_from n (drop n xs)) (add-one i) ∙ id_more i x (drop (suc i) xs) old mid new whole h g (ap (λ ys. old ++ ids_from i ys) (sym e) ∙ w)

pub counted_more : (count i : ℕ) (old mid new whole : List ℕ) → i < count → mid ≡ old ++ comma i → new ≡ mid ++ signed_decimal (pos i) → old ++ ids_from i (counted_ids i (count - i)) ≡ whole → new ++ ids_from (i + 1) (counted_ids (i + 1) (count - (i + 1))) ≡ whole
counted_more count i old mid new whole less h g w =
    let left : count - i ≡ suc (count - suc i) = omega arith in
    ap (λ n. new ++ ids_from n (counted_ids n (count - n))) (add-one i) ∙ id_more i (pos i) (counted_ids (suc i) (count - suc i)) old mid new whole h g (ap (λ n. old ++ ids_from i (counted_ids i n)) (sym left) ∙ w)
