-- Numbers that are read one by one.
use Rattle.std.proofs.Common.{◌≡◌, ◌∙◌, ◌<◌, ◌≤◌, ◌+◌, ◌-◌, ℕ, false, List, [], ◌∷◌, ◌++◌, length, take, drop, get_or, Option, Some, None, option_map, ap, sym, refl, arith, add-one, drop-cons, append_assoc, drop_of_length-le, length-drop, nat_eq, ap₂, subst}
use Rattle.std.proofs.lemmas.List.{get_or-drop, take_more}
use Rattle.ipc_words.specs.Numbers.{and_then, decimal_of, numbers_of, numbers_on}

-- numbers before others
abbrev pub before : List ℕ → Option (List ℕ) → Option (List ℕ)
before xs o = option_map (λ ns. xs ++ ns) o

pub before_none : (o : Option (List ℕ)) → before [] o ≡ o
before_none None = refl
before_none (Some ns) = refl

pub before_one : (xs : List ℕ) (n : ℕ) (o : Option (List ℕ)) → before xs (and_then (Some n) o) ≡ before (xs ++ n ∷ []) o
before_one xs n None = refl
before_one xs n (Some ns) = ap Some (sym (append_assoc xs (n ∷ []) ns))

pub numbers_there : (text : List ℕ) → nat_eq (length text) 0 ≡ false → numbers_of text ≡ numbers_on [] text
numbers_there [] e = cc
numbers_there (c ∷ cs) e = refl

-- a comma ends a number
pub at_comma : (text xs front : List ℕ) (i n : ℕ) → i < length text → get_or text i 0 ≡ 44 → decimal_of front ≡ Some n
    → before xs (numbers_on front (drop i text)) ≡ before (xs ++ n ∷ []) (numbers_on [] (drop (i + 1) text))
at_comma text xs front i n less comma is =
    let step : drop i text ≡ 44 ∷ drop (i + 1) text = rw (add-one, ← comma) (drop-cons text i 0 less) in
    ap (λ rest. before xs (numbers_on front rest)) step ∙ ap (λ o. before xs (and_then o (numbers_on [] (drop (i + 1) text)))) is ∙ before_one xs n (numbers_on [] (drop (i + 1) text))

-- what stands before a comma is no number
pub no_number_at_comma : (text xs front : List ℕ) (i : ℕ) → i < length text → get_or text i 0 ≡ 44 → decimal_of front ≡ None
    → before xs (numbers_on front (drop i text)) ≡ None
no_number_at_comma text xs front i less comma is =
    let step : drop i text ≡ 44 ∷ drop (i + 1) text = rw (add-one, ← comma) (drop-cons text i 0 less) in
    ap (λ rest. before xs (numbers_on front rest)) step ∙ ap (λ o. before xs (and_then o (numbers_on [] (drop (i + 1) text)))) is

-- a byte more of a number
pub at_other : (text xs front : List ℕ) (i : ℕ) → i < length text → nat_eq (get_or text i 0) 44 ≡ false
    → before xs (numbers_on front (drop i text)) ≡ before xs (numbers_on (front ++ get_or text i 0 ∷ []) (drop (i + 1) text))
at_other text xs front i less other =
    let step : drop i text ≡ get_or text i 0 ∷ drop (i + 1) text = rw add-one (drop-cons text i 0 less) in
    ap (λ rest. before xs (numbers_on front rest)) step ∙ rw other refl

-- the last number
pub at_last : (xs front : List ℕ) (n : ℕ) → decimal_of front ≡ Some n → before xs (numbers_on front []) ≡ Some (xs ++ n ∷ [])
at_last xs front n is = ap (λ o. before xs (and_then o (Some []))) is

pub no_last : (xs front : List ℕ) → decimal_of front ≡ None → before xs (numbers_on front []) ≡ None
no_last xs front is = ap (λ o. before xs (and_then o (Some []))) is

-- where a reading stands: numbers before, and from start to i the digits of the next one
abbrev pub Stands : List ℕ → List ℕ → ℕ → ℕ → Type 0
Stands text xs start i = (start ≤ i) × (numbers_on [] text ≡ before xs (numbers_on (take (i - start) (drop start text)) (drop i text)))

none_taken : (n : ℕ) (xs : List ℕ) → n ≡ 0 → take n xs ≡ []
none_taken n xs e = ap (λ k. take k xs) e

pub comma_next : (text xs ys : List ℕ) (start next i n : ℕ) → Stands text xs start i → i < length text → get_or text i 0 ≡ 44 → decimal_of (take (i - start) (drop start text)) ≡ Some n
    → ys ≡ xs ++ n ∷ [] → next ≡ i + 1 → Stands text ys next (i + 1)
comma_next text xs ys start next i n s less comma is more at =
    let none : take (i + 1 - next) (drop next text) ≡ [] = none_taken (i + 1 - next) (drop next text) (omega arith) in
    (omega arith, s.1 ∙ at_comma text xs (take (i - start) (drop start text)) i n less comma is ∙ ap₂ (λ zs front. before zs (numbers_on front (drop (i + 1) text))) (sym more) (sym none))

pub other_next : (text xs ys : List ℕ) (start next i : ℕ) → Stands text xs start i → i < length text → nat_eq (get_or text i 0) 44 ≡ false → ys ≡ xs → next ≡ start → Stands text ys next (i + 1)
other_next text xs ys start next i s less other same at =
    let here : start ≤ i = s.0 in
    let place : start + (i - start) ≡ i = omega arith in
    let count : (i - start) + 1 ≡ i + 1 - start = omega arith in
    let fits : i - start < length (drop start text) = simp length-drop (omega arith) in
    let byte : get_or (drop start text) (i - start) 0 ≡ get_or text i 0 = get_or-drop start text (i - start) 0 ∙ ap (λ k. get_or text k 0) place in
    let front : take (i + 1 - start) (drop start text) ≡ take (i - start) (drop start text) ++ get_or text i 0 ∷ [] =
    ap (λ k. take k (drop start text)) (sym count) ∙ take_more (drop start text) (i - start) 0 fits ∙ ap (λ x. take (i - start) (drop start text) ++ x ∷ []) byte in
    let there : Stands text xs start (i + 1) = (omega arith, s.1 ∙ at_other text xs (take (i - start) (drop start text)) i less other ∙ ap (λ f. before xs (numbers_on f (drop (i + 1) text))) (sym front)) in
    subst (λ k. Stands text ys k (i + 1)) (sym at) (subst (λ zs. Stands text zs start (i + 1)) (sym same) there)

at_length : (text xs : List ℕ) (start i : ℕ) → nat_eq (length text) 0 ≡ false → i ≤ length text → length text ≤ i → Stands text xs start i
    → numbers_of text ≡ before xs (numbers_on (take (length text - start) (drop start text)) [])
at_length text xs start i filled low high s =
    let end : i ≡ length text = omega arith in
    numbers_there text filled ∙ s.1 ∙ ap₂ (λ k rest. before xs (numbers_on (take (k - start) (drop start text)) rest)) end (drop_of_length-le text high)

pub all_read : (text xs all : List ℕ) (start i n : ℕ) → nat_eq (length text) 0 ≡ false → i ≤ length text → length text ≤ i → Stands text xs start i
    → decimal_of (take (length text - start) (drop start text)) ≡ Some n → all ≡ xs ++ n ∷ [] → numbers_of text ≡ Some all
all_read text xs all start i n filled low high s is more =
    at_length text xs start i filled low high s ∙ at_last xs (take (length text - start) (drop start text)) n is ∙ ap (λ zs. Some zs) (sym more)

pub last_refused : (text xs : List ℕ) (start i : ℕ) → nat_eq (length text) 0 ≡ false → i ≤ length text → length text ≤ i → Stands text xs start i
    → decimal_of (take (length text - start) (drop start text)) ≡ None → numbers_of text ≡ None
last_refused text xs start i filled low high s is =
    at_length text xs start i filled low high s ∙ no_last xs (take (length text - start) (drop start text)) is

pub refused_at_comma : (text xs : List ℕ) (start i : ℕ) → nat_eq (length text) 0 ≡ false → i < length text → get_or text i 0 ≡ 44 → Stands text xs start i
    → decimal_of (take (i - start) (drop start text)) ≡ None → numbers_of text ≡ None
refused_at_comma text xs start i filled less comma s is =
    numbers_there text filled ∙ s.1 ∙ no_number_at_comma text xs (take (i - start) (drop start text)) i less comma is
