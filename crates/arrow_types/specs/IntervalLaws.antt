-- What is written as an interval's bytes reads back, and the interval at a place is that of the bytes there.
use Rattle.std.proofs.Common.{◌≡◌, ℕ, ◌+◌, ◌≤◌, List, [], ◌∷◌, length, take, drop, Some, ℤ, refl, sym, ◌∙◌, ap, arith}
use Rattle.std.specs.Int.{w32, w64}
use Rattle.std.specs.Int.RustNames.{FitsSigned}
use Rattle.std.proofs.lemmas.List.{drop-take, drop-drop}
use Rattle.arrow_spec.specs.Flat.{Order, little, big}
use Rattle.arrow_types.specs.Numbers.{signed_to_bytes, signed_from_bytes, signed_num, days_ms_to_bytes, days_ms_from_bytes, days_ms_of, days_ms_num, months_days_ns_to_bytes, months_days_ns_from_bytes, months_days_ns_of, months_days_ns_num}
use Rattle.arrow_types.specs.NumberLaws.{signed_back, signed_agrees}
use Rattle.arrow_types.specs.declared.numbers.interval.days_ms.{days_ms}
use Rattle.arrow_types.specs.declared.numbers.interval.months_days_ns.{months_days_ns}

abbrev days_and : ℤ → ℤ → days_ms
days_and d m = record { days = d; milliseconds = m }

abbrev months_and : ℤ → ℤ → ℤ → months_days_ns
months_and m d n = record { months = m; days = d; ns = n }

pub days_ms_back : (order : Order) (x : days_ms) → FitsSigned w32 x.days × FitsSigned w32 x.milliseconds
    → days_ms_from_bytes order (days_ms_to_bytes order x) ≡ x
days_ms_back little x h = ap (λ d. days_and d (signed_from_bytes w32 little (signed_to_bytes w32 little x.milliseconds))) (signed_back w32 little x.days h.0)
    ∙ ap (days_and x.days) (signed_back w32 little x.milliseconds h.1)
days_ms_back big x h = ap (λ d. days_and d (signed_from_bytes w32 big (signed_to_bytes w32 big x.milliseconds))) (signed_back w32 big x.days h.0)
    ∙ ap (days_and x.days) (signed_back w32 big x.milliseconds h.1)

pub days_ms_width : (order : Order) (x : days_ms) → length (days_ms_to_bytes order x) ≡ 8
days_ms_width little x = refl
days_ms_width big x = refl

first_4_of_8 : (xs : List ℕ) → take 4 (take 8 xs) ≡ take 4 xs
first_4_of_8 [] = refl
first_4_of_8 (a ∷ []) = refl
first_4_of_8 (a ∷ b ∷ []) = refl
first_4_of_8 (a ∷ b ∷ c ∷ []) = refl
first_4_of_8 (a ∷ b ∷ c ∷ d ∷ xs) = refl

first_4_of_12 : (xs : List ℕ) → take 4 (take 12 xs) ≡ take 4 xs
first_4_of_12 [] = refl
first_4_of_12 (a ∷ []) = refl
first_4_of_12 (a ∷ b ∷ []) = refl
first_4_of_12 (a ∷ b ∷ c ∷ []) = refl
first_4_of_12 (a ∷ b ∷ c ∷ d ∷ xs) = refl

first_4_of_16 : (xs : List ℕ) → take 4 (take 16 xs) ≡ take 4 xs
first_4_of_16 [] = refl
first_4_of_16 (a ∷ []) = refl
first_4_of_16 (a ∷ b ∷ []) = refl
first_4_of_16 (a ∷ b ∷ c ∷ []) = refl
first_4_of_16 (a ∷ b ∷ c ∷ d ∷ xs) = refl

pub days_ms_agrees : (bytes : List ℕ) (at : ℕ) (order : Order) → at + 8 ≤ length bytes
    → days_ms_num bytes at order ≡ Some (days_ms_from_bytes order (take 8 (drop at bytes)))
days_ms_agrees bytes at order h =
    let here = drop at bytes in
    let first = signed_agrees w32 bytes at order (omega arith) in
    let second = signed_agrees w32 bytes (at + 4) order (omega arith) in
    let a : take 4 here ≡ take 4 (take 8 here) = sym (first_4_of_8 here) in
    let b : take 4 (drop (at + 4) bytes) ≡ drop 4 (take 8 here) = ap (take 4) (sym (drop-drop 4 at bytes)) ∙ sym (drop-take 4 4 here) in
    ap (λ x. days_ms_of x (signed_num w32 bytes (at + 4) order)) first
    ∙ ap (days_ms_of (Some (signed_from_bytes w32 order (take 4 here)))) second
    ∙ ap (λ s. Some (days_and (signed_from_bytes w32 order s) (signed_from_bytes w32 order (take 4 (drop (at + 4) bytes))))) a
    ∙ ap (λ s. Some (days_and (signed_from_bytes w32 order (take 4 (take 8 here))) (signed_from_bytes w32 order s))) b

pub months_days_ns_back : (order : Order) (x : months_days_ns) → FitsSigned w32 x.months × FitsSigned w32 x.days × FitsSigned w64 x.ns
    → months_days_ns_from_bytes order (months_days_ns_to_bytes order x) ≡ x
months_days_ns_back little x h = ap (λ m. months_and m (signed_from_bytes w32 little (signed_to_bytes w32 little x.days))
    (signed_from_bytes w64 little (signed_to_bytes w64 little x.ns))) (signed_back w32 little x.months h.0)
    ∙ ap (λ d. months_and x.months d (signed_from_bytes w64 little (signed_to_bytes w64 little x.ns))) (signed_back w32 little x.days h.1)
    ∙ ap (months_and x.months x.days) (signed_back w64 little x.ns h.2)
months_days_ns_back big x h = ap (λ m. months_and m (signed_from_bytes w32 big (signed_to_bytes w32 big x.days))
    (signed_from_bytes w64 big (signed_to_bytes w64 big x.ns))) (signed_back w32 big x.months h.0)
    ∙ ap (λ d. months_and x.months d (signed_from_bytes w64 big (signed_to_bytes w64 big x.ns))) (signed_back w32 big x.days h.1)
    ∙ ap (months_and x.months x.days) (signed_back w64 big x.ns h.2)

pub months_days_ns_width : (order : Order) (x : months_days_ns) → length (months_days_ns_to_bytes order x) ≡ 16
months_days_ns_width little x = refl
months_days_ns_width big x = refl

pub months_days_ns_agrees : (bytes : List ℕ) (at : ℕ) (order : Order) → at + 16 ≤ length bytes
    → months_days_ns_num bytes at order ≡ Some (months_days_ns_from_bytes order (take 16 (drop at bytes)))
months_days_ns_agrees bytes at order h =
    let here = drop at bytes in
    let first = signed_agrees w32 bytes at order (omega arith) in
    let second = signed_agrees w32 bytes (at + 4) order (omega arith) in
    let third = signed_agrees w64 bytes (at + 8) order (omega arith) in
    let a : take 4 here ≡ take 4 (take 16 here) = sym (first_4_of_16 here) in
    let b : take 4 (drop (at + 4) bytes) ≡ take 4 (drop 4 (take 16 here)) =
    ap (take 4) (sym (drop-drop 4 at bytes)) ∙ sym (first_4_of_12 (drop 4 here)) ∙ ap (take 4) (sym (drop-take 4 12 here)) in
    let c : take 8 (drop (at + 8) bytes) ≡ drop 8 (take 16 here) = ap (take 8) (sym (drop-drop 8 at bytes)) ∙ sym (drop-take 8 8 here) in
    ap (λ x. months_days_ns_of x (signed_num w32 bytes (at + 4) order) (signed_num w64 bytes (at + 8) order)) first
    ∙ ap (λ x. months_days_ns_of (Some (signed_from_bytes w32 order (take 4 here))) x (signed_num w64 bytes (at + 8) order)) second
    ∙ ap (months_days_ns_of (Some (signed_from_bytes w32 order (take 4 here))) (Some (signed_from_bytes w32 order (take 4 (drop (at + 4) bytes))))) third
    ∙ ap (λ s. Some (months_and (signed_from_bytes w32 order s) (signed_from_bytes w32 order (take 4 (drop (at + 4) bytes)))
    (signed_from_bytes w64 order (take 8 (drop (at + 8) bytes))))) a
    ∙ ap (λ s. Some (months_and (signed_from_bytes w32 order (take 4 (take 16 here))) (signed_from_bytes w32 order s)
    (signed_from_bytes w64 order (take 8 (drop (at + 8) bytes))))) b
    ∙ ap (λ s. Some (months_and (signed_from_bytes w32 order (take 4 (take 16 here))) (signed_from_bytes w32 order (take 4 (drop 4 (take 16 here))))
    (signed_from_bytes w64 order s))) c
