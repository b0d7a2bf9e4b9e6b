-- Lists that stand one after another, and whether a list begins another.
use Rattle.std.proofs.Common.{◌≡◌, ℕ, ◌+◌, ◌-◌, ◌≤◌, ◌<◌, ◌++◌, List, [], length, take, drop, refl, sym, ap, ◌∙◌, arith, append-nil, append_assoc, length-append, length-drop}
use Rattle.std.proofs.lemmas.List.{length-take, length-take-le, take-append-drop, take-take, take_at, take-append-le, drop-drop, drop_at, drop-append-le, drop-take}

-- a front of a list and what stands behind it there
pub take_apart : {A : Type 0} (n m : ℕ) (xs : List A) → take (n + m) xs ≡ take n xs ++ take m (drop n xs)
take_apart n m xs =
    let front : take n (take (n + m) xs) ≡ take n xs = take-take n (n + m) xs (omega arith) in
    sym (take-append-drop n (take (n + m) xs)) ∙ ap (λ ys. ys ++ drop n (take (n + m) xs)) front ∙ ap (λ ys. take n xs ++ ys) (drop-take n m xs)

-- so many from a place on, of the first of two lists
pub run_first : {A : Type 0} (r n : ℕ) (xs ys : List A) → r + n ≤ length xs → drop r (xs ++ ys) ≡ take n (drop r xs) ++ drop (r + n) (xs ++ ys)
run_first r n xs ys h =
    let zs = xs ++ ys in
    let d : drop r zs ≡ drop r xs ++ ys = drop-append-le r xs ys (omega arith) in
    let t : take n (drop r xs ++ ys) ≡ take n (drop r xs) = take-append-le n (drop r xs) ys (omega (arith, length-drop r xs)) in
    sym (take-append-drop n (drop r zs)) ∙ ap (λ us. us ++ drop n (drop r zs)) (ap (take n) d ∙ t) ∙ ap (λ us. take n (drop r xs) ++ us) (drop-drop n r zs)

-- a list goes on with a run where another does
pub goes_on : {A : Type 0} (xs us vs rest whole : List A) (r n : ℕ) → whole ≡ take r xs ++ us → us ≡ vs ++ rest → take n (drop r xs) ≡ vs → whole ≡ take (r + n) xs ++ rest
goes_on xs us vs rest whole r n e f g =
    e ∙ ap (λ ys. take r xs ++ ys) (f ∙ ap (λ ys. ys ++ rest) (sym g)) ∙ sym (append_assoc (take r xs) (take n (drop r xs)) rest)
    ∙ ap (λ ys. ys ++ rest) (sym (take_apart r n xs))

-- what begins a list has the run that stands there
pub begun_run : {A : Type 0} (xs vs rest whole : List A) (r n : ℕ) → r + n ≤ length xs → length vs ≡ n → whole ≡ take r xs ++ (vs ++ rest) → take (length xs) whole ≡ xs → take n (drop r xs) ≡ vs
begun_run xs vs rest whole r n h l e b =
    let m : ℕ = length xs - r in
    let s : length xs ≡ r + m = omega arith in
    let front : drop r whole ≡ vs ++ rest = ap (drop r) e ∙ drop_at (take r xs) (vs ++ rest) r (length-take-le r xs (omega arith)) in
    let there : drop r xs ≡ take m (drop r whole) = ap (drop r) (sym b) ∙ ap (λ k. drop r (take k whole)) s ∙ drop-take r m whole in
    ap (take n) there ∙ take-take n m (drop r whole) (omega arith) ∙ ap (take n) front ∙ take_at vs rest n l

-- a shorter list is not begun by a longer one
pub too_short : {A : Type 0} (xs us whole : List A) (r : ℕ) → r < length xs → us ≡ [] → whole ≡ take r xs ++ us → take (length xs) whole ≡ xs → ⊥
too_short xs us whole r h n e b =
    let w : whole ≡ take r xs = e ∙ ap (λ ys. take r xs ++ ys) n ∙ append-nil (take r xs) in
    let l : length whole ≡ r = ap length w ∙ length-take-le r xs (omega arith) in
    absurd (omega (arith, ap length b, length-take (length xs) whole))

-- of a list in three parts that begins another, the second begins what stands behind the first
pub begun_behind : {A : Type 0} (xs us vs more whole rest : List A) → xs ≡ us ++ (vs ++ more) → whole ≡ us ++ rest → take (length xs) whole ≡ xs → take (length vs) rest ≡ vs
begun_behind xs us vs more whole rest e f b =
    let m : ℕ = length (vs ++ more) in
    let l : length xs ≡ length us + m = ap length e ∙ length-append us (vs ++ more) in
    let front : drop (length us) whole ≡ rest = ap (drop (length us)) f ∙ drop_at us rest (length us) refl in
    let there : take m rest ≡ vs ++ more =
    ap (take m) (sym front) ∙ sym (drop-take (length us) m whole) ∙ ap (λ k. drop (length us) (take k whole)) (sym l) ∙ ap (drop (length us)) (b ∙ e)
    ∙ drop_at us (vs ++ more) (length us) refl in
    sym (take-take (length vs) m rest (omega (arith, length-append vs more))) ∙ ap (take (length vs)) there ∙ take_at vs more (length vs) refl

-- a list begins itself and what stands behind it
pub begins : {A : Type 0} (xs rest whole : List A) → whole ≡ xs ++ rest → take (length xs) whole ≡ xs
begins xs rest whole e = ap (take (length xs)) e ∙ take_at xs rest (length xs) refl
