-- Digits that are read one by one.
use Rattle.std.proofs.Common.{◌≡◌, ◌∙◌, ◌<◌, ◌≤◌, ◌+◌, ◌-◌, ◌*◌, ◌&&◌, ℕ, Bool, true, false, cond, List, [], ◌∷◌, length, drop, get_or, Option, Some, None, ap, refl, arith, add-one, drop-cons, drop_of_length-le, nat_le, nat_eq}
use Rattle.std.proofs.lemmas.Bool.{le-leb, leb-false, lt-leb}
use Rattle.ipc_words.specs.Numbers.{at_most, decimal_on, digits_of}

digit : (n c : ℕ) (rest : List ℕ) → 48 ≤ c → c ≤ 57 → decimal_on n (c ∷ rest) ≡ decimal_on (10 * n + (c - 48)) rest
digit n c rest low high = rw (le-leb 48 c low, le-leb c 57 high) refl

digits_there : (text : List ℕ) → nat_eq (length text) 0 ≡ false → digits_of text ≡ decimal_on 0 text
digits_there [] e = cc
digits_there (c ∷ cs) e = refl

none_either_way : (b : Bool) (o : Option ℕ) → at_most 340282366920938463463374607431768211455 o ≡ None → at_most 340282366920938463463374607431768211455 (cond b o None) ≡ None
none_either_way true o h = h
none_either_way false o h = refl

-- a number that is too great stays so
too_great : (n : ℕ) (cs : List ℕ) → 340282366920938463463374607431768211456 ≤ n → at_most 340282366920938463463374607431768211455 (decimal_on n cs) ≡ None
too_great n [] h = let above : nat_le n 340282366920938463463374607431768211455 ≡ false = lt-leb n 340282366920938463463374607431768211455 (omega arith) in rw above refl
too_great n (c ∷ cs) h = none_either_way (nat_le 48 c && nat_le c 57) (decimal_on (10 * n + (c - 48)) cs) (too_great (10 * n + (c - 48)) cs (omega arith))

-- the digit at i makes the number too great
pub past : (text : List ℕ) (i n : ℕ) → nat_eq (length text) 0 ≡ false → i < length text → 48 ≤ get_or text i 0 → get_or text i 0 ≤ 57 → decimal_on 0 text ≡ decimal_on n (drop i text)
    → 340282366920938463463374607431768211456 ≤ 10 * n + (get_or text i 0 - 48) → at_most 340282366920938463463374607431768211455 (digits_of text) ≡ None
past text i n there less low high so_far big =
    let step : drop i text ≡ get_or text i 0 ∷ drop (i + 1) text = rw add-one (drop-cons text i 0 less) in
    ap (at_most 340282366920938463463374607431768211455) (digits_there text there ∙ so_far ∙ ap (decimal_on n) step ∙ digit n (get_or text i 0) (drop (i + 1) text) low high) ∙ too_great (10 * n + (get_or text i 0 - 48)) (drop (i + 1) text) big

-- all digits were read
pub at_end : (text : List ℕ) (i n : ℕ) → nat_eq (length text) 0 ≡ false → length text ≤ i → decimal_on 0 text ≡ decimal_on n (drop i text) → n < 340282366920938463463374607431768211456 → at_most 340282366920938463463374607431768211455 (digits_of text) ≡ Some n
at_end text i n there past so_far small =
    let fits : nat_le n 340282366920938463463374607431768211455 ≡ true = le-leb n 340282366920938463463374607431768211455 (omega arith) in
    let whole : digits_of text ≡ Some n = digits_there text there ∙ so_far ∙ ap (decimal_on n) (drop_of_length-le text past) in
    ap (at_most 340282366920938463463374607431768211455) whole ∙ rw fits refl

-- a number that was read is the number, below another bound too
pub at_most_some : (most n : ℕ) (o : Option ℕ) → at_most most o ≡ Some n → o ≡ Some n
at_most_some most n None h = cc
at_most_some most n (Some m) h = go (nat_le m most) h
  where
    go : (b : Bool) → cond b (Some m) None ≡ Some n → Some m ≡ Some n
    go true e = e
    go false e = cc

pub at_most_none : (less most : ℕ) (o : Option ℕ) → less ≤ most → at_most most o ≡ None → at_most less o ≡ None
at_most_none less most None low h = refl
at_most_none less most (Some m) low h = go (nat_le m most) refl h
  where
    go : (b : Bool) → nat_le m most ≡ b → cond b (Some m) None ≡ None → at_most less (Some m) ≡ None
    go true e k = cc
    go false e k =
        let above : nat_le m less ≡ false = lt-leb m less (omega (arith, leb-false m most e)) in
        rw above refl

pub at_most_fits : (most n : ℕ) → n ≤ most → at_most most (Some n) ≡ Some n
at_most_fits most n h = rw (le-leb n most h) refl

pub at_most_above : (most n : ℕ) → most < n → at_most most (Some n) ≡ None
at_most_above most n h = rw (lt-leb n most h) refl
