-- The word of a filter: a column, a sign of comparison and a number.
use Rattle.std.specs.Prelude.{◌^◌, ◌-◌, ◌==◌, ℕ, ℤ, pos, neg_ℤ, List, [], ◌∷◌, ◌++◌, Option, Some, None, ◌&&◌, drop, slice_index, if◌then◌else◌, nat_le, option_map, option_and_then}
use Rattle.filter_types.specs.declared.filter.Filter.{Filter}
use Rattle.filter_types.specs.declared.filter.FilterOp.{FilterOp}
use Rattle.filter_types.specs.declared.filter.FilterOp.TheVariants.{Equal, NotEqual, Less, LessOrEqual, Greater, GreaterOrEqual}
use Rattle.ipc_words.specs.Numbers.{at_most, decimal_of, digits_of}

-- digits, with a hyphen (45) before those of a number below 0; a number of 128 bits with a sign
abbrev pub negative_of : Option ℕ → Option ℤ
negative_of n = option_map (λ m. neg_ℤ (pos m)) (at_most (2 ^ 127) n)

abbrev pub signed_of : List ℕ → Option ℤ
signed_of text =
    if slice_index text 0 == 45 then negative_of (digits_of (drop 1 text))
    else option_map (λ m. pos m) (at_most (2 ^ 127 - 1) (digits_of text))

-- the sign that two characters begin with, and its length: = is 61, ! is 33, < is 60, > is 62
abbrev pub sign_of : ℕ → ℕ → Option (FilterOp × ℕ)
sign_of a b =
    if a == 61 then Some (Equal, 1)
    else if a == 33 && b == 61 then Some (NotEqual, 2)
    else if a == 60 && b == 61 then Some (LessOrEqual, 2)
    else if a == 60 then Some (Less, 1)
    else if a == 62 && b == 61 then Some (GreaterOrEqual, 2)
    else if a == 62 then Some (Greater, 1)
    else None

-- a sign and a number
abbrev pub comparison_of : List ℕ → Option (FilterOp × ℤ)
comparison_of text = option_and_then (λ p. option_map (λ n. (p.0, n)) (signed_of (drop p.1 text))) (sign_of (slice_index text 0) (slice_index text 1))

-- the column's digits, and what follows them
abbrev pub filter_with : List ℕ → List ℕ → Option Filter
filter_with front rest = option_and_then (λ column. option_map (λ p. record { column = column; op = p.0; number = p.1 }) (comparison_of rest)) (decimal_of front)

-- the same, from a column on whose first digits were read
abbrev pub filter_on : List ℕ → List ℕ → Option Filter
filter_on front [] = None
filter_on front (c ∷ cs) = if nat_le 48 c && nat_le c 57 then filter_on (front ++ c ∷ []) cs else filter_with front (c ∷ cs)

-- a decimal column, a sign and a number, as 0<-5
abbrev pub filter_of : List ℕ → Option Filter
filter_of text = filter_on [] text
