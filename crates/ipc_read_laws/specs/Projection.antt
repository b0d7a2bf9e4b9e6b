-- Columns that are asked for by their numbers, which rise.
use Rattle.std.specs.Prelude.{ℕ, suc, List, [], ◌∷◌, Bool, true, false, Option, None, Some, nat_le, nat_lt, ◌&&◌}
use Rattle.std.proofs.Common.{Bor}
use Rattle.arrow_spec.specs.Columns.{is_chosen}

-- the numbers that are lent
abbrev pub columns_of : Option (Bor (List ℕ)) → Option (List ℕ)
columns_of None = None
columns_of (Some cs) = Some cs.now

-- the numbers rise from this one on
abbrev pub do_rise : ℕ → List ℕ → Bool
do_rise low [] = true
do_rise low (c ∷ cs) = nat_le low c && do_rise (suc c) cs

-- the numbers are below n
abbrev pub are_below : ℕ → List ℕ → Bool
are_below n [] = true
are_below n (c ∷ cs) = nat_lt c n && are_below n cs

-- the numbers that are asked for rise
abbrev pub are_rising : Option (List ℕ) → Bool
are_rising None = true
are_rising (Some cs) = do_rise 0 cs

-- and are of columns, of which there are n
abbrev pub are_columns : Option (List ℕ) → ℕ → Bool
are_columns None n = true
are_columns (Some cs) n = are_below n cs

-- an item before others, where it is kept
abbrev pub kept : {A : Type 0} → Bool → A → List A → List A
kept true x xs = x ∷ xs
kept false x xs = xs

-- the items that are asked for, of which the first has number c
abbrev pub chosen : {A : Type 0} → Option (List ℕ) → ℕ → List A → List A
chosen asked c [] = []
chosen asked c (x ∷ xs) = kept (is_chosen asked c) x (chosen asked (suc c) xs)
