-- The filter's column is of numbers: no float is in it, whatever ids its fields have.
use Rattle.std.proofs.Common.{◌≡◌, refl, ap, arith, ℕ, zero, suc, ◌+◌, ◌<◌, List, [], ◌∷◌, length, slice_get, true, false, ◌||◌, nat_eq, nat_le, nat_lt, Option, Some, None, ℤ}
use Rattle.std.proofs.lemmas.Bool.{and_from, le-leb, lt-ltb}
use Rattle.std.proofs.lemmas.List.{length-map}
use Rattle.arrow_spec.specs.Features.{chosen_floats, float_faults}
use Rattle.arrow_spec.specs.Kinds.{Fields, Kind, none, field, integer, date32, date64, time32, time64, timestamp, duration, interval, decimal, dictionary, extension}
use Rattle.arrow_types.specs.Schemas.{Keyed, fields_in}
use Rattle.ipc_fields.specs.IpcFields.{Ids, fields_with, ids, kind_with, no_fields}
use Rattle.ipc_projection.specs.Below.{are_columns, are_rising, chosen}
use Rattle.ipc_projection.proofs.Projected.{chosen_stand}
use Rattle.ipc_read.specs.Batches.{kinds_of}
use Rattle.row_filters.specs.Filters.{is_of_numbers, is_tested}

-- ── one number ──

pub one_rises : (c : ℕ) → are_rising (Some (c ∷ [])) ≡ true
one_rises c = and_from (nat_le 0 c) true (le-leb 0 c (omega arith)) refl

pub one_below : (c n : ℕ) → c < n → are_columns (Some (c ∷ [])) n ≡ true
one_below c n less = and_from (nat_lt c n) true (lt-ltb c n less) refl

one_chosen : {A : Type 0} (c : ℕ) (xs : List A) → c < length xs → length (chosen (Some (c ∷ [])) 0 xs) ≡ 1
one_chosen c xs less = (chosen_stand (c ∷ []) xs (one_rises c) (one_below c (length xs) less)).count

pub one_kind : (c : ℕ) (s : List Keyed) → c < length s → length (chosen (Some (c ∷ [])) 0 (kinds_of s)) ≡ 1
one_kind c s less = one_chosen c (kinds_of s) (omega (arith, length-map s (λ p. p.1.kind), less))

-- ── floats ──

number_floats : (k : Kind) → is_of_numbers k ≡ true → float_faults k ≡ []
number_floats (integer t) h = refl
number_floats date32 h = refl
number_floats date64 h = refl
number_floats (time32 u) h = refl
number_floats (time64 u) h = refl
number_floats (timestamp u z) h = refl
number_floats (duration u) h = refl
number_floats (interval u) h = refl
number_floats (decimal precision scale) h = refl
number_floats (dictionary t ordered id k) h = number_floats k h
number_floats (extension name metadata k) h = number_floats k h
number_floats k h = cc

past_floats : (fs : Fields) (n c : ℕ) → n < c → chosen_floats (Some (n ∷ [])) fs c ≡ []
past_floats none n c less = refl
past_floats (field name nullable metadata k others) n c less =
    let other : (nat_eq n c || false) ≡ false = grind arith in
    rw (other, past_floats others n (suc c) (omega (arith, less))) refl

floats_at : (fs : Fields) (n c d : ℕ) → d ≡ c + n → is_tested fs n ≡ true → chosen_floats (Some (d ∷ [])) fs c ≡ []
floats_at none n c d is h = refl
floats_at (field name nullable metadata k others) zero c d is h =
    let this : (nat_eq d c || false) ≡ true = grind arith in
    rw (this, number_floats k h, past_floats others d (suc c) (omega (arith, is))) refl
floats_at (field name nullable metadata k others) (suc n) c d is h =
    let other : (nat_eq d c || false) ≡ false = grind arith in
    rw (other, floats_at others n (suc c) d (omega (arith, is)) h) refl

pub tested_floats : (fs : Fields) (c : ℕ) → is_tested fs c ≡ true → chosen_floats (Some (c ∷ [])) fs 0 ≡ []
tested_floats fs c h = floats_at fs c 0 c (omega arith) h

-- ── fields ──

number_with : (k : Kind) (id : Option ℤ) (below : Ids) → is_of_numbers (kind_with k id below) ≡ is_of_numbers k
number_with (dictionary t ordered old k) id below = number_with k None below
number_with (extension name metadata k) id below = number_with k id below
number_with k id below = refl

pub tested_with : (fs : Fields) (below : Ids) (c : ℕ) → is_tested (fields_with fs below) c ≡ is_tested fs c
tested_with none below c = refl
tested_with (field name nullable metadata k others) no_fields zero = number_with k None no_fields
tested_with (field name nullable metadata k others) no_fields (suc c) = tested_with others no_fields c
tested_with (field name nullable metadata k others) (ids id below rest) zero = number_with k id below
tested_with (field name nullable metadata k others) (ids id below rest) (suc c) = tested_with others rest c

pub tested_at : (s : List Keyed) (i : ℕ) (x : Keyed) → slice_get s i ≡ Some x → is_tested (fields_in s) i ≡ is_of_numbers x.1.kind
tested_at [] i x at = cc
tested_at (y ∷ s) zero x at = let same : y ≡ x = cc in ap (λ (z : Keyed). is_of_numbers z.1.kind) same
tested_at (y ∷ s) (suc i) x at = tested_at s i x at
