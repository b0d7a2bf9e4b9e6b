-- Rows whose keys are moved, one by one.
use Rattle.std.proofs.Common.{◌≡◌, ◌∙◌, ℕ, zero, suc, ◌+◌, ◌-◌, ◌<◌, ◌≤◌, ◌^◌, List, [], ◌∷◌, ◌++◌, Bool, true, false, not, ◌&&◌, Option, Some, None, ℤ, length, map, refl, sym, ap, subst, arith, inl, inr, ◌⊎◌, pos, slice_get, option_map}
use Rattle.std.specs.Prelude.{nat_le, nat_lt}
use Rattle.std.proofs.lemmas.Bool.Decides.{leb_tells}
use Rattle.std.proofs.lemmas.List.{length-map, map-append, map-id}
use Rattle.arrow_spec.specs.declared.types.IntegerType.{IntegerType}
use Rattle.arrow_spec.specs.declared.types.IntegerType.TheVariants.{Int8, Int16, Int32, Int64, Int128, UInt8, UInt16, UInt32, UInt64}
use Rattle.arrow_spec.specs.Arrays.{from_on}
use Rattle.arrow_spec.specs.Counts.{is_negative, magnitude}
use Rattle.arrow_spec.specs.Faults.{some_row}
use Rattle.arrow_types.specs.Numbers.{below_limit}
use Rattle.arrow_buffers.specs.Rows.{is_valid}
use Rattle.arrow_buffers.proofs.Rows.{none_more, some_at}
use Rattle.arrow_arrays.specs.Heads.{is_bad_key, number_at}
use Rattle.laws_unify.specs.Over.{greatest, is_large_at, moved_at}
use Rattle.laws_unify.proofs.Over.{IsBelow, both_false, from_on-length, good_key, none_bad}
use Rattle.dictionary_keys.specs.Keys.{EndsAt, HaveRoom, Moves, RowMoves}

-- the number of a row
pub number_there : {A : Type 0} (number : A → ℤ) (xs : List A) (row : ℕ) (x : A) → slice_get xs row ≡ Some x → number_at (map number xs) row ≡ number x
number_there number [] row x e = cc
number_there number (y ∷ ys) zero x e = let same : y ≡ x = cc in ap number same
number_there number (y ∷ ys) (suc row) x e = number_there number ys row x e

-- a key that names a value has room behind the place
pub record IsGood (place : ℕ) (key : ℤ) : Type 0 where
  pub natural : is_negative key ≡ false
  pub room : place + magnitude key < 2 ^ 64

pub key_is_good : (place : ℕ) (keys : List ℤ) (validity : Option (List Bool)) (row : ℕ) (key : ℤ) → HaveRoom place keys validity → row < length keys → is_valid validity row ≡ true → number_at keys row ≡ key → IsGood place key
key_is_good place keys validity row key h below valid e =
    let bad = both_false (is_valid validity row) (is_bad_key h.held (number_at keys row)) valid (none_bad (λ r. is_valid validity r && is_bad_key h.held (number_at keys r)) (length keys) row h.keyed below) in
    let b : IsBelow h.held key = good_key h.held key (subst (λ z. is_bad_key h.held z ≡ false) e bad) in
    let m : magnitude key ≡ b.number = ap magnitude b.is in
    record { natural = ap is_negative b.is; room = omega (arith, m, b.below, h.room) }

-- the row of a key that is moved, as far as its type goes
pub row_moves : (t : IntegerType) (limit place : ℕ) (keys : List ℤ) (validity : Option (List Bool)) (row : ℕ) (key : ℤ) (r : Option ℤ) → EndsAt t limit → is_valid validity row ≡ true → number_at keys row ≡ key → place + magnitude key < 2 ^ 64
    → r ≡ below_limit limit (place + magnitude key) → RowMoves t place keys validity row r
row_moves t limit place keys validity row key r ends valid at room e = subst (λ o. RowMoves t place keys validity row o) (sym e) (by (nat_lt (place + magnitude key) limit) refl)
  where
    n : ℕ
    n = place + magnitude key

    large : is_large_at t place keys validity row ≡ not (nat_lt n limit)
    large = rw (valid, at) (ends.ends n room)

    by : (b : Bool) → nat_lt n limit ≡ b → RowMoves t place keys validity row (below_limit limit n)
    by true h = subst (λ o. RowMoves t place keys validity row o) (sym (inside h)) (sym there, large ∙ ap not h)
      where
        there : moved_at place keys validity row ≡ pos n
        there = rw (valid, at) refl

        inside : nat_lt n limit ≡ true → below_limit limit n ≡ Some (pos n)
        inside g = rw g refl
    by false h = subst (λ o. RowMoves t place keys validity row o) (sym (outside h)) (large ∙ ap not h)
      where
        outside : nat_lt n limit ≡ false → below_limit limit n ≡ None
        outside g = rw g refl

-- ── all rows ──

from_on_more : {A : Type 0} (f : ℕ → A) (i n : ℕ) → from_on f i (suc n) ≡ from_on f i n ++ f (i + n) ∷ []
from_on_more f i zero = let e : i ≡ i + 0 = omega arith in ap (λ k. f k ∷ []) e
from_on_more f i (suc n) =
    let e : suc i + n ≡ i + suc n = omega arith in
    ap (λ l. f i ∷ l) (from_on_more f (suc i) n ∙ ap (λ k. from_on f (suc i) n ++ f k ∷ []) e)

pub one_more : {A : Type 0} (number : A → ℤ) (f : ℕ → ℤ) (xs new : List A) (x : A) (row : ℕ) → map number xs ≡ from_on f 0 row → number x ≡ f row → new ≡ xs ++ x ∷ [] → map number new ≡ from_on f 0 (row + 1)
one_more number f xs new x row e at grown =
    let n : row + 1 ≡ suc row = omega arith in
    let zero_on : 0 + row ≡ row = omega arith in
    ap (map number) grown ∙ map-append number xs (x ∷ []) ∙ ap (λ ys. ys ++ number x ∷ []) e ∙ ap (λ z. from_on f 0 row ++ z ∷ []) (at ∙ ap f (sym zero_on)) ∙ sym (from_on_more f 0 row) ∙ ap (from_on f 0) (sym n)

pub some_large : (bad : ℕ → Bool) (n m row : ℕ) → m ≡ n → row < n → bad row ≡ true → some_row bad m ≡ true
some_large bad n m row e below h = ap (some_row bad) e ∙ some_at bad n row below h

pub counted : {A : Type 0} (number : A → ℤ) (f : ℕ → ℤ) (xs : List A) (n : ℕ) → map number xs ≡ from_on f 0 n → length xs ≡ n
counted number f xs n e = sym (length-map xs number) ∙ ap length e ∙ from_on-length f 0 n

-- ── types ──

ends_behind : (t : IntegerType) (limit : ℕ) → suc (greatest t) ≡ limit → 0 < limit → EndsAt t limit
ends_behind t limit e some = record { ends = λ n h. by n (leb_tells (suc (greatest t)) n) (leb_tells (suc n) limit); some = some }
  where
    by : (n : ℕ) → ((nat_le (suc (greatest t)) n ≡ true) × (suc (greatest t) ≤ n)) ⊎ ((nat_le (suc (greatest t)) n ≡ false) × (n < suc (greatest t)))
        → ((nat_le (suc n) limit ≡ true) × (suc n ≤ limit)) ⊎ ((nat_le (suc n) limit ≡ false) × (limit < suc n)) → nat_lt (greatest t) n ≡ not (nat_lt n limit)
    by n (inl a) (inr b) = a.0 ∙ sym (ap not b.0)
    by n (inr a) (inl b) = a.0 ∙ sym (ap not b.0)
    by n (inl a) (inl b) = let f = a.1 in let g = b.1 in absurd (omega (arith, f, g, e))
    by n (inr a) (inr b) = let f = a.1 in let g = b.1 in absurd (omega (arith, f, g, e))

pub ends_Int8 : EndsAt Int8 (2 ^ 7)
ends_Int8 = ends_behind Int8 (2 ^ 7) refl (omega arith)

pub ends_Int16 : EndsAt Int16 (2 ^ 15)
ends_Int16 = ends_behind Int16 (2 ^ 15) refl (omega arith)

pub ends_Int32 : EndsAt Int32 (2 ^ 31)
ends_Int32 = ends_behind Int32 (2 ^ 31) refl (omega arith)

pub ends_Int64 : EndsAt Int64 (2 ^ 63)
ends_Int64 = ends_behind Int64 (2 ^ 63) refl (omega arith)

pub ends_UInt8 : EndsAt UInt8 (2 ^ 8)
ends_UInt8 = ends_behind UInt8 (2 ^ 8) refl (omega arith)

pub ends_UInt16 : EndsAt UInt16 (2 ^ 16)
ends_UInt16 = ends_behind UInt16 (2 ^ 16) refl (omega arith)

pub ends_UInt32 : EndsAt UInt32 (2 ^ 32)
ends_UInt32 = ends_behind UInt32 (2 ^ 32) refl (omega arith)

pub ends_UInt64 : EndsAt UInt64 (2 ^ 64)
ends_UInt64 = ends_behind UInt64 (2 ^ 64) refl (omega arith)

-- every place fits 128 bits
pub ends_Int128 : EndsAt Int128 (2 ^ 64)
ends_Int128 = record { ends = λ n h. by n h (leb_tells (suc (2 ^ 127 - 1)) n) (leb_tells (suc n) (2 ^ 64)); some = omega arith }
  where
    by : (n : ℕ) → n < 2 ^ 64 → ((nat_le (suc (2 ^ 127 - 1)) n ≡ true) × (suc (2 ^ 127 - 1) ≤ n)) ⊎ ((nat_le (suc (2 ^ 127 - 1)) n ≡ false) × (n < suc (2 ^ 127 - 1)))
        → ((nat_le (suc n) (2 ^ 64) ≡ true) × (suc n ≤ 2 ^ 64)) ⊎ ((nat_le (suc n) (2 ^ 64) ≡ false) × (2 ^ 64 < suc n)) → nat_lt (2 ^ 127 - 1) n ≡ not (nat_lt n (2 ^ 64))
    by n h (inr a) (inl b) = a.0 ∙ sym (ap not b.0)
    by n h (inl a) k = let f = a.1 in absurd (omega (arith, f, h))
    by n h (inr a) (inr b) = let f = b.1 in absurd (omega (arith, f, h))

-- signed keys are their own numbers
pub signed_room : (place : ℕ) (xs : List ℤ) (validity : Option (List Bool)) → HaveRoom place xs validity → HaveRoom place (map (λ (x : ℤ). x) xs) validity
signed_room place xs validity h = subst (λ ys. HaveRoom place ys validity) (sym (map-id xs)) h

pub signed_large : (t : IntegerType) (place : ℕ) (xs : List ℤ) (validity : Option (List Bool)) → Moves t place (map (λ (x : ℤ). x) xs) validity None → Moves t place xs validity None
signed_large t place xs validity h = subst (λ ys. Moves t place ys validity None) (map-id xs) h

pub signed_moves : (t : IntegerType) (place : ℕ) (xs ys : List ℤ) (validity : Option (List Bool)) → Moves t place (map (λ (x : ℤ). x) xs) validity (Some (map (λ (x : ℤ). x) ys)) → Moves t place xs validity (Some ys)
signed_moves t place xs ys validity h = subst (λ zs. Moves t place xs validity (Some zs)) (map-id ys) (subst (λ zs. Moves t place zs validity (Some (map (λ (x : ℤ). x) ys))) (map-id xs) h)
