-- What good offsets say of each of them, and a part of them.
use Rattle.std.proofs.Common.{◌≡◌, ◌⊎◌, Bool, false, None, cond, slice_get, ℕ, zero, suc, ◌+◌, ◌≤◌, ◌<◌, ◌&&◌, List, [], ◌∷◌, true, Some, length, get_or, take, drop, nat_le, refl, sym, ap, ◌∙◌, arith, true≢false, map, ◌^◌, Option, inl, inr}
use Rattle.std.specs.Prelude.{ℤ, pos, negsuc, nat_lt}
use Rattle.std.proofs.Math.Nat.{suc-add}
use Rattle.std.proofs.lemmas.Bool.{cases_eq, and_parts, and_from, leb-true, le-leb, lt-ltb, lt-leb, ltb-false}
use Rattle.std.proofs.lemmas.List.{get_or-take, get_or-drop, get_or_default, length-map}
use Rattle.arrow_spec.specs.Counts.{magnitude}
use Rattle.arrow_types.specs.Numbers.{usize_of}
use Rattle.arrow_buffers.specs.Rows.{part}
use Rattle.arrow_buffers.specs.Variable.{place_at, rise_from, are_offsets, row_bytes}
use Rattle.arrow_buffers.proofs.Parts.{length-part}

-- the i-th of rising offsets is a place within the limits
pub record Risen (low limit : ℕ) (offsets : List ℤ) (i : ℕ) : Type 0 where
  pub placed : get_or offsets i (pos 0) ≡ pos (place_at offsets i)
  pub above : low ≤ place_at offsets i
  pub within : place_at offsets i ≤ limit

step : (low x limit : ℕ) (offsets : List ℤ) → rise_from low (pos x ∷ offsets) limit ≡ true → (low ≤ x) × (x ≤ limit) × (rise_from x offsets limit ≡ true)
step low x limit offsets h =
    let p = and_parts (nat_le low x && nat_le x limit) (rise_from x offsets limit) h in
    let q = and_parts (nat_le low x) (nat_le x limit) p.0 in
    (leb-true low x q.0, leb-true x limit q.1, p.1)

unstep : (low x limit : ℕ) (offsets : List ℤ) → low ≤ x → x ≤ limit → rise_from x offsets limit ≡ true → rise_from low (pos x ∷ offsets) limit ≡ true
unstep low x limit offsets p q r = and_from (nat_le low x && nat_le x limit) (rise_from x offsets limit) (and_from (nat_le low x) (nat_le x limit) (le-leb low x p) (le-leb x limit q)) r

risen : (low limit : ℕ) (offsets : List ℤ) (i : ℕ) → rise_from low offsets limit ≡ true → i < length offsets → Risen low limit offsets i
risen low limit [] i h l = absurd (omega arith)
risen low limit (negsuc x ∷ offsets) i h l = absurd (true≢false (sym h))
risen low limit (pos x ∷ offsets) zero h l = let p = step low x limit offsets h in record { placed = refl; above = p.0; within = p.1 }
risen low limit (pos x ∷ offsets) (suc i) h l =
    let p = step low x limit offsets h in
    let r = risen x limit offsets i p.2 (omega arith) in
    record { placed = r.placed; above = omega (arith, r.above, p.0); within = r.within }

climbs : (low limit : ℕ) (offsets : List ℤ) (i : ℕ) → rise_from low offsets limit ≡ true → suc i < length offsets → place_at offsets i ≤ place_at offsets (suc i)
climbs low limit [] i h l = absurd (omega arith)
climbs low limit (negsuc x ∷ offsets) i h l = absurd (true≢false (sym h))
climbs low limit (pos x ∷ offsets) zero h l = (risen x limit offsets 0 (step low x limit offsets h).2 (omega arith)).above
climbs low limit (pos x ∷ offsets) (suc i) h l = climbs x limit offsets i (step low x limit offsets h).2 (omega arith)

rise_of : (offsets : List ℤ) (limit : ℕ) → are_offsets offsets limit ≡ true → rise_from 0 offsets limit ≡ true
rise_of [] limit h = refl
rise_of (x ∷ offsets) limit h = h

pub some_offset : (offsets : List ℤ) (limit : ℕ) → are_offsets offsets limit ≡ true → 0 < length offsets
some_offset [] limit h = absurd (true≢false (sym h))
some_offset (x ∷ offsets) limit h = omega arith

pub offset_risen : (offsets : List ℤ) (limit i : ℕ) → are_offsets offsets limit ≡ true → i < length offsets → Risen 0 limit offsets i
offset_risen offsets limit i h l = risen 0 limit offsets i (rise_of offsets limit h) l

pub offset_climbs : (offsets : List ℤ) (limit i : ℕ) → are_offsets offsets limit ≡ true → suc i < length offsets → place_at offsets i ≤ place_at offsets (suc i)
offset_climbs offsets limit i h l = climbs 0 limit offsets i (rise_of offsets limit h) l

rise-lower : (low less limit : ℕ) (offsets : List ℤ) → less ≤ low → rise_from low offsets limit ≡ true → rise_from less offsets limit ≡ true
rise-lower low less limit [] l h = refl
rise-lower low less limit (negsuc x ∷ offsets) l h = h
rise-lower low less limit (pos x ∷ offsets) l h = let p = step low x limit offsets h in unstep less x limit offsets (omega (arith, p.0)) p.1 p.2

rise-drop : (low limit o : ℕ) (offsets : List ℤ) → rise_from low offsets limit ≡ true → rise_from low (drop o offsets) limit ≡ true
rise-drop low limit zero offsets h = h
rise-drop low limit (suc o) [] h = refl
rise-drop low limit (suc o) (negsuc x ∷ offsets) h = absurd (true≢false (sym h))
rise-drop low limit (suc o) (pos x ∷ offsets) h = let p = step low x limit offsets h in rise-lower x low limit (drop o offsets) p.0 (rise-drop x limit o offsets p.2)

rise-take : (low limit n : ℕ) (offsets : List ℤ) → rise_from low offsets limit ≡ true → rise_from low (take n offsets) limit ≡ true
rise-take low limit zero offsets h = refl
rise-take low limit (suc n) [] h = refl
rise-take low limit (suc n) (negsuc x ∷ offsets) h = absurd (true≢false (sym h))
rise-take low limit (suc n) (pos x ∷ offsets) h = let p = step low x limit offsets h in unstep low x limit (take n offsets) p.0 p.1 (rise-take x limit n offsets p.2)

are_of : (offsets : List ℤ) (limit : ℕ) → rise_from 0 offsets limit ≡ true → 0 < length offsets → are_offsets offsets limit ≡ true
are_of [] limit h l = absurd (omega arith)
are_of (x ∷ offsets) limit h l = h

-- a part of good offsets is good
pub are_offsets-part : (o n limit : ℕ) (offsets : List ℤ) → are_offsets offsets limit ≡ true → o + n < length offsets → are_offsets (part o (n + 1) offsets) limit ≡ true
are_offsets-part o n limit offsets h l =
    let e = length-part offsets o (n + 1) (omega arith) in
    are_of (part o (n + 1) offsets) limit (rise-take 0 limit (n + 1) (drop o offsets) (rise-drop 0 limit o offsets (rise_of offsets limit h))) (omega (arith, e))

place_at-part : (o m k : ℕ) (offsets : List ℤ) → k < m → place_at (part o m offsets) k ≡ place_at offsets (o + k)
place_at-part o m k offsets h = ap magnitude (get_or-take m (drop o offsets) k (pos 0) h ∙ get_or-drop o offsets k (pos 0))

-- a row of a part is a row of the whole
pub row_bytes-part : (o n k : ℕ) (offsets : List ℤ) (values : List ℕ) → k < n → row_bytes (part o (n + 1) offsets) values k ≡ row_bytes offsets values (o + k)
row_bytes-part o n k offsets values h =
    let a : place_at (part o (n + 1) offsets) k ≡ place_at offsets (o + k) = place_at-part o (n + 1) k offsets (omega arith) in
    let b : place_at (part o (n + 1) offsets) (suc k) ≡ place_at offsets (suc (o + k)) = place_at-part o (n + 1) (suc k) offsets (omega arith) ∙ ap (place_at offsets) (omega arith) in
    rw (a, b) refl

get_or-map : {A B : Type 0} (f : A → B) (xs : List A) (i : ℕ) (d : A) → f (get_or xs i d) ≡ get_or (map f xs) i (f d)
get_or-map f [] i d = refl
get_or-map f (x ∷ xs) zero d = refl
get_or-map f (x ∷ xs) (suc i) d = get_or-map f xs i d

-- what an item that was read is taken to
map_read : {A B : Type 0} (f : A → B) (xs : List A) (i : ℕ) (x : A) (e : B) → i < length xs → x ≡ get_or xs i x → f x ≡ get_or (map f xs) i e
map_read f xs i x e h r = ap f r ∙ get_or-map f xs i x ∙ get_or_default (map f xs) i (f x) e (omega (arith, length-map xs f))

usize_of-pos : (n : ℕ) → n < 2 ^ 64 → usize_of (pos n) ≡ Some n
usize_of-pos n h = rw (lt-ltb n (2 ^ 64) h) refl

-- a good offset is taken to its place, which is within the limit
pub record Placed (offsets : List ℤ) (limit i : ℕ) (r : Option ℕ) : Type 0 where
  pub found : r ≡ Some (place_at offsets i)
  pub within : place_at offsets i ≤ limit

pub placed_in : {A : Type 0} (number : A → ℤ) (xs : List A) (limit i : ℕ) (x : A) (r : Option ℕ) → limit < 2 ^ 64 → are_offsets (map number xs) limit ≡ true → i < length xs → x ≡ get_or xs i x → r ≡ usize_of (number x) → Placed (map number xs) limit i r
placed_in number xs limit i x r fits h l e u =
    let k = offset_risen (map number xs) limit i h (omega (arith, length-map xs number)) in
    let n : number x ≡ pos (place_at (map number xs) i) = map_read number xs i x (pos 0) l e ∙ k.placed in
    record { found = u ∙ ap usize_of n ∙ usize_of-pos (place_at (map number xs) i) (omega (arith, k.within)); within = k.within }

-- a later offset is no smaller
pub offset_between : (offsets : List ℤ) (limit i : ℕ) → are_offsets offsets limit ≡ true → (j : ℕ) → i ≤ j → j < length offsets → place_at offsets i ≤ place_at offsets j
offset_between offsets limit i h zero l b = let e : i ≡ 0 = omega arith in omega (arith, ap (place_at offsets) e)
offset_between offsets limit i h (suc j) l b =
    elim (cases_eq i (suc j)) [
      | inl e ↦ omega (arith, ap (place_at offsets) e)
      | inr n ↦ omega (arith, offset_between offsets limit i h j (omega arith) (omega arith), offset_climbs offsets limit j h b)
    ]

-- ── offsets looked at one by one ──

pub here : {A : Type 0} (number : A → ℤ) (xs : List A) (i : ℕ) (x : A) → slice_get xs i ≡ Some x → map number (drop i xs) ≡ number x ∷ map number (drop (i + 1) xs)
here number [] i x e = cc
here number (y ∷ xs) zero x e = let f : y ≡ x = cc in ap (λ z. number z ∷ map number xs) f
here number (y ∷ xs) (suc i) x e = rw suc-add (here number xs i x e)

and_middle : (a b c : Bool) → b ≡ false → (a && b && c) ≡ false
and_middle true b c e = ap (λ x. x && c) e
and_middle false b c e = refl

past_limit : (low n limit : ℕ) (rest : List ℤ) → limit < n → rise_from low (pos n ∷ rest) limit ≡ false
past_limit low n limit rest h = and_middle (nat_le low n) (nat_le n limit) (rise_from n rest limit) (lt-leb n limit h)

before_low : (low n limit : ℕ) (rest : List ℤ) → n < low → rise_from low (pos n ∷ rest) limit ≡ false
before_low low n limit rest h = ap (λ b. b && nat_le n limit && rise_from n rest limit) (lt-leb low n h)

rise_on : (low n limit : ℕ) (rest : List ℤ) → low ≤ n → n ≤ limit → rise_from low (pos n ∷ rest) limit ≡ rise_from n rest limit
rise_on low n limit rest h k = ap (λ b. b && nat_le n limit && rise_from n rest limit) (le-leb low n h) ∙ ap (λ b. b && rise_from n rest limit) (le-leb n limit k)

none_when : (b : Bool) (n : ℕ) → cond b (Some n) None ≡ None → b ≡ false
none_when true n e = cc
none_when false n e = refl

some_when : (b : Bool) (n at : ℕ) → cond b (Some n) None ≡ Some at → n ≡ at
some_when true n at e = cc
some_when false n at e = cc

usize_is : (z : ℤ) (at : ℕ) → usize_of z ≡ Some at → z ≡ pos at
usize_is (pos n) at e = ap pos (some_when (nat_lt n (2 ^ 64)) n at e)
usize_is (negsuc n) at e = cc

pub no_place : (z : ℤ) (low limit : ℕ) (rest : List ℤ) → usize_of z ≡ None → limit < 2 ^ 64 → rise_from low (z ∷ rest) limit ≡ false
no_place (negsuc n) low limit rest e h = refl
no_place (pos n) low limit rest e h = past_limit low n limit rest (omega (arith, ltb-false n (2 ^ 64) (none_when (nat_lt n (2 ^ 64)) n e), h))

pub out_of_place : (z : ℤ) (low at limit : ℕ) (rest : List ℤ) → usize_of z ≡ Some at → (at < low) ⊎ ((low ≤ at) × (limit < at)) → rise_from low (z ∷ rest) limit ≡ false
out_of_place z low at limit rest e (inl h) = ap (λ y. rise_from low (y ∷ rest) limit) (usize_is z at e) ∙ before_low low at limit rest h
out_of_place z low at limit rest e (inr h) = ap (λ y. rise_from low (y ∷ rest) limit) (usize_is z at e) ∙ past_limit low at limit rest h.1

pub in_place : (z : ℤ) (low at limit : ℕ) (rest : List ℤ) → usize_of z ≡ Some at → low ≤ at → at ≤ limit → rise_from low (z ∷ rest) limit ≡ rise_from at rest limit
in_place z low at limit rest e h k = ap (λ y. rise_from low (y ∷ rest) limit) (usize_is z at e) ∙ rise_on low at limit rest h k
