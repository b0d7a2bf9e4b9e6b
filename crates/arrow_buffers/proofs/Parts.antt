-- Parts of lists, and of lists that are told row by row.
use Rattle.std.proofs.Common.{◌≡◌, ℕ, zero, suc, ◌+◌, ◌-◌, ◌≤◌, ◌<◌, List, ◌∷◌, Some, length, take, drop, refl, sym, ap, ◌∙◌, arith, slice_get, length-take, length-drop, replicate, map}
use Rattle.std.proofs.lemmas.List.{take-take, drop-drop, drop-take, take-replicate, drop-replicate, take-map, drop-map}
use Rattle.arrow_spec.specs.Arrays.{from_on}
use Rattle.arrow_buffers.specs.Rows.{part}

inside_part : {A : Type 0} (xs : List A) (s o m n : ℕ) → n ≤ m → part (s + o) n xs ≡ part o n (part s (o + m) xs)
inside_part xs s o m n h = sym (ap (take n) (drop-take o m (drop s xs)) ∙ take-take n m (drop o (drop s xs)) h ∙ ap (take n) (drop-drop o s xs))

-- a part of a part is a part of the whole
pub part-part : {A : Type 0} (xs : List A) (s c o n : ℕ) → o + n ≤ c → part (s + o) n xs ≡ part o n (part s c xs)
part-part xs s c o n h =
    let e : o + (c - o) ≡ c = omega arith in
    let le : n ≤ c - o = omega arith in
    inside_part xs s o (c - o) n le ∙ ap (λ k. part o n (part s k xs)) e

-- a part has at most as many items as it was asked for
pub length-part-le : {A : Type 0} (xs : List A) (s c : ℕ) (v : List A) → part s c xs ≡ v → length v ≤ c
length-part-le xs s c v e = omega (arith, ap length e, length-take c (drop s xs))

-- a part within the list has as many items as it was asked for
pub length-part : {A : Type 0} (xs : List A) (o n : ℕ) → o + n ≤ length xs → length (part o n xs) ≡ n
length-part xs o n h = length-take n (drop o xs) ∙ omega (arith, length-drop o xs)

pub length-from_on : {A : Type 0} (f : ℕ → A) (at c : ℕ) → length (from_on f at c) ≡ c
length-from_on f at zero = refl
length-from_on f at (suc c) = ap suc (length-from_on f (suc at) c)

take-from_on : {A : Type 0} (f : ℕ → A) (at n c : ℕ) → n ≤ c → take n (from_on f at c) ≡ from_on f at n
take-from_on f at zero c h = refl
take-from_on f at (suc n) zero h = absurd (omega arith)
take-from_on f at (suc n) (suc c) h = ap (λ r. f at ∷ r) (take-from_on f (suc at) n c (omega arith))

drop-from_on : {A : Type 0} (f : ℕ → A) (at o c : ℕ) → drop o (from_on f at c) ≡ from_on f (at + o) (c - o)
drop-from_on f at zero c =
    let e : at ≡ at + 0 = omega arith in
    let g : c ≡ c - 0 = omega arith in
    ap (λ k. from_on f k c) e ∙ ap (λ k. from_on f (at + 0) k) g
drop-from_on f at (suc o) zero =
    let z : 0 ≡ 0 - suc o = omega arith in
    ap (λ k. from_on f (at + suc o) k) z
drop-from_on f at (suc o) (suc c) =
    let e : suc at + o ≡ at + suc o = omega arith in
    let g : c - o ≡ suc c - suc o = omega arith in
    drop-from_on f (suc at) o c ∙ ap (λ k. from_on f k (c - o)) e ∙ ap (λ k. from_on f (at + suc o) k) g

-- a part of a list that is told row by row begins at a later row
pub part-from_on : {A : Type 0} (f : ℕ → A) (at c o n : ℕ) → o + n ≤ c → from_on f (at + o) n ≡ part o n (from_on f at c)
part-from_on f at c o n h =
    let le : n ≤ c - o = omega arith in
    sym (ap (take n) (drop-from_on f at o c) ∙ take-from_on f (at + o) n (c - o) le)

pub get-from_on : {A : Type 0} (f : ℕ → A) (at c i : ℕ) → i < c → slice_get (from_on f at c) i ≡ Some (f (at + i))
get-from_on f at zero i h = absurd (omega arith)
get-from_on f at (suc c) zero h = ap (λ k. Some (f k)) (omega arith)
get-from_on f at (suc c) (suc i) h = get-from_on f (suc at) c i (omega arith) ∙ ap (λ k. Some (f k)) (omega arith)

-- one told row by row from another row on
pub shift-from_on : {A : Type 0} (f g : ℕ → A) (at to n : ℕ) → ((k : ℕ) → k < n → f (at + k) ≡ g (to + k)) → from_on f at n ≡ from_on g to n
shift-from_on f g at to zero h = refl
shift-from_on f g at to (suc n) h =
    let first : f at ≡ g to = ap f (omega arith) ∙ h 0 (omega arith) ∙ ap g (omega arith) in
    let rest : from_on f (suc at) n ≡ from_on g (suc to) n = shift-from_on f g (suc at) (suc to) n (λ k l. ap f (omega arith) ∙ h (suc k) (omega arith) ∙ ap g (omega arith)) in
    ap (λ x. x ∷ from_on f (suc at) n) first ∙ ap (λ r. g to ∷ r) rest

-- a part of equal items
pub part-replicate : {A : Type 0} (o n m : ℕ) (x : A) → o + n ≤ m → replicate n x ≡ part o n (replicate m x)
part-replicate o n m x h =
    let le : n ≤ m - o = omega arith in
    sym (ap (take n) (drop-replicate o m x) ∙ take-replicate n (m - o) x le)

-- a part of items that are each told of others
pub map-part : {A B : Type 0} (f : A → B) (o n : ℕ) (xs : List A) → map f (part o n xs) ≡ part o n (map f xs)
map-part f o n xs = sym (ap (take n) (drop-map f o xs) ∙ take-map f n (drop o xs))
