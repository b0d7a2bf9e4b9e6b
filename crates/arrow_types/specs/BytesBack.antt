-- What is read from bytes is written again as these bytes.
use Rattle.std.proofs.Common.{◌≡◌, ℕ, zero, suc, ◌+◌, ◌-◌, ◌*◌, ◌/◌, ◌%◌, ◌^◌, ◌<◌, ◌≤◌, List, [], ◌∷◌, ◌++◌, length, take, drop, get_or, ℤ, refl, sym, ◌∙◌, ap, arith, length-take, length-drop, append_assoc}
use Rattle.std.specs.Prelude.{slice_index}
use mathlib.Core.List.{reverse}
use Rattle.std.specs.Int.{Width, w8, w16, w32, w64, w128, byte_len, byte_at, byte_worth, bytes_low_first, sum_through, to_le_bytes, to_be_bytes}
use Rattle.std.proofs.Math.Nat.{pow-suc, mul_assoc, mul_comm, mul-le-mul_right, div-div-eq-div-mul, mod-eq_of_lt}
use Rattle.std.proofs.lemmas.Nat.{div-mul-add, mod-mul-add}
use Rattle.std.proofs.lemmas.Int.{of_z-to_z}
use Rattle.std.proofs.lemmas.List.{take-append-drop, drop-drop}
use Rattle.arrow_spec.specs.Flat.{Order, little, big, from_bytes}
use Rattle.arrow_spec.specs.Arrays.{from_on}
use Rattle.arrow_types.specs.Numbers.{signed_to_bytes, signed_from_bytes, unsigned_to_bytes, unsigned_from_bytes, days_ms_to_bytes, days_ms_from_bytes, months_days_ns_to_bytes, months_days_ns_from_bytes}
use Rattle.arrow_types.specs.NumberLaws.{turned_2, turned_4, turned_8, turned_16}
use mir.Val.{bits}

-- ── bytes make a number that fits ──

worth_below : (i b : ℕ) → b < 256 → byte_worth (suc i) b + 256 ^ suc i ≤ 256 ^ suc (suc i)
worth_below i b h = let k : suc b * 256 ^ suc i ≤ 256 * 256 ^ suc i = mul-le-mul_right (256 ^ suc i) h in rw (pow-suc 256 (suc i)) (omega (arith, k))

sum_below : (f : ℕ → ℕ) (k : ℕ) → ((i : ℕ) → f i < 256) → sum_through (λ i. byte_worth i (f i)) k < 256 ^ suc k
sum_below f zero h = h 0
sum_below f (suc k) h =
    let a = sum_below f k h in
    let b = worth_below k (f (suc k)) (h (suc k)) in
    omega (arith, a, b)

same_below : (a b n : ℕ) → a ≡ b → b < n → a < n
same_below a b n e h = omega (arith, e, h)

-- the number of bytes fits their width
pub number_fits : (w : Width) (order : Order) (bytes : List ℕ) → ((i : ℕ) → get_or bytes i 0 < 2 ^ 8) → from_bytes order w bytes < 2 ^ bits w
number_fits w8 little bytes h = sum_below (slice_index bytes) 0 h
number_fits w8 big bytes h = sum_below (slice_index bytes) 0 h
number_fits w16 little bytes h = sum_below (slice_index bytes) 1 h
number_fits w16 big bytes h = same_below _ _ _ (turned_2 _ _) (sum_below (λ i. slice_index bytes (1 - i)) 1 (λ i. h (1 - i)))
number_fits w32 little bytes h = sum_below (slice_index bytes) 3 h
number_fits w32 big bytes h = same_below _ _ _ (turned_4 _ _ _ _) (sum_below (λ i. slice_index bytes (3 - i)) 3 (λ i. h (3 - i)))
number_fits w64 little bytes h = sum_below (slice_index bytes) 7 h
number_fits w64 big bytes h = same_below _ _ _ (turned_8 _ _ _ _ _ _ _ _) (sum_below (λ i. slice_index bytes (7 - i)) 7 (λ i. h (7 - i)))
number_fits w128 little bytes h = sum_below (slice_index bytes) 15 h
number_fits w128 big bytes h =
    same_below _ _ _ (turned_16 _ _ _ _ _ _ _ _ _ _ _ _ _ _ _ _) (sum_below (λ i. slice_index bytes (15 - i)) 15 (λ i. h (15 - i)))

-- ── the bytes of a sum of bytes ──

turned_worth : (x p s : ℕ) → s + x * (p * 256) ≡ x * p * 256 + s
turned_worth x p s = ap (λ q. s + q) (sym (mul_assoc x p 256)) ∙ (omega arith)

-- the lowest byte, and the rest 256 times
sum_lowest : (f : ℕ → ℕ) (k : ℕ) → sum_through (λ i. byte_worth i (f i)) (suc k) ≡ sum_through (λ i. byte_worth i (f (suc i))) k * 256 + f 0
sum_lowest f zero = omega arith
sum_lowest f (suc k) =
    let before : sum_through (λ i. byte_worth i (f i)) (suc k) ≡ sum_through (λ i. byte_worth i (f (suc i))) k * 256 + f 0 = sum_lowest f k in
    let p : 256 ^ suc (suc k) ≡ 256 ^ suc k * 256 = pow-suc 256 (suc k) in
    let s = sum_through (λ i. byte_worth i (f i)) (suc k) in
    let x = f (suc (suc k)) in
    let last : s + x * 256 ^ suc (suc k) ≡ x * 256 ^ suc k * 256 + s = ap (λ q. s + x * q) p ∙ turned_worth x (256 ^ suc k) s in
    omega (arith, before, last)

-- a byte above the lowest is one of a 256th
byte_above : (i n : ℕ) → byte_at (suc i) n ≡ byte_at i (n / 256)
byte_above zero n = refl
byte_above (suc i) n =
    ap (λ p. n / p % 256) (pow-suc 256 (suc i) ∙ mul_comm (256 ^ suc i) 256) ∙ ap (λ q. q % 256) (sym (div-div-eq-div-mul n 256 (256 ^ suc i)))

bytes_above : (i k n : ℕ) → bytes_low_first (suc i) k n ≡ bytes_low_first i k (n / 256)
bytes_above i zero n = refl
bytes_above i (suc k) n = ap (λ b. b ∷ bytes_low_first (suc (suc i)) k n) (byte_above i n) ∙ ap (λ r. byte_at i (n / 256) ∷ r) (bytes_above (suc i) k n)

-- a list that is told item by item, told from the next item on
pub later : {A : Type 0} (f : ℕ → A) (i n : ℕ) → from_on (λ j. f (suc j)) i n ≡ from_on f (suc i) n
later f i zero = refl
later f i (suc n) = ap (λ r. f (suc i) ∷ r) (later f (suc i) n)

bytes_of_sum : (f : ℕ → ℕ) (k : ℕ) → ((i : ℕ) → f i < 256)
    → bytes_low_first 0 (suc k) (sum_through (λ i. byte_worth i (f i)) k) ≡ from_on f 0 (suc k)
bytes_of_sum f zero h = ap (λ b. b ∷ []) (mod-eq_of_lt (h 0))
bytes_of_sum f (suc k) h =
    let rest = sum_through (λ i. byte_worth i (f (suc i))) k in
    let whole : sum_through (λ i. byte_worth i (f i)) (suc k) ≡ rest * 256 + f 0 = sum_lowest f k in
    let low : (rest * 256 + f 0) % 256 ≡ f 0 = mod-mul-add rest 256 (f 0) (h 0) in
    let high : (rest * 256 + f 0) / 256 ≡ rest = div-mul-add rest 256 (f 0) (h 0) in
    ap (bytes_low_first 0 (suc (suc k))) whole
    ∙ ap (λ b. b ∷ bytes_low_first 1 (suc k) (rest * 256 + f 0)) low
    ∙ ap (λ r. f 0 ∷ r) (bytes_above 0 (suc k) (rest * 256 + f 0) ∙ ap (bytes_low_first 0 (suc k)) high
    ∙ bytes_of_sum (λ i. f (suc i)) k (λ i. h (suc i)) ∙ later f 0 (suc k))

-- a list told item by item
told : (bytes : List ℕ) (n : ℕ) → length bytes ≡ n → from_on (slice_index bytes) 0 n ≡ bytes
told [] zero l = refl
told [] (suc n) l = absurd (omega (arith, l))
told (b ∷ bytes) zero l = absurd (omega (arith, l))
told (b ∷ bytes) (suc n) l = ap (λ r. b ∷ r) (sym (later (slice_index (b ∷ bytes)) 0 n) ∙ told bytes n (omega (arith, l)))

low_first : (bytes : List ℕ) (k : ℕ) → length bytes ≡ suc k → ((i : ℕ) → get_or bytes i 0 < 2 ^ 8)
    → bytes_low_first 0 (suc k) (sum_through (λ i. byte_worth i (slice_index bytes i)) k) ≡ bytes
low_first bytes k l h = bytes_of_sum (slice_index bytes) k h ∙ told bytes (suc k) l

high_first : (bytes : List ℕ) (k n : ℕ) → n ≡ sum_through (λ i. byte_worth i (slice_index bytes (k - i))) k → ((i : ℕ) → get_or bytes i 0 < 2 ^ 8)
    → bytes_low_first 0 (suc k) n ≡ from_on (λ i. slice_index bytes (k - i)) 0 (suc k)
high_first bytes k n e h = ap (bytes_low_first 0 (suc k)) e ∙ bytes_of_sum (λ i. slice_index bytes (k - i)) k (λ i. h (k - i))

pub unsigned_same : (w : Width) (order : Order) (bytes : List ℕ) → length bytes ≡ byte_len w → ((i : ℕ) → get_or bytes i 0 < 2 ^ 8)
    → unsigned_to_bytes w order (unsigned_from_bytes w order bytes) ≡ bytes
unsigned_same w8 little bytes l h = low_first bytes 0 l h
unsigned_same w8 big bytes l h = low_first bytes 0 l h
unsigned_same w16 little bytes l h = low_first bytes 1 l h
unsigned_same w16 big bytes l h = ap reverse (high_first bytes 1 _ (turned_2 _ _) h) ∙ told bytes 2 l
unsigned_same w32 little bytes l h = low_first bytes 3 l h
unsigned_same w32 big bytes l h = ap reverse (high_first bytes 3 _ (turned_4 _ _ _ _) h) ∙ told bytes 4 l
unsigned_same w64 little bytes l h = low_first bytes 7 l h
unsigned_same w64 big bytes l h = ap reverse (high_first bytes 7 _ (turned_8 _ _ _ _ _ _ _ _) h) ∙ told bytes 8 l
unsigned_same w128 little bytes l h = low_first bytes 15 l h
unsigned_same w128 big bytes l h = ap reverse (high_first bytes 15 _ (turned_16 _ _ _ _ _ _ _ _ _ _ _ _ _ _ _ _) h) ∙ told bytes 16 l

pub signed_same : (w : Width) (order : Order) (bytes : List ℕ) → length bytes ≡ byte_len w → ((i : ℕ) → get_or bytes i 0 < 2 ^ 8)
    → signed_to_bytes w order (signed_from_bytes w order bytes) ≡ bytes
signed_same w order bytes l h =
    ap (unsigned_to_bytes w order) (of_z-to_z w (from_bytes order w bytes) (number_fits w order bytes h)) ∙ unsigned_same w order bytes l h

-- ── intervals ──

-- bytes of bytes are bytes
pub take_bytes : (n : ℕ) (b : List ℕ) → ((i : ℕ) → get_or b i 0 < 2 ^ 8) → (i : ℕ) → get_or (take n b) i 0 < 2 ^ 8
take_bytes zero b h j = omega arith
take_bytes (suc n) [] h j = omega arith
take_bytes (suc n) (x ∷ b) h zero = h 0
take_bytes (suc n) (x ∷ b) h (suc j) = take_bytes n b (λ i. h (suc i)) j

pub drop_bytes : (n : ℕ) (b : List ℕ) → ((i : ℕ) → get_or b i 0 < 2 ^ 8) → (i : ℕ) → get_or (drop n b) i 0 < 2 ^ 8
drop_bytes zero b h j = h j
drop_bytes (suc n) [] h j = omega arith
drop_bytes (suc n) (x ∷ b) h j = drop_bytes n b (λ i. h (suc i)) j

part_long : (n at : ℕ) (b : List ℕ) (m : ℕ) → length b ≡ m → at + n ≤ m → length (take n (drop at b)) ≡ n
part_long n at b m l h = omega (arith, l, h, length-take n (drop at b), length-drop at b)

pub days_ms_same : (order : Order) (bytes : List ℕ) → length bytes ≡ 8 → ((i : ℕ) → get_or bytes i 0 < 2 ^ 8)
    → days_ms_to_bytes order (days_ms_from_bytes order bytes) ≡ bytes
days_ms_same order bytes l h =
    let a = signed_same w32 order (take 4 bytes) (part_long 4 0 bytes 8 l (omega arith)) (take_bytes 4 bytes h) in
    let b = signed_same w32 order (drop 4 bytes) (omega (arith, l, length-drop 4 bytes)) (drop_bytes 4 bytes h) in
    ap (λ x. x ++ signed_to_bytes w32 order (signed_from_bytes w32 order (drop 4 bytes))) a ∙ ap (λ x. take 4 bytes ++ x) b ∙ take-append-drop 4 bytes

halves_16 : (bytes : List ℕ) → length bytes ≡ 16 → take 4 bytes ++ take 4 (drop 4 bytes) ++ drop 8 bytes ≡ bytes
halves_16 bytes l =
    let e : drop 4 (drop 4 bytes) ≡ drop 8 bytes = drop-drop 4 4 bytes in
    rw append_assoc (ap (λ r. take 4 bytes ++ (take 4 (drop 4 bytes) ++ r)) (sym e)
    ∙ ap (λ r. take 4 bytes ++ r) (take-append-drop 4 (drop 4 bytes)) ∙ take-append-drop 4 bytes)

pub months_days_ns_same : (order : Order) (bytes : List ℕ) → length bytes ≡ 16 → ((i : ℕ) → get_or bytes i 0 < 2 ^ 8)
    → months_days_ns_to_bytes order (months_days_ns_from_bytes order bytes) ≡ bytes
months_days_ns_same order bytes l h =
    let a = signed_same w32 order (take 4 bytes) (part_long 4 0 bytes 16 l (omega arith)) (take_bytes 4 bytes h) in
    let b = signed_same w32 order (take 4 (drop 4 bytes)) (part_long 4 4 bytes 16 l (omega arith)) (take_bytes 4 (drop 4 bytes) (drop_bytes 4 bytes h)) in
    let c = signed_same w64 order (drop 8 bytes) (omega (arith, l, length-drop 8 bytes)) (drop_bytes 8 bytes h) in
    let again : Width → List ℕ → List ℕ = λ w part. signed_to_bytes w order (signed_from_bytes w order part) in
    ap (λ x. x ++ again w32 (take 4 (drop 4 bytes)) ++ again w64 (drop 8 bytes)) a
    ∙ ap (λ x. take 4 bytes ++ x ++ again w64 (drop 8 bytes)) b
    ∙ ap (λ x. take 4 bytes ++ take 4 (drop 4 bytes) ++ x) c
    ∙ halves_16 bytes l
