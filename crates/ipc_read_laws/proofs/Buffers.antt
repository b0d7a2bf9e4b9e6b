-- Buffers that lie in the body, and lists that are told row by row.
use Rattle.std.proofs.Common.{◌≡◌, ℕ, zero, suc, ◌+◌, ◌*◌, ◌≤◌, ◌<◌, List, [], ◌∷◌, Bool, true, Option, Some, None, map, length, take, drop, get_or, refl, ap, ◌∙◌, arith, length-take, length-drop}
use Rattle.std.specs.Prelude.{slice_get}
use Rattle.std.specs.List.{list_all}
use Rattle.std.proofs.lemmas.Bool.{ltb-false}
use Rattle.arrow_spec.specs.declared.message.IpcBuffer.{IpcBuffer}
use Rattle.arrow_spec.specs.Counts.{RecordBatch, magnitude}
use Rattle.arrow_spec.specs.Arrays.{buf, range_of, range_or_none, from_on}
use Rattle.arrow_spec.specs.Faults.{range_causes, range_faults, numbers_faults, some_row}
use Rattle.arrow_spec.specs.Laws.{AreBytes}
use Rattle.arrow_spec.proofs.Fewer.{cause-none, none_second, sound_first, sound_second}
use Rattle.arrow_types.specs.BytesBack.{take_bytes, drop_bytes}

range_inside : (x : Option IpcBuffer) (body : ℕ) → range_causes x body ≡ [] → magnitude (range_or_none x).offset + magnitude (range_or_none x).length ≤ body
range_inside None body h = cc
range_inside (Some x) body h = ltb-false body (magnitude x.offset + magnitude x.length) (cause-none _ _ (none_second _ _ h))

-- a buffer that lies in the body is as long as is stated
pub length-buf : (m : RecordBatch) (i : ℕ) → range_faults m i ≡ [] → length (buf m i) ≡ magnitude (range_of m i).length
unfolding range_faults buf
length-buf m i h =
    let inside = range_inside (slice_get m.buffers i) (length m.body) h in
    omega (arith, length-take (magnitude (range_of m i).length) (drop (magnitude (range_of m i).offset) m.body), length-drop (magnitude (range_of m i).offset) m.body)

-- a buffer of so many numbers holds them
pub numbers_held : (m : RecordBatch) (i width count : ℕ) → numbers_faults m i width count ≡ [] → width * count ≤ length (buf m i)
unfolding numbers_faults
numbers_held m i width count h =
    let l = length-buf m i (sound_first _ _ h) in
    let k = ltb-false (magnitude (range_of m i).length) (width * count) (cause-none _ _ (sound_second (range_faults m i) _ h)) in
    omega (arith, l, k)

pub part_bytes : (at n : ℕ) (b : List ℕ) → AreBytes b → AreBytes (take n (drop at b))
part_bytes at n b h = take_bytes n (drop at b) (drop_bytes at b h)

-- bytes of a body are bytes
pub buf_bytes : (m : RecordBatch) (i : ℕ) → AreBytes m.body → AreBytes (buf m i)
unfolding buf
buf_bytes m i h j = part_bytes (magnitude (range_of m i).offset) (magnitude (range_of m i).length) m.body h j

-- ── rows ──

pub map-from_on : {A B : Type 0} (f : A → B) (g : ℕ → A) (i n : ℕ) → map f (from_on g i n) ≡ from_on (λ j. f (g j)) i n
map-from_on f g i zero = refl
map-from_on f g i (suc n) = ap (λ r. f (g i) ∷ r) (map-from_on f g (suc i) n)

pub all-from_on : {A : Type 0} (test : A → Bool) (g : ℕ → A) (i n : ℕ) → ((j : ℕ) → i ≤ j → j < i + n → test (g j) ≡ true) → list_all test (from_on g i n) ≡ true
all-from_on test g i zero h = refl
all-from_on test g i (suc n) h = rw (h i (omega arith) (omega arith), all-from_on test g (suc i) n (λ j le lt. h j (omega (arith, le)) (omega (arith, lt)))) refl

pub some_row-same : (f g : ℕ → Bool) (n : ℕ) → ((k : ℕ) → k < n → f k ≡ g k) → some_row f n ≡ some_row g n
some_row-same f g zero h = refl
some_row-same f g (suc n) h = rw (some_row-same f g n (λ k l. h k (omega (arith, l))), h n (omega arith)) refl

-- an item of a list that is told row by row
pub get-told : {A : Type 0} (f : ℕ → A) (at c i : ℕ) (d : A) → i < c → get_or (from_on f at c) i d ≡ f (at + i)
get-told f at zero i d h = absurd (omega (arith, h))
get-told f at (suc c) zero d h = let e : at ≡ at + 0 = omega arith in ap f e
get-told f at (suc c) (suc i) d h = let e : suc at + i ≡ at + suc i = omega arith in get-told f (suc at) c i d (omega (arith, h)) ∙ ap f e
