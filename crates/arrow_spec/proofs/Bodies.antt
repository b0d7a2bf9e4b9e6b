-- Buffers are found in the body that they are laid in.
use Rattle.std.proofs.Common.{◌≡◌, ℕ, suc, ◌+◌, ◌-◌, ◌^◌, ◌<◌, ◌≤◌, List, [], ◌∷◌, ◌++◌, length, Some, refl, sym, ap, ◌∙◌, arith, length-append, append_assoc, true, false, pos}
use Rattle.std.specs.Prelude.{nat_lt, slice_get}
use Rattle.std.specs.Prelude.{map as each_of}
use Rattle.std.specs.List.{AllByRecursion}
use Rattle.std.proofs.lemmas.Bool.{le-ltb}
use Rattle.std.proofs.lemmas.List.{length-replicate}
use Rattle.std.proofs.lemmas.List.Sums.{sum_by-cons}
use Rattle.arrow_spec.specs.declared.message.IpcBuffer.{IpcBuffer}
use Rattle.arrow_spec.specs.Layout.{up_to, zeros}
use Rattle.arrow_spec.specs.Held.{Stands}
use Rattle.arrow_spec.specs.Framing.{body_bytes}
use Rattle.arrow_spec.specs.Counts.{RecordBatch, magnitude}
use Rattle.arrow_spec.specs.Arrays.{buf}
use Rattle.arrow_spec.specs.Faults.{range_faults}
use Rattle.arrow_spec.specs.Sent.{placed, body_of}
use Rattle.arrow_spec.specs.Files.{lengths_sum, none_negative}
use Rattle.arrow_spec.proofs.Standing.{stands_left}
use Rattle.arrow_spec.proofs.Found.{right_at, within}
use Rattle.arrow_spec.proofs.Slots.{taken}
use Rattle.arrow_spec.proofs.MessageTables.{fits_pos}
use Rattle.arrow_spec.specs.Bodies.{BufferFits, From, BufferHeld, AreHeld}

get_seam : {A : Type 0} (front : List A) (x : A) (xs : List A) → slice_get (front ++ x ∷ xs) (length front) ≡ Some x
get_seam [] x xs = refl
get_seam (y ∷ front) x xs = get_seam front x xs

pub from_head : {A : Type 0} (l : List A) (i : ℕ) (x : A) (xs : List A) → From l i (x ∷ xs) → slice_get l i ≡ Some x
from_head l i x xs h = rw (h.whole, sym h.place) (get_seam h.front x xs)

pub from_tail : {A : Type 0} (l : List A) (i : ℕ) (x : A) (xs : List A) → From l i (x ∷ xs) → From l (suc i) xs
from_tail l i x xs h = record { front = h.front ++ x ∷ []; whole = h.whole ∙ sym (append_assoc h.front (x ∷ []) xs); place = omega (arith, length-append h.front (x ∷ []), h.place) }

pub from_length : {A : Type 0} (l : List A) (i : ℕ) (xs : List A) → From l i xs → length l ≡ i + length xs
from_length l i xs h = omega (arith, ap length h.whole, length-append h.front xs, h.place)

pub held_bytes : (m : RecordBatch) (i : ℕ) (bytes : List ℕ) → BufferHeld m i bytes → buf m i ≡ bytes
unfolding buf
held_bytes m i bytes h = rw h.range (taken m.body h.at bytes h.stands)

pub held_faults : (m : RecordBatch) (i : ℕ) (bytes : List ℕ) → BufferHeld m i bytes → range_faults m i ≡ []
unfolding range_faults
held_faults m i bytes h =
    let inside : nat_lt (length m.body) (h.at + length bytes) ≡ false = le-ltb _ _ (within m.body h.at bytes h.stands) in
    rw (h.range, inside) refl

pub buffers_held : (xs : List (List ℕ)) (m : RecordBatch) (i at : ℕ) → From m.buffers i (placed at (each_of length xs)) → Stands m.body at (body_bytes at xs) → AreHeld m i xs
buffers_held [] m i at f h = tt
buffers_held (x ∷ xs) m i at f h =
    let next = up_to 64 (at + length x) in
    let gap = zeros (next - (at + length x)) in
    let rest = body_bytes next xs in
    let range : IpcBuffer = record { offset = pos at; length = pos (length x) } in
    let lg : length gap ≡ next - (at + length x) = length-replicate {A = ℕ} (next - (at + length x)) 0 in
    let front : Stands m.body at (x ++ gap) = stands_left m.body at (x ++ gap) rest h in (
      record { at = at; range = from_head m.buffers i range (placed next (each_of length xs)) f; stands = stands_left m.body at x gap front },
      buffers_held xs m (suc i) next (from_tail m.buffers i range (placed next (each_of length xs)) f) (right_at m.body at (x ++ gap) rest next (omega (arith, length-append x gap, lg)) h),
    )

pub length-body : (xs : List (List ℕ)) (at : ℕ) → at + length (body_bytes at xs) ≡ body_of at (each_of length xs)
length-body [] at = omega arith
length-body (x ∷ xs) at =
    let next = up_to 64 (at + length x) in
    let gap = zeros (next - (at + length x)) in
    let lg : length gap ≡ next - (at + length x) = length-replicate {A = ℕ} (next - (at + length x)) 0 in
    omega (arith, length-append (x ++ gap) (body_bytes next xs), length-append x gap, lg, length-body xs next)

pub placed_natural : (ns : List ℕ) (at : ℕ) → none_negative (placed at ns) ≡ true
placed_natural [] at = refl
placed_natural (n ∷ ns) at = placed_natural ns (up_to 64 (at + n))

pub placed_inside : (ns : List ℕ) (at : ℕ) → at + lengths_sum (placed at ns) ≤ body_of at ns
placed_inside [] at = omega arith
placed_inside (n ∷ ns) at =
    let next = up_to 64 (at + n) in
    let sum : lengths_sum (placed at (n ∷ ns)) ≡ n + lengths_sum (placed next ns) = sum_by-cons {X = IpcBuffer} (λ x. magnitude x.length) (record { offset = pos at; length = pos n }) (placed next ns) in
    let above : at + n ≤ next = omega arith in
    omega (arith, placed_inside ns next, sum, above)

pub body_above : (ns : List ℕ) (at : ℕ) → at ≤ body_of at ns
body_above [] at = omega arith
body_above (n ∷ ns) at = omega (arith, body_above ns (up_to 64 (at + n)))

pub placed_fits : (ns : List ℕ) (at : ℕ) → body_of at ns < 2 ^ 63 → AllByRecursion BufferFits (placed at ns)
placed_fits [] at h = tt
placed_fits (n ∷ ns) at h = let above = body_above ns (up_to 64 (at + n)) in ((fits_pos at (omega (arith, above, h)), fits_pos n (omega (arith, above, h))), placed_fits ns (up_to 64 (at + n)) h)
