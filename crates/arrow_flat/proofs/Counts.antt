-- How many slots there are, up to the last one that is present.
use Rattle.std.proofs.Common.{◌≡◌, ℕ, zero, suc, ◌+◌, ◌<◌, true, false, arith}
use Rattle.arrow_spec.specs.Layout.{Slots, slot_count, one_more}
use Rattle.arrow_flat.specs.Nodes.{SlotValue, nothing, number, leads_to, in_front, is_nothing}

one_more_none : (n : ℕ) → n ≡ 0 → one_more n ≡ 0
one_more_none zero h = omega arith
one_more_none (suc n) h = absurd (omega (arith, h))

one_more_some : (n : ℕ) → 0 < n → one_more n ≡ n + 1
one_more_some zero h = absurd (omega (arith, h))
one_more_some (suc n) h = omega arith

-- the slots before this one are counted where it or a later one is present
pub record Counted (count here total : ℕ) (s : Slots) : Type 0 where
  pub none_left : slot_count s ≡ 0 → count ≡ total
  pub some_left : 0 < slot_count s → here + slot_count s ≡ total

nothing_step : (s : Slots) (count here total : ℕ) → Counted count here total (in_front nothing s) → Counted count (here + 1) total s
nothing_step s count here total h = record {
  none_left = λ z. h.none_left (one_more_none (slot_count s) z);
  some_left = λ more. let n : slot_count (in_front nothing s) ≡ slot_count s + 1 = one_more_some (slot_count s) more in let e : here + slot_count (in_front nothing s) ≡ total = h.some_left (omega arith) in omega arith;
}

present_step : (s : Slots) (v : SlotValue) (count here total : ℕ) → slot_count (in_front v s) ≡ slot_count s + 1 → Counted count here total (in_front v s) → Counted (here + 1) (here + 1) total s
present_step s v count here total n h =
    let e : here + slot_count (in_front v s) ≡ total = h.some_left (omega arith) in
    record { none_left = λ z. omega arith; some_left = λ more. omega arith }

pub absent_slot : (v : SlotValue) (s t : Slots) (count here total : ℕ) → t ≡ in_front v s → is_nothing v ≡ true → Counted count here total t → Counted count (here + 1) total s
absent_slot nothing s t count here total e h c = nothing_step s count here total (rw e at c)
absent_slot (number w x) s t count here total e h c = absurd (cc h)
absent_slot (leads_to n) s t count here total e h c = absurd (cc h)

pub present_slot : (v : SlotValue) (s t : Slots) (count here total : ℕ) → t ≡ in_front v s → is_nothing v ≡ false → Counted count here total t → Counted (here + 1) (here + 1) total s
present_slot nothing s t count here total e h c = absurd (cc h)
present_slot (number w x) s t count here total e h c = present_step s (number w x) count here total (omega arith) (rw e at c)
present_slot (leads_to n) s t count here total e h c = present_step s (leads_to n) count here total (omega arith) (rw e at c)
