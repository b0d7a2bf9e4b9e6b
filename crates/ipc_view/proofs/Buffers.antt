-- The buffers to which views lead.
use Rattle.std.proofs.Common.{◌≡◌, ℕ, zero, suc, ◌+◌, ◌≤◌, ◌<◌, List, [], ◌∷◌, ◌++◌, length, map, true, false, inl, refl, sym, ap, ◌∙◌, subst, arith}
use Rattle.std.specs.Prelude.{nat_le}
use Rattle.std.proofs.lemmas.Bool.{le-leb, lt-leb}
use Rattle.arrow_spec.specs.declared.error.IpcError.{IpcError}
use Rattle.arrow_spec.specs.declared.error.IpcError.TheVariants.{OutOfSpec}
use Rattle.arrow_spec.specs.declared.error.OutOfSpecKind.TheVariants.{ExpectedBuffer}
use Rattle.arrow_spec.specs.Readings.{Refuses}
use Rattle.arrow_spec.specs.Counts.{RecordBatch, Place}
use Rattle.arrow_spec.specs.Arrays.{buf, from_on}
use Rattle.arrow_spec.specs.Faults.{data_faults, range_faults, ranges_faults}
use Rattle.ipc_read.proofs.DataReads.{from_on_more, ranges_refused}
use Rattle.view_types.specs.declared.layout.Range.{Range}
use Rattle.view_types.specs.Ranges.{Lies}
use Rattle.view_types.specs.Sound.{AreRanges}
use Rattle.view_types.specs.Views.{part_in}

pub some_missing : (m : RecordBatch) (p : Place) (count : ℕ) → length m.buffers < p.buffer + 2 + count → Refuses (OutOfSpec ExpectedBuffer) (data_faults m p count)
some_missing m p count h = let e : nat_le (p.buffer + 2 + count) (length m.buffers) ≡ false = lt-leb (p.buffer + 2 + count) (length m.buffers) h in rw (e, data_faults) (inl refl)

pub all_there : (m : RecordBatch) (p : Place) (count : ℕ) → p.buffer + 2 + count ≤ length m.buffers → data_faults m p count ≡ ranges_faults m (p.buffer + 2) count
all_there m p count h = let e : nat_le (p.buffer + 2 + count) (length m.buffers) ≡ true = le-leb (p.buffer + 2 + count) (length m.buffers) h in rw (e, data_faults) refl

pub range_refused : (m : RecordBatch) (p : Place) (count n : ℕ) (e : IpcError) → p.buffer + 2 + count ≤ length m.buffers → n < count → Refuses e (range_faults m (p.buffer + 2 + n)) → Refuses e (data_faults m p count)
range_refused m p count n e h l r = subst (λ es. Refuses e es) (sym (all_there m p count h)) (ranges_refused m (p.buffer + 2) n count e l r)

map_more : {A B : Type 0} (f : A → B) (xs : List A) (x : A) → map f (xs ++ x ∷ []) ≡ map f xs ++ f x ∷ []
map_more f [] x = refl
map_more f (y ∷ ys) x = ap (λ r. f y ∷ r) (map_more f ys x)

pub one_more_shown : (m : RecordBatch) (input : List ℕ) (rs : List Range) (r : Range) (i n : ℕ) → map (part_in input) rs ≡ from_on (buf m) i n → part_in input r ≡ buf m (i + n) → map (part_in input) (rs ++ r ∷ []) ≡ from_on (buf m) i (n + 1)
one_more_shown m input rs r i n h e = map_more (part_in input) rs r ∙ ap (λ xs. xs ++ part_in input r ∷ []) h ∙ ap (λ b. from_on (buf m) i n ++ b ∷ []) e ∙ sym (from_on_more (buf m) i n)

pub one_more_lies : (input : List ℕ) (rs : List Range) (r : Range) → AreRanges input rs → Lies input r → AreRanges input (rs ++ r ∷ [])
one_more_lies input [] r h l zero b = l
one_more_lies input [] r h l (suc i) b = absurd (omega (arith, b))
one_more_lies input (x ∷ xs) r h l zero b = h 0 (omega arith)
one_more_lies input (x ∷ xs) r h l (suc i) b = one_more_lies input xs r (λ j k. h (suc j) (omega (arith, k))) l i (omega (arith, b))
