-- Buffers behind one another, as many as a count says.
use Rattle.std.proofs.Common.{◌≡◌, ℕ, zero, suc, ◌+◌, ◌-◌, ◌≤◌, ◌<◌, List, [], ◌∷◌, ◌++◌, length, drop, Some, Result, ℤ, pos, negsuc, ◌≤ℤ◌, false, refl, sym, ap, ◌∙◌, arith, subst, length-drop}
use Rattle.std.specs.Prelude.{nat_lt, slice_get, MatchOption}
use Rattle.std.specs.Option.{option_to_list}
use Rattle.std.proofs.lemmas.Bool.{le-ltb}
use Rattle.arrow_spec.specs.declared.error.IpcError.{IpcError}
use Rattle.arrow_spec.specs.declared.error.IpcError.TheVariants.{OutOfSpec}
use Rattle.arrow_spec.specs.declared.error.OutOfSpecKind.TheVariants as kinds
use Rattle.arrow_spec.specs.Readings.{IsAmong, Refuses}
use Rattle.arrow_spec.specs.Kinds.{binary_view}
use Rattle.arrow_spec.specs.Counts.{RecordBatch, Place, magnitude_or_0, is_negative, count_at}
use Rattle.arrow_spec.specs.Arrays.{buf, from_on}
use Rattle.arrow_spec.specs.Faults.{cause, range_faults, ranges_faults, view_count_faults}
use Rattle.arrow_spec.specs.Needed.{numbers_from}
use Rattle.ipc_read_laws.specs.Faults.{stated, stated_of}
use Rattle.ipc_read.specs.Queues.{Left}
use Rattle.ipc_read.specs.Sources.{Answers}
use Rattle.ipc_read.specs.DataBuffers.{data_causes, data_of}
use Rattle.ipc_read.proofs.Refusals.{among_left, among_right, refuses_more, both_none, none_of_both, no_cause}

-- ── counts ──

pub count_fine : (m : RecordBatch) (p : Place) (x : ℤ) → Left m.variadic (suc p.view) (drop (suc p.view) m.variadic) → slice_get m.variadic p.view ≡ Some x → is_negative x ≡ false → view_count_faults m binary_view p ≡ []
count_fine m p x l g n = both_none (cause (nat_lt (length m.variadic) (p.view + 1)) (OutOfSpec kinds.MissingVariadicCount)) _ (no_cause _ _ (le-ltb _ _ (omega (arith, l.within)))) (no_cause _ _ (none m.variadic p.view x g n))
  where
    none : (xs : List ℤ) (i : ℕ) (x : ℤ) → slice_get xs i ≡ Some x → is_negative x ≡ false → Rattle.arrow_spec.specs.Faults.some_negative (Rattle.std.specs.Prelude.take 1 (drop i xs)) ≡ false
    none [] zero x h k = cc
    none [] (suc i) x h k = cc
    none (y ∷ ys) zero x h k = let e : y ≡ x = cc in let f : is_negative y ≡ false = ap is_negative e ∙ k in rw f refl
    none (y ∷ ys) (suc i) x h k = none ys i x h k

pub count_value : (m : RecordBatch) (p : Place) (x : ℤ) → slice_get m.variadic p.view ≡ Some x → count_at m p.view ≡ Rattle.arrow_spec.specs.Counts.magnitude x
count_value m p x h = ap magnitude_or_0 h

pub not_negative : (x : ℤ) → pos 0 ≤ℤ x → is_negative x ≡ false
not_negative (pos n) h = refl
not_negative (negsuc n) h = absurd (omega (arith, h))

-- ── reading all ──

at_first : (i : ℕ) → i + 0 ≡ i
at_first i = omega arith

at_next : (i n : ℕ) → i + suc n ≡ suc i + n
at_next i n = omega arith

ranges_among : (m : RecordBatch) (i n count : ℕ) (x : IpcError) → n < count → IsAmong (range_faults m (i + n)) x → IsAmong (ranges_faults m i count) x
ranges_among m i n zero x h a = absurd (omega (arith, h))
ranges_among m i zero (suc k) x h a = among_left (range_faults m i) _ x (subst (λ j. IsAmong (range_faults m j) x) (at_first i) a)
ranges_among m i (suc n) (suc k) x h a = among_right (range_faults m i) _ x (ranges_among m (suc i) n k x (omega (arith, h)) (subst (λ j. IsAmong (range_faults m j) x) (at_next i n) a))

pub ranges_refused : (m : RecordBatch) (i n count : ℕ) (e : IpcError) → n < count → Refuses e (range_faults m (i + n)) → Refuses e (ranges_faults m i count)
ranges_refused m i n count e h r = refuses_more (range_faults m (i + n)) (ranges_faults m i count) e (λ x a. ranges_among m i n count x h a) r

pub stated_more : (m : RecordBatch) (i n count : ℕ) → n < count → stated_of m (numbers_from i n) + stated m (i + n) ≤ stated_of m (numbers_from i count)
stated_more m i n zero h = absurd (omega (arith, h))
stated_more m i zero (suc k) h = let e : stated m (i + 0) ≡ stated m i = ap (stated m) (at_first i) in omega (arith, e)
stated_more m i (suc n) (suc k) h =
    let e : stated m (i + suc n) ≡ stated m (suc i + n) = ap (stated m) (at_next i n) in
    let r = stated_more m (suc i) n k (omega (arith, h)) in
    omega (arith, e, r)

pub stated_next : (m : RecordBatch) (i n : ℕ) → stated_of m (numbers_from i (n + 1)) ≡ stated_of m (numbers_from i n) + stated m (i + n)
stated_next m i n = let e : n + 1 ≡ suc n = omega arith in ap (λ k. stated_of m (numbers_from i k)) e ∙ end m i n
  where
    end : (m : RecordBatch) (i n : ℕ) → stated_of m (numbers_from i (suc n)) ≡ stated_of m (numbers_from i n) + stated m (i + n)
    end m i zero = let e : stated m (i + 0) ≡ stated m i = ap (stated m) (at_first i) in omega (arith, e)
    end m i (suc n) =
        let e : stated m (i + suc n) ≡ stated m (suc i + n) = ap (stated m) (at_next i n) in
        let r = end m (suc i) n in
        omega (arith, e, r)

pub ranges_next : (m : RecordBatch) (i n : ℕ) → ranges_faults m i n ≡ [] → range_faults m (i + n) ≡ [] → ranges_faults m i (n + 1) ≡ []
ranges_next m i n a b = let e : suc n ≡ n + 1 = omega arith in subst (λ k. ranges_faults m i k ≡ []) e (end m i n a b)
  where
    end : (m : RecordBatch) (i n : ℕ) → ranges_faults m i n ≡ [] → range_faults m (i + n) ≡ [] → ranges_faults m i (suc n) ≡ []
    end m i zero a b = both_none (range_faults m i) [] (subst (λ j. range_faults m j ≡ []) (at_first i) b) refl
    end m i (suc n) a b =
        let k = none_of_both (range_faults m i) _ a in
        both_none (range_faults m i) _ k.0 (end m (suc i) n k.1 (subst (λ j. range_faults m j ≡ []) (at_next i n) b))

pub from_on_more : {A : Type 0} → (f : ℕ → A) (i n : ℕ) → from_on f i (n + 1) ≡ from_on f i n ++ f (i + n) ∷ []
from_on_more f i n = let e : n + 1 ≡ suc n = omega arith in ap (from_on f i) e ∙ end f i n
  where
    end : {A : Type 0} → (f : ℕ → A) (i n : ℕ) → from_on f i (suc n) ≡ from_on f i n ++ f (i + n) ∷ []
    end f i zero = ap (λ j. f j ∷ []) (sym (at_first i))
    end f i (suc n) = rw (end f (suc i) n, at_next i n) refl

-- ── with rows ──

pub left_long : {A : Type 0} → (all : List A) (i count : ℕ) (rest : List A) → Left all i rest → count ≤ length rest → i + count ≤ length all
left_long all i count rest l h =
    let u : length rest ≡ length all - i = ap length l.is ∙ length-drop i all in
    omega (arith, u, h, l.within)

pub data_some : (m : RecordBatch) (i rows count : ℕ) → 0 < rows → i + count ≤ length m.buffers → ranges_faults m i count ≡ data_causes m i rows count
data_some m i zero count h k = absurd (omega (arith, h))
data_some m i (suc n) count h k = let e : nat_lt (length m.buffers) (i + count) ≡ false = le-ltb _ _ k in rw e refl

pub value_some : (m : RecordBatch) (i rows count : ℕ) → 0 < rows → from_on (buf m) i count ≡ data_of m i rows count
value_some m i zero count h = absurd (omega (arith, h))
value_some m i (suc n) count h = refl

pub answers_on : {X Y : Type 0} → (view : X → Y) (r : Result X IpcError) (es fs : List IpcError) (y z : Y) → es ≡ fs → y ≡ z → Answers view r es y → Answers view r fs z
answers_on view r es fs y z e f a = subst (λ gs. Answers view r gs z) e (subst (λ w. Answers view r es w) f a)
