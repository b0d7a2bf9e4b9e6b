-- What is wrong with the parts of an array of views.
use Rattle.std.proofs.Common.{◌≡◌, ℕ, ℤ, zero, suc, ◌+◌, List, [], ◌∷◌, ◌++◌, length, take, drop, Some, Bool, true, false, inl, refl, sym, ap, subst, ◌∙◌}
use Rattle.std.specs.Prelude.{nat_lt, slice_get}
use Rattle.arrow_spec.specs.declared.error.IpcError.{IpcError}
use Rattle.arrow_spec.specs.declared.error.IpcError.TheVariants.{OutOfSpec, Unsupported}
use Rattle.arrow_spec.specs.declared.error.OutOfSpecKind.TheVariants.{MissingVariadicCount, UnexpectedNegativeInteger}
use Rattle.arrow_spec.specs.declared.error.Feature.TheVariants.{ViewBigEndian}
use Rattle.arrow_spec.specs.Readings.{Refuses}
use Rattle.arrow_spec.specs.Kinds.{binary_view}
use Rattle.arrow_spec.specs.Counts.{RecordBatch, Place, count_at, is_negative}
use Rattle.arrow_spec.specs.Faults.{cause, data_faults, fixed_faults, if_sound, is_big, numbers_faults, some_negative, validity_faults, view_count_faults, view_parts_faults}
use Rattle.arrow_spec.proofs.Fewer.{sound_both}
use Rattle.ipc_read.proofs.Refusals.{among_cause, both_none, refuses_left, refuses_right, refuses_sound}
use Rattle.view_types.specs.Views.{order_of}

abbrev order_causes : RecordBatch → List IpcError
order_causes m = cause (is_big m.order) (Unsupported ViewBigEndian)

abbrev rest : RecordBatch → Place → List IpcError
rest m p = if_sound (view_count_faults m binary_view p) (data_faults m p (count_at m p.view))

pub order_refused : (m : RecordBatch) (p : Place) (rows : ℕ) (b : Bool) → m.order ≡ order_of b → b ≡ true → Refuses (Unsupported ViewBigEndian) (view_parts_faults m p rows)
unfolding view_parts_faults
order_refused m p rows b o e =
    let big : is_big m.order ≡ true = ap is_big o ∙ ap (λ x. is_big (order_of x)) e in
    refuses_left (order_causes m ++ fixed_faults m p 16 rows) (rest m p) (Unsupported ViewBigEndian) (refuses_left (order_causes m) (fixed_faults m p 16 rows) (Unsupported ViewBigEndian) (rw big (inl refl)))

pub bits_refused : (m : RecordBatch) (p : Place) (rows : ℕ) (e : IpcError) → Refuses e (validity_faults m p rows) → Refuses e (view_parts_faults m p rows)
unfolding view_parts_faults
bits_refused m p rows e h =
    refuses_left (order_causes m ++ fixed_faults m p 16 rows) (rest m p) e (refuses_right (order_causes m) (fixed_faults m p 16 rows) e (refuses_left (validity_faults m p rows) (numbers_faults m (p.buffer + 1) 16 rows) e h))

pub views_refused : (m : RecordBatch) (p : Place) (rows : ℕ) (e : IpcError) → Refuses e (numbers_faults m (p.buffer + 1) 16 rows) → Refuses e (view_parts_faults m p rows)
unfolding view_parts_faults
views_refused m p rows e h =
    refuses_left (order_causes m ++ fixed_faults m p 16 rows) (rest m p) e (refuses_right (order_causes m) (fixed_faults m p 16 rows) e (refuses_right (validity_faults m p rows) (numbers_faults m (p.buffer + 1) 16 rows) e h))

pub count_refused : (m : RecordBatch) (p : Place) (rows : ℕ) (e : IpcError) → Refuses e (view_count_faults m binary_view p) → Refuses e (view_parts_faults m p rows)
unfolding view_parts_faults
count_refused m p rows e h = refuses_right (order_causes m ++ fixed_faults m p 16 rows) (rest m p) e (refuses_sound (view_count_faults m binary_view p) (data_faults m p (count_at m p.view)) e h)

sound_is : (es fs : List IpcError) → es ≡ [] → fs ≡ if_sound es fs
sound_is es fs h = rw h refl

pub data_refused : (m : RecordBatch) (p : Place) (rows n : ℕ) (e : IpcError) → view_count_faults m binary_view p ≡ [] → n ≡ count_at m p.view → Refuses e (data_faults m p n) → Refuses e (view_parts_faults m p rows)
unfolding view_parts_faults
data_refused m p rows n e fine is h =
    refuses_right (order_causes m ++ fixed_faults m p 16 rows) (rest m p) e
    (subst (λ es. Refuses e es) (sound_is (view_count_faults m binary_view p) (data_faults m p (count_at m p.view)) fine) (subst (λ k. Refuses e (data_faults m p k)) is h))

pub parts_fine : (m : RecordBatch) (p : Place) (rows n : ℕ) (b : Bool) → m.order ≡ order_of b → b ≡ false → validity_faults m p rows ≡ [] → numbers_faults m (p.buffer + 1) 16 rows ≡ [] → view_count_faults m binary_view p ≡ [] → n ≡ count_at m p.view → data_faults m p n ≡ []
    → view_parts_faults m p rows ≡ []
unfolding view_parts_faults
parts_fine m p rows n b o e bits views count is fine =
    let little : is_big m.order ≡ false = ap is_big o ∙ ap (λ x. is_big (order_of x)) e in
    both_none (order_causes m ++ fixed_faults m p 16 rows) (rest m p)
    (both_none (order_causes m) (fixed_faults m p 16 rows) (ap (λ x. cause x (Unsupported ViewBigEndian)) little) (both_none (validity_faults m p rows) (numbers_faults m (p.buffer + 1) 16 rows) bits views))
    (sound_both (view_count_faults m binary_view p) (data_faults m p (count_at m p.view)) count (ap (data_faults m p) (sym is) ∙ fine))

-- a count below 0
negative_among : (xs : List ℤ) (i : ℕ) (x : ℤ) → slice_get xs i ≡ Some x → is_negative x ≡ true → some_negative (take 1 (drop i xs)) ≡ true
negative_among [] zero x h n = cc
negative_among [] (suc i) x h n = cc
negative_among (y ∷ ys) zero x h n = let e : y ≡ x = cc in let f : is_negative y ≡ true = ap is_negative e ∙ n in rw f refl
negative_among (y ∷ ys) (suc i) x h n = negative_among ys i x h n

pub negative_count : (m : RecordBatch) (p : Place) (x : ℤ) → slice_get m.variadic p.view ≡ Some x → is_negative x ≡ true → Refuses (OutOfSpec UnexpectedNegativeInteger) (view_count_faults m binary_view p)
negative_count m p x h n =
    refuses_right (cause (nat_lt (length m.variadic) (p.view + 1)) (OutOfSpec MissingVariadicCount)) (cause (some_negative (take 1 (drop p.view m.variadic))) (OutOfSpec UnexpectedNegativeInteger)) (OutOfSpec UnexpectedNegativeInteger)
    (among_cause (some_negative (take 1 (drop p.view m.variadic))) (OutOfSpec UnexpectedNegativeInteger) (negative_among m.variadic p.view x h n))
