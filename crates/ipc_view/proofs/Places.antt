-- Places behind one another, and the view counts between them.
use Rattle.std.proofs.Common.{◌≡◌, ℕ, ◌+◌, ◌-◌, ◌≤◌, [], length, take, drop, false, refl, sym, subst, arith}
use Rattle.std.specs.Prelude.{nat_lt}
use Rattle.std.proofs.lemmas.Bool.{le-ltb, ltb-false}
use Rattle.arrow_spec.specs.declared.error.IpcError.TheVariants.{OutOfSpec}
use Rattle.arrow_spec.specs.declared.error.OutOfSpecKind.TheVariants.{MissingVariadicCount, UnexpectedNegativeInteger}
use Rattle.arrow_spec.specs.Kinds.{Kind}
use Rattle.arrow_spec.specs.Counts.{RecordBatch, Place, after, inside, views}
use Rattle.arrow_spec.specs.Faults.{cause, some_negative, view_count_faults}
use Rattle.arrow_spec.proofs.Fewer.{cause-none, cause-false, none_both, none_first, none_second}
use Rattle.ipc_read.proofs.Places.{natural_then}
use Rattle.ipc_view.specs.Nested.{CountsAre}

few : (p v : ℕ) → (p + v) - p ≡ v
few p v = omega arith

-- the view counts of an array that are there
pub counts_of : (m : RecordBatch) (k : Kind) (p : Place) → view_count_faults m k p ≡ [] → CountsAre m p (after m k p)
counts_of m k p h =
    let missing = cause (nat_lt (length m.variadic) (p.view + views k)) (OutOfSpec MissingVariadicCount) in
    let negative = cause (some_negative (take (views k) (drop p.view m.variadic))) (OutOfSpec UnexpectedNegativeInteger) in
    record {
      order = omega arith;
      within = ltb-false (length m.variadic) (p.view + views k) (cause-none _ _ (none_first missing negative h));
      natural = subst (λ n. some_negative (take n (drop p.view m.variadic)) ≡ false) (sym (few p.view (views k))) (cause-none _ _ (none_second missing negative h));
    }

pub counts_none : (m : RecordBatch) (k : Kind) (p : Place) → CountsAre m p (after m k p) → view_count_faults m k p ≡ []
counts_none m k p c =
    none_both (cause (nat_lt (length m.variadic) (p.view + views k)) (OutOfSpec MissingVariadicCount)) (cause (some_negative (take (views k) (drop p.view m.variadic))) (OutOfSpec UnexpectedNegativeInteger))
    (cause-false _ _ (le-ltb (length m.variadic) (p.view + views k) c.within))
    (cause-false _ _ (subst (λ n. some_negative (take n (drop p.view m.variadic)) ≡ false) (few p.view (views k)) c.natural))

pub counts_then : (m : RecordBatch) (p q r : Place) → CountsAre m p q → CountsAre m q r → CountsAre m p r
counts_then m p q r a b = record { order = omega (arith, a.order, b.order); within = b.within; natural = natural_then m p q r a.order b.order a.natural b.natural }

pub counts_here : (m : RecordBatch) (p : Place) → p.view ≤ length m.variadic → CountsAre m p p
counts_here m p h = record { order = omega arith; within = h; natural = let e : 0 ≡ p.view - p.view = omega arith in subst (λ n. some_negative (take n (drop p.view m.variadic)) ≡ false) e refl }

-- an array's children stand inside it
pub counts_inside : (m : RecordBatch) (own : ℕ) (p q : Place) → CountsAre m (inside own p) q → CountsAre m p q
counts_inside m own p q c = record { order = c.order; within = c.within; natural = c.natural }
