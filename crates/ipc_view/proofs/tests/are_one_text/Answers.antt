use Rattle.std.proofs.Common.{◌≡◌, ℕ, suc, ◌-◌, ◌≤◌, length, sym, ap, subst, ◌∙◌, inl, inr, arith}
use Rattle.std.specs.Str.{IsCharBoundary}
use Rattle.std.proofs.lemmas.Bool.{cases_eq}
use Rattle.std.proofs.lemmas.Str.{IsCharBoundary-end}
use Rattle.view_types.specs.Views.{order_of}
use Rattle.ipc_view.specs.Tests.{offset_place}
use Rattle.arrow_buffers.proofs.OneText.{between_text}
use Rattle.ipc_view.proofs.Rising.{last_within, rising}
use Rattle.ipc_view.proofs.tests.are_one_text.Goals as goal

pub bytes_between-used-requires-clause-rise : goal.bytes_between-used-requires-clause-rise
bytes_between-used-requires-clause-rise c =
    let order = order_of c.args.is_big_endian in
    omega (arith, c.offset_at-first.ensures, c.offset_at-last.ensures, rising c.args.offsets.now c.args.is_large order c.args.rows (length c.args.values.now) c.requires.fit 0 c.args.rows (omega arith) (omega arith))

pub bytes_between-used-requires-clause-within : goal.bytes_between-used-requires-clause-within
bytes_between-used-requires-clause-within c = omega (arith, c.offset_at-last.ensures, last_within c.args.offsets.now c.args.is_large (order_of c.args.is_big_endian) c.args.rows (length c.args.values.now) c.requires.fit)

pub overflow_sub-place : goal.overflow_sub-place
overflow_sub-place c =
    let order = order_of c.args.is_big_endian in
    omega (arith, c.offset_at-first.ensures, c.offset_at-place.ensures, rising c.args.offsets.now c.args.is_large order c.args.rows (length c.args.values.now) c.requires.fit 0 c.loop-row.row (omega arith) (omega (arith, c.loop-row-test.true)))

pub is_boundary-requires : goal.is_boundary-requires
is_boundary-requires c =
    let order = order_of c.args.is_big_endian in
    omega (arith, c.bytes_between-used.ensures.size, c.offset_at-last.ensures, c.offset_at-place.ensures, rising c.args.offsets.now c.args.is_large order c.args.rows (length c.args.values.now) c.requires.fit c.loop-row.row c.args.rows (omega (arith, c.loop-row-test.true)) (omega arith))

pub loop-row-preserved : goal.loop-row-preserved
loop-row-preserved c =
    let place : ℕ → ℕ = offset_place c.args.offsets.now c.args.is_large (order_of c.args.is_big_endian) in
    let here : c.offset_at-place.result ≡ place c.loop-row.row = c.offset_at-place.ensures in
    λ k h. elim (cases_eq k c.loop-row.row) [
      | inl e ↦ subst (λ n. IsCharBoundary c.bytes_between-used.result.now (n - c.offset_at-first.result)) (here ∙ sym (ap place e)) (c.is_boundary.ensures c.if-not-is_boundary.false)
      | inr e ↦ c.loop-row.invariant k (omega arith)
    ]

pub returns : goal.returns
returns c = λ t row h.
    let order = order_of c.args.is_big_endian in
    let limit = length c.args.values.now in
    let place : ℕ → ℕ = offset_place c.args.offsets.now c.args.is_large order in
    let used = c.bytes_between-used.result.now in
    let first = c.offset_at-first.result in
    let last = c.offset_at-last.result in
    let rise = rising c.args.offsets.now c.args.is_large order c.args.rows limit c.requires.fit in
    let a : first ≤ place row = omega (arith, c.offset_at-first.ensures, rise 0 row (omega arith) (omega (arith, h))) in
    let b : place row ≤ place (suc row) = rise row (suc row) (omega arith) (omega (arith, h)) in
    let d : place (suc row) ≤ last = omega (arith, c.offset_at-last.ensures, rise (suc row) c.args.rows (omega (arith, h)) (omega arith)) in
    let end : IsCharBoundary used (place (suc row) - first) =
    elim (cases_eq (suc row) c.args.rows) [
      | inl e ↦
          let n : length used ≡ place (suc row) - first = c.bytes_between-used.ensures.size ∙ ap (λ k. k - first) (c.offset_at-last.ensures ∙ sym (ap place e)) in
          subst (IsCharBoundary used) n (IsCharBoundary-end used)
      | inr e ↦ c.loop-row.invariant (suc row) (omega arith)
    ] in
    between_text c.args.values.now used first last (place row) (place (suc row)) c.bytes_between-used.ensures.bytes a b d (sym c.is_text.ensures ∙ c.if-not-is_text.false) (c.loop-row.invariant row (omega arith)) end
