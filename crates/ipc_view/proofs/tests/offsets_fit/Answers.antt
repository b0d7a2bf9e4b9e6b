use Rattle.std.proofs.Common.{ℕ, suc, ◌+◌, ◌≡◌, Bool, false, sym, ap, ◌∙◌, arith}
use Rattle.std.specs.Prelude.{nat_le}
use Rattle.std.proofs.lemmas.Bool.{lt-ltb, le-ltb, or_from}
use Rattle.arrow_spec.specs.Faults.{some_row}
use Rattle.view_types.specs.Views.{order_of}
use Rattle.ipc_view.specs.Tests.{has_fallen, is_below_zero, offset_place}
use Rattle.arrow_buffers.proofs.Rows.{none_more, some_at}
use Rattle.ipc_view.proofs.Rising.{bad_first, bad_second, last_decides}
use Rattle.ipc_view.proofs.tests.offsets_fit.Goals as goal

pub returns-then-is_offset_negative : goal.returns-then-is_offset_negative
returns-then-is_offset_negative c =
    let order = order_of c.args.is_big_endian in
    let below : ℕ → Bool = is_below_zero c.args.offsets.now c.args.is_large order in
    bad_first _ _ _ (some_at below (suc c.args.rows) 0 (omega arith) (sym c.is_offset_negative.ensures ∙ c.if-is_offset_negative.true))

pub returns-then-is_offset_negative-2 : goal.returns-then-is_offset_negative-2
returns-then-is_offset_negative-2 c =
    let order = order_of c.args.is_big_endian in
    let below : ℕ → Bool = is_below_zero c.args.offsets.now c.args.is_large order in
    bad_first _ _ _ (some_at below (suc c.args.rows) (c.loop-j.j + 1) (omega (arith, c.loop-j-test.true)) (sym c.is_offset_negative-in-loop-j.ensures ∙ c.if-is_offset_negative-2.true))

pub returns-then-place-low : goal.returns-then-place-low
returns-then-place-low c =
    let order = order_of c.args.is_big_endian in
    let fallen : ℕ → Bool = has_fallen c.args.offsets.now c.args.is_large order in
    let place : ℕ → ℕ = offset_place c.args.offsets.now c.args.is_large order in
    let next : c.offset_at-place.result ≡ place (suc c.loop-j.j) = c.offset_at-place.ensures ∙ ap place (omega arith) in
    bad_second _ _ _ (some_at fallen c.args.rows c.loop-j.j c.loop-j-test.true (lt-ltb (place (suc c.loop-j.j)) (place c.loop-j.j) (omega (arith, next, c.loop-j.invariant.low, c.if-place-low.true))))

pub loop-j-preserved : goal.loop-j-preserved
loop-j-preserved c =
    let order = order_of c.args.is_big_endian in
    let below : ℕ → Bool = is_below_zero c.args.offsets.now c.args.is_large order in
    let fallen : ℕ → Bool = has_fallen c.args.offsets.now c.args.is_large order in
    let place : ℕ → ℕ = offset_place c.args.offsets.now c.args.is_large order in
    let one : c.loop-j.j + 1 ≡ suc c.loop-j.j = omega arith in
    let next : c.offset_at-place.result ≡ place (suc c.loop-j.j) = c.offset_at-place.ensures ∙ ap place one in
    let sign : below (suc c.loop-j.j) ≡ false = sym (ap below one) ∙ sym c.is_offset_negative-in-loop-j.ensures ∙ c.if-is_offset_negative-2.false in
    let climb : fallen c.loop-j.j ≡ false = le-ltb (place (suc c.loop-j.j)) (place c.loop-j.j) (omega (arith, next, c.loop-j.invariant.low, c.if-place-low.false)) in
    record {
      above = ap (λ n. some_row below (suc n)) one ∙ or_from _ _ c.loop-j.invariant.above sign;
      rise = none_more fallen c.loop-j.j c.loop-j.invariant.rise climb;
      low = c.offset_at-place.ensures;
    }

pub returns : goal.returns
returns c =
    let order = order_of c.args.is_big_endian in
    let offsets = c.args.offsets.now in
    let all : c.loop-j.j ≡ c.args.rows = omega arith in
    let low : c.loop-j.low ≡ offset_place offsets c.args.is_large order c.args.rows = c.loop-j.invariant.low ∙ ap (offset_place offsets c.args.is_large order) all in
    ap (λ n. nat_le n c.args.limit) low
    ∙ last_decides (some_row (is_below_zero offsets c.args.is_large order) (suc c.args.rows)) (some_row (has_fallen offsets c.args.is_large order) c.args.rows) (offset_place offsets c.args.is_large order c.args.rows) c.args.limit
    (ap (λ n. some_row (is_below_zero offsets c.args.is_large order) (suc n)) (sym all) ∙ c.loop-j.invariant.above)
    (ap (some_row (has_fallen offsets c.args.is_large order)) (sym all) ∙ c.loop-j.invariant.rise)
