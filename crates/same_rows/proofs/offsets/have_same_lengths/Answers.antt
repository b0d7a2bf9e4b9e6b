use Rattle.std.proofs.Common.{◌+◌, ap, arith}
use Rattle.arrow_types.specs.Physical.{physical_of}
use Rattle.arrow_buffers.specs.Layouts.{is_variable}
use Rattle.arrow_buffers.specs.Variable.{place_at}
use Rattle.same_rows.proofs.SameBytes.{no_lengths, one_more_length, rows_rise}
use Rattle.same_rows.proofs.offsets.have_same_lengths.Goals as goal

pub overflow_sub-place : goal.overflow_sub-place
overflow_sub-place g c =
    let p = c.args.a.now in
    let from = c.args.from in
    let up = rows_rise g.V.ViewType.IS_TEXT (is_variable g.V.ViewType.IS_TEXT g.O.Offset.IS_LARGE (physical_of p.kind)) p from (from + c.loop-i.i + 1) c.len-held.ensures.sound (omega arith) (omega (arith, c.requires.a)) in
    let first = ap (λ os. place_at os from) c.offsets-places.ensures in
    let place = ap (λ os. place_at os (from + c.loop-i.i + 1)) c.offsets-places.ensures in
    omega (arith, up, first, place, c.place_of-first.ensures.place, c.place_of-place.ensures.place)

pub overflow_sub-other : goal.overflow_sub-other
overflow_sub-other g c =
    let q = c.args.b.now in
    let start = c.args.start in
    let up = rows_rise g.V.ViewType.IS_TEXT (is_variable g.V.ViewType.IS_TEXT g.O.Offset.IS_LARGE (physical_of q.kind)) q start (start + c.loop-i.i + 1) c.len-others.ensures.sound (omega arith) (omega (arith, c.requires.b)) in
    let second = ap (λ os. place_at os start) c.offsets-others.ensures in
    let other = ap (λ os. place_at os (start + c.loop-i.i + 1)) c.offsets-others.ensures in
    omega (arith, up, second, other, c.place_of-second.ensures.place, c.place_of-other.ensures.place)

pub loop-i-init : goal.loop-i-init
loop-i-init g c = no_lengths c.args.a.now.offsets c.args.b.now.offsets c.args.from c.args.start

pub loop-i-preserved : goal.loop-i-preserved
loop-i-preserved g c =
    let xs = c.args.a.now.offsets in
    let ys = c.args.b.now.offsets in
    let from = c.args.from in
    let start = c.args.start in
    let i = c.loop-i.i in
    let first = ap (λ os. place_at os from) c.offsets-places.ensures in
    let second = ap (λ os. place_at os start) c.offsets-others.ensures in
    let place = ap (λ os. place_at os (from + i + 1)) c.offsets-places.ensures in
    let other = ap (λ os. place_at os (start + i + 1)) c.offsets-others.ensures in
    one_more_length xs ys from start i c.loop-i.invariant (omega (arith, first, second, place, other, c.place_of-first.ensures.place, c.place_of-second.ensures.place, c.place_of-place.ensures.place, c.place_of-other.ensures.place, c.if-place-first.false))
