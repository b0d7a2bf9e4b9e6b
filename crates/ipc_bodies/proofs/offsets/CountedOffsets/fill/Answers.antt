use Rattle.std.proofs.Common.{◌≡◌, ◌+◌, ◌-◌, ◌*◌, ◌/◌, length, take, drop, not, sym, ap, ◌∙◌, arith}
use Rattle.std.proofs.lemmas.List.{take_all}
use Rattle.arrow_spec.specs.Flat.{order_by}
use Rattle.arrow_buffers.specs.Rows.{part}
use Rattle.ipc_bodies.proofs.Counted.{own_piece, whole_offsets, at_offset, held_at, count_step, width_by}
use Rattle.ipc_bodies.proofs.offsets.CountedOffsets.fill.Goals as goal

pub slice_bounds-number_of-end : goal.slice_bounds-number_of-end
slice_bounds-number_of-end c =
    let o = c.self.inside in
    let n = length c.args.out.now in
    let piece = own_piece (order_by o.is_little_endian) (order_by (not o.is_big_endian)) o.is_large o.bytes c.args.self.now c.args.at n c.self.invariant.whole c.self.view_is c.requires in
    let here = at_offset o.is_large c.width_of-width.result c.args.at n (length o.bytes) c.loop-i.i c.width_of-width.ensures.width c.self.invariant.whole piece c.loop-i-test.true in
    omega (arith, here.inside, ap length c.as_slice-bytes.ensures)

pub overflow_sub-place : goal.overflow_sub-place
overflow_sub-place c =
    let o = c.self.inside in
    let n = length c.args.out.now in
    let w = c.width_of-width.result in
    let i = c.loop-i.i in
    let order = order_by (not o.is_big_endian) in
    let from = c.args.at + w * i in
    let piece = own_piece (order_by o.is_little_endian) order o.is_large o.bytes c.args.self.now c.args.at n c.self.invariant.whole c.self.view_is c.requires in
    let here = at_offset o.is_large w c.args.at n (length o.bytes) i c.width_of-width.ensures.width c.self.invariant.whole piece c.loop-i-test.true in
    let k : from + w - from ≡ w = omega arith in
    let placed = held_at o.is_large order o.bytes _ o.limit o.first c.args.at n i c.number_of-number.result w (from + w - from) c.width_of-width.ensures.width c.self.invariant here k (ap (λ l. take (from + w - from) (drop from l)) c.as_slice-bytes.ensures) c.number_of-number.ensures.number c.number_of-number.ensures.fits in
    omega (arith, placed.behind, c.self.invariant.starts)

pub loop-i-preserved : goal.loop-i-preserved
loop-i-preserved c =
    let o = c.self.inside in
    let n = length c.args.out.now in
    let w = c.width_of-width.result in
    let i = c.loop-i.i in
    let wanted = order_by o.is_little_endian in
    let order = order_by (not o.is_big_endian) in
    let from = c.args.at + w * i in
    let piece = own_piece wanted order o.is_large o.bytes c.args.self.now c.args.at n c.self.invariant.whole c.self.view_is c.requires in
    let here = at_offset o.is_large w c.args.at n (length o.bytes) i c.width_of-width.ensures.width c.self.invariant.whole piece c.loop-i-test.true in
    let k : from + w - from ≡ w = omega arith in
    let placed = held_at o.is_large order o.bytes _ o.limit o.first c.args.at n i c.number_of-number.result w (from + w - from) c.width_of-width.ensures.width c.self.invariant here k (ap (λ l. take (from + w - from) (drop from l)) c.as_slice-bytes.ensures) c.number_of-number.ensures.number c.number_of-number.ensures.fits in
    let long : length c.loop-i.out ≡ n = c.loop-i.auto.out in
    count_step wanted order o.is_large o.bytes c.args.self.now o.limit o.first c.args.at n i c.number_of-number.result w (w * i) (w * i + w - w * i) c.write_number.new.out c.loop-i.out c.width_of-width.ensures.width c.self.invariant c.self.view_is here placed c.write_number.ensures long (omega arith) c.loop-i.invariant

pub returns : goal.returns
returns c =
    let o = c.self.inside in
    let n = length c.args.out.now in
    let w = c.width_of-width.result in
    let i = c.loop-i.i in
    let piece = own_piece (order_by o.is_little_endian) (order_by (not o.is_big_endian)) o.is_large o.bytes c.args.self.now c.args.at n c.self.invariant.whole c.self.view_is c.requires in
    let whole = whole_offsets o.is_large c.args.at n (length o.bytes) c.self.invariant.whole piece in
    let same : w ≡ width_by o.is_large = c.width_of-width.ensures.width in
    let count : w * (n / w) ≡ n = ap (λ v. v * (n / v)) same ∙ sym whole.count in
    let last : i ≡ n / w = omega (arith, c.loop-i-test.false, c.loop-i.auto.i-end) in
    let all : w * i ≡ n = ap (λ j. w * j) last ∙ count in
    let long : length c.loop-i.out ≡ n = c.loop-i.auto.out in
    sym (take_all (w * i) c.loop-i.out (omega (arith, all, long))) ∙ c.loop-i.invariant ∙ ap (λ j. part c.args.at j c.args.self.now) all
