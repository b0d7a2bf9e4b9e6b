use Rattle.std.proofs.Common.{◌≡◌, map, not, ap, sym, subst, ◌∙◌, refl}
use mathlib.Core.Bool.{Bool, true, false, beq}
use Rattle.arrow_spec.specs.Flat.{order_by}
use Rattle.arrow_types.specs.Numbers.{offsets_by}
use Rattle.ipc_bodies.specs.Pieces.{offset_bytes, held_offsets, AreCounted}
use Rattle.ipc_bodies.proofs.Counted.{of_numbers, stand_already}
use Rattle.ipc_bodies.proofs.Fitting.{held_below}
use Rattle.ipc_bodies.proofs.buffer.BodyBuffer.of_offsets.Goals as goal

same_order : (held wanted : Bool) → not (beq held wanted) ≡ true → order_by (not held) ≡ order_by wanted
same_order true true e = cc
same_order true false e = refl
same_order false true e = refl
same_order false false e = cc

pub returns-then-is_big_endian-is_little_endian-clause-bytes : goal.returns-then-is_big_endian-is_little_endian-clause-bytes
returns-then-is_big_endian-is_little_endian-clause-bytes g c =
    let large = g.O.Offset.IS_LARGE in
    let order = order_by (not c.in_ok-bytes.is_big_endian) in
    let laws = g.met.O.Offset.reads_offsets in
    let k = of_numbers g.O.NativeType.read g.O.Offset.number g.O.Offset.IS_LARGE order g.O.NativeType.WIDTH c.in_ok-bytes.bytes c.args.offsets.now c.args.limit c.place_of-first.result laws.sized (laws.reads order) c.in_ok-bytes.ensures.items c.in_ok-bytes.ensures.size c.requires c.ranges.limit.fits c.place_of-first.ensures.place in
    let counted : AreCounted large order c.in_ok-bytes.bytes c.args.limit 0 = subst (AreCounted large order c.in_ok-bytes.bytes c.args.limit) c.if-first-eq0.true k.counted in
    sym (stand_already large order c.in_ok-bytes.bytes c.args.limit counted c.in_ok-bytes.ensures.small)
    ∙ ap (offset_bytes order (offsets_by large)) k.same
    ∙ ap (λ o. offset_bytes o (offsets_by large) (map g.O.Offset.number c.args.offsets.now)) (same_order c.in_ok-bytes.is_big_endian c.args.is_little_endian c.if-is_big_endian-is_little_endian.true)

pub new-offsets-requires : goal.new-offsets-requires
new-offsets-requires g c =
    let order = order_by (not c.in_ok-bytes.is_big_endian) in
    let laws = g.met.O.Offset.reads_offsets in
    let k = of_numbers g.O.NativeType.read g.O.Offset.number g.O.Offset.IS_LARGE order g.O.NativeType.WIDTH c.in_ok-bytes.bytes c.args.offsets.now c.args.limit c.place_of-first.result laws.sized (laws.reads order) c.in_ok-bytes.ensures.items c.in_ok-bytes.ensures.size c.requires c.ranges.limit.fits c.place_of-first.ensures.place in
    rw c.IS_LARGE.ensures k.counted

pub returns-clause-bytes : goal.returns-clause-bytes
returns-clause-bytes g c =
    let wanted = order_by c.args.is_little_endian in
    let order = order_by (not c.in_ok-bytes.is_big_endian) in
    let laws = g.met.O.Offset.reads_offsets in
    let k = of_numbers g.O.NativeType.read g.O.Offset.number g.O.Offset.IS_LARGE order g.O.NativeType.WIDTH c.in_ok-bytes.bytes c.args.offsets.now c.args.limit c.place_of-first.result laws.sized (laws.reads order) c.in_ok-bytes.ensures.items c.in_ok-bytes.ensures.size c.requires c.ranges.limit.fits c.place_of-first.ensures.place in
    c.new-offsets.ensures
    ∙ ap (λ l. offset_bytes wanted (offsets_by l) (held_offsets l order c.in_ok-bytes.bytes)) c.IS_LARGE.ensures
    ∙ ap (offset_bytes wanted (offsets_by g.O.Offset.IS_LARGE)) k.same

pub returns-then-is_big_endian-is_little_endian-clause-below : goal.returns-then-is_big_endian-is_little_endian-clause-below
returns-then-is_big_endian-is_little_endian-clause-below g c =
    let order = order_by (not c.in_ok-bytes.is_big_endian) in
    let laws = g.met.O.Offset.reads_offsets in
    let k = of_numbers g.O.NativeType.read g.O.Offset.number g.O.Offset.IS_LARGE order g.O.NativeType.WIDTH c.in_ok-bytes.bytes c.args.offsets.now c.args.limit c.place_of-first.result laws.sized (laws.reads order) c.in_ok-bytes.ensures.items c.in_ok-bytes.ensures.size c.requires c.ranges.limit.fits c.place_of-first.ensures.place in
    held_below g.O.Offset.IS_LARGE order c.in_ok-bytes.bytes (map g.O.Offset.number c.args.offsets.now) c.in_ok-bytes.ensures.small k.same

pub returns-clause-below : goal.returns-clause-below
returns-clause-below g c =
    let order = order_by (not c.in_ok-bytes.is_big_endian) in
    let laws = g.met.O.Offset.reads_offsets in
    let k = of_numbers g.O.NativeType.read g.O.Offset.number g.O.Offset.IS_LARGE order g.O.NativeType.WIDTH c.in_ok-bytes.bytes c.args.offsets.now c.args.limit c.place_of-first.result laws.sized (laws.reads order) c.in_ok-bytes.ensures.items c.in_ok-bytes.ensures.size c.requires c.ranges.limit.fits c.place_of-first.ensures.place in
    held_below g.O.Offset.IS_LARGE order c.in_ok-bytes.bytes (map g.O.Offset.number c.args.offsets.now) c.in_ok-bytes.ensures.small k.same
