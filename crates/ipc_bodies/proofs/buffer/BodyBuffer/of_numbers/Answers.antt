use Rattle.std.proofs.Common.{◌≡◌, ◌<◌, length, not, ap, sym, subst, ◌∙◌}
use mathlib.Core.Bool.{Bool, true, false, beq}
use Rattle.arrow_spec.specs.Flat.{order_by}
use Rattle.arrow_types.specs.Physical.{primitive_size}
use Rattle.ipc_bodies.specs.Pieces.{turned}
use Rattle.ipc_bodies.proofs.Fitting.{read_fit}
use Rattle.ipc_bodies.proofs.Turning.{size_of, turned_law, turned_numbers}
use Rattle.ipc_bodies.proofs.buffer.BodyBuffer.of_numbers.Goals as goal

other_order : (held wanted : Bool) → not (beq held wanted) ≡ false → order_by (not held) ≡ order_by wanted → ⊥
other_order true true e f = cc
other_order true false e f = cc
other_order false true e f = cc
other_order false false e f = cc

pub returns-clause-bytes : goal.returns-clause-bytes
returns-clause-bytes g c =
    let laws = g.met.T.NativeType in
    let p = g.T.NativeType.PRIMITIVE in
    let write = g.T.NativeType.written in
    let held = order_by (not c.in_ok-bytes.is_big_endian) in
    let wanted = order_by c.args.is_little_endian in
    let size = size_of write p g.T.NativeType.WIDTH laws.sized laws.writes_width in
    let above : 0 < primitive_size p = subst (λ n. 0 < n) (sym laws.sized) laws.above in
    let law = turned_law write p held wanted (other_order c.in_ok-bytes.is_big_endian c.args.is_little_endian c.if-is_big_endian-is_little_endian.false) c.requires.turned size in
    c.new.ensures ∙ ap (λ q. turned q c.in_ok-bytes.bytes) c.PRIMITIVE.ensures ∙ ap (turned p) c.in_ok-bytes.ensures.bytes ∙ turned_numbers p (write held) (write wanted) above (size held) law c.args.numbers.now

pub returns-then-is_big_endian-is_little_endian-clause-fit : goal.returns-then-is_big_endian-is_little_endian-clause-fit
returns-then-is_big_endian-is_little_endian-clause-fit g c =
    read_fit g.T.NativeType.read g.T.NativeType.fits g.T.NativeType.WIDTH (order_by (not c.in_ok-bytes.is_big_endian)) c.in_ok-bytes.bytes (length c.args.numbers.now) c.args.numbers.now c.in_ok-bytes.ensures.small c.in_ok-bytes.ensures.items

pub returns-clause-fit : goal.returns-clause-fit
returns-clause-fit g c =
    read_fit g.T.NativeType.read g.T.NativeType.fits g.T.NativeType.WIDTH (order_by (not c.in_ok-bytes.is_big_endian)) c.in_ok-bytes.bytes (length c.args.numbers.now) c.args.numbers.now c.in_ok-bytes.ensures.small c.in_ok-bytes.ensures.items
