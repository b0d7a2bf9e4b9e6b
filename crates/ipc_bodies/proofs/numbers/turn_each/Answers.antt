use Rattle.std.proofs.Common.{◌≡◌, ◌+◌, ◌-◌, ◌*◌, ◌/◌, ◌≤◌, length, sym, ap, ◌∙◌, arith}
use Rattle.std.proofs.Math.Nat.{mul-le-mul_left}
use Rattle.arrow_types.specs.Physical.{primitive_size}
use Rattle.ipc_bodies.proofs.Turning.{count_whole, turn_step}
use Rattle.ipc_bodies.proofs.numbers.turn_each.Goals as goal

pub loop-i-preserved : goal.loop-i-preserved
loop-i-preserved c =
    let w = c.args.width in
    let i = c.loop-i.i in
    let n = length c.args.numbers.now in
    let e : w ≡ primitive_size c.args.primitive = sym c.requires.width in
    let below : i + 1 ≤ n / w = omega (arith, c.loop-i-test.true) in
    let inside : w * (i + 1) ≤ w * (n / w) = mul-le-mul_left w below in
    let all : primitive_size c.args.primitive * (n / primitive_size c.args.primitive) ≡ n = count_whole _ n c.requires.whole.above c.requires.whole.whole in
    let same : w * (n / w) ≡ n = ap (λ v. v * (n / v)) e ∙ all in
    let size : w * (i + 1) ≡ primitive_size c.args.primitive * (i + 1) = ap (λ v. v * (i + 1)) e in
    turn_step c.args.primitive c.args.numbers.now c.loop-i.numbers c.turn.new.number i (w * i) (w * i + w - w * i) (omega (arith, inside, same, size)) c.loop-i.invariant (ap (λ v. v * i) e) (let k : w * i + w - w * i ≡ w = omega arith in k ∙ e) c.turn.ensures
