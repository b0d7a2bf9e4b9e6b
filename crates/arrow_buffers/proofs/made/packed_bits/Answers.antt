use Rattle.std.proofs.Common.{◌≡◌, ℕ, suc, ◌+◌, ◌≤◌, ◌<◌, ◌++◌, [], ◌∷◌, List, Bool, false, length, get_or, subst, sym, ap, ◌∙◌, arith}
use Rattle.arrow_buffers.specs.Bits.{with_bit}
use Rattle.arrow_buffers.proofs.Packer.{Packs, goes_on, full, ends_whole, ends_within}
use Rattle.arrow_buffers.proofs.made.packed_bits.Goals as goal
use Rattle.arrow_buffers.proofs.made.packed_bits.Goals.{then-place-eq7+in_ok-push, else-place-eq7, then-place-gt0+in_ok-push-2, else-place-gt0}

pub loop-i-preserved : goal.loop-i-preserved
loop-i-preserved c =
    elim c.if-place-eq7.branch [
      | then-place-eq7+in_ok-push w ↦
          let last = full c.args.bits.now c.loop-i.bytes.items c.loop-i.byte c.loop-i.i (subst (λ p. Packs c.args.bits.now c.loop-i.bytes.items c.loop-i.byte p c.loop-i.i) w.if-place-eq7.true c.loop-i.invariant) c.loop-i-test.true in
          rw (w.bytes-is, w.byte-is, w.place-is, w.in_ok-push.ensures.items, c.with_bit-byte.ensures, w.if-place-eq7.true) last
      | else-place-eq7 w ↦
          let next = goes_on c.args.bits.now c.loop-i.bytes.items c.loop-i.byte c.loop-i.place c.loop-i.i c.loop-i.invariant c.loop-i-test.true (omega (arith, w.if-place-eq7.false, c.loop-i.invariant.few)) in
          rw (w.bytes-is, w.byte-is, w.place-is, c.with_bit-byte.ensures) next
    ]

pub returns : goal.returns
returns c =
    elim c.if-place-gt0.branch [
      | then-place-gt0+in_ok-push-2 w ↦ rw (w.bytes-is, w.in_ok-push-2.ensures.items) (ends_within c.args.bits.now c.loop-i.bytes.items c.loop-i.byte c.loop-i.place c.loop-i.i c.loop-i.invariant c.loop-i-test.false w.if-place-gt0.true)
      | else-place-gt0 w ↦
          let none : c.loop-i.place ≡ 0 = omega (arith, w.if-place-gt0.false) in
          rw w.bytes-is (ends_whole c.args.bits.now c.loop-i.bytes.items c.loop-i.byte c.loop-i.i (subst (λ p. Packs c.args.bits.now c.loop-i.bytes.items c.loop-i.byte p c.loop-i.i) none c.loop-i.invariant) c.loop-i-test.false)
    ]
