use Rattle.std.proofs.Common.{◌≡◌, ◌+◌, List, ℕ, take, drop, replicate, inr, refl, sym, ◌∙◌, ap, arith, drop-drop}
use Rattle.std.specs.Int.{w64, from_le_bytes}
use Rattle.std.proofs.lemmas.List.{length-drop}
use Rattle.ipc_record_log.proofs.Walking.{broken, byte_read, only_byte, not_equal, was_equal, short_head, other_zeros, too_long, size_is, stands, whole_record}
use Rattle.ipc_record_log.proofs.reads.record_at.Goals.{then-ne-via-then-ne, then-ne-via-else-ne+then-length-size}
use Rattle.ipc_record_log.proofs.reads.record_at.Goals as goal

pub returns-then-size-at-lt16-clause-err : goal.returns-then-size-at-lt16-clause-err
returns-then-size-at-lt16-clause-err g c = inr (
  refl,
  λ b told.
      let at = c.args.at in
      let there = stands _ at c.read_all.new.out b c.in_ok-read_all.ensures.bytes told in
      let one = c.read_all.auto.out in
      let size = size_is _ c.args.size b c.requires.size told in
      broken b at (omega arith) (sym (byte_read b c.read_all.new.out at there.1 one) ∙ c.if-gate-ne1.false) (short_head (drop (at + 1) b) (omega (arith, length-drop (at + 1) b))),
)

pub returns-then-ne-clause-err : goal.returns-then-ne-clause-err
returns-then-ne-clause-err g c = inr (
  refl,
  λ b told.
      let at = c.args.at in
      let told' = c.in_ok-read_all.ensures.kept.content ∙ told in
      let told'' = c.in_ok-read_all-2.ensures.kept.content ∙ told' in
      let there = stands _ at c.read_all.new.out b c.in_ok-read_all.ensures.bytes told in
      let there' = stands _ (at + 1) c.read_all-2.new.out b c.in_ok-read_all-2.ensures.bytes told' in
      let there'' = stands _ (at + 8) c.read_all-3.new.out b c.in_ok-read_all-3.ensures.bytes told'' in
      let one = c.read_all.auto.out in
      let size = size_is _ c.args.size b c.requires.size told in
      let gate = sym (byte_read b c.read_all.new.out at there.1 one) ∙ c.if-gate-ne1.false in
      let zeros : c.read_all-2.new.out ≡ take 7 (drop (at + 1) b) = there'.1 ∙ ap (λ (n : ℕ). take n (drop (at + 1) b)) c.read_all-2.auto.out in
      let stated : c.read_all-3.new.out ≡ take 8 (drop 7 (drop (at + 1) b)) = there''.1 ∙ ap (λ (n : ℕ). take n (drop (at + 8) b)) c.read_all-3.auto.out ∙ ap (λ (l : List ℕ). take 8 l) (ap (λ (n : ℕ). drop n b) (omega arith) ∙ sym (drop-drop 7 (at + 1) b)) in
      elim c.then-ne.branch [
        | then-ne-via-then-ne w ↦ broken b at (omega arith) gate (other_zeros (drop (at + 1) b) (λ is. not_equal c.read_all-2.new.out (replicate 7 0) c.ne.result c.ne.ensures w.if-ne.true (zeros ∙ is)))
        | then-ne-via-else-ne+then-length-size w ↦
            let n_is : c.stated_length-length.result ≡ from_le_bytes w64 (take 8 (drop 7 (drop (at + 1) b))) = c.stated_length-length.ensures.reads ∙ ap (λ (l : List ℕ). from_le_bytes w64 l) stated in
            let more = w.if-length-size.true in
            broken b at (omega arith) gate (too_long (drop (at + 1) b) (omega (arith, length-drop (at + 1) b, n_is, more)))
      ],
)

pub returns-clause-found : goal.returns-clause-found
returns-clause-found g c = λ b told.
    let at = c.args.at in
    let told' = c.in_ok-read_all.ensures.kept.content ∙ told in
    let told'' = c.in_ok-read_all-2.ensures.kept.content ∙ told' in
    let there = stands _ at c.read_all.new.out b c.in_ok-read_all.ensures.bytes told in
    let there' = stands _ (at + 1) c.read_all-2.new.out b c.in_ok-read_all-2.ensures.bytes told' in
    let there'' = stands _ (at + 8) c.read_all-3.new.out b c.in_ok-read_all-3.ensures.bytes told'' in
    let one = c.read_all.auto.out in
    let size = size_is _ c.args.size b c.requires.size told in
    let gate : c.read_all.new.out ≡ take 1 (drop at b) = there.1 ∙ ap (λ (n : ℕ). take n (drop at b)) one in
    let zeros : c.read_all-2.new.out ≡ take 7 (drop (at + 1) b) = there'.1 ∙ ap (λ (n : ℕ). take n (drop (at + 1) b)) c.read_all-2.auto.out in
    let stated : c.read_all-3.new.out ≡ take 8 (drop (at + 8) b) = there''.1 ∙ ap (λ (n : ℕ). take n (drop (at + 8) b)) c.read_all-3.auto.out in
    whole_record b c.read_all.new.out c.read_all-2.new.out c.read_all-3.new.out at c.stated_length-length.result gate (only_byte c.read_all.new.out 1 one c.if-gate-ne1.false) zeros
    (was_equal c.read_all-2.new.out (replicate 7 0) c.ne.result c.ne.ensures c.if-ne.false) stated c.stated_length-length.ensures.written (omega arith)
