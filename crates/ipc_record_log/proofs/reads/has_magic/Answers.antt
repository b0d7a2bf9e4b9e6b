use Rattle.std.proofs.Common.{◌≡◌, ℕ, take, inr, refl, ◌∙◌, ap, arith}
use Rattle.ipc_record_log.specs.Records.{magic}
use Rattle.ipc_record_log.proofs.Walking.{no_magic, not_equal, size_is, stands, too_few}
use Rattle.ipc_record_log.proofs.reads.has_magic.Goals as goal

pub returns-then-size-lt8-clause-err : goal.returns-then-size-lt8-clause-err
returns-then-size-lt8-clause-err g c = inr (refl, λ b told. too_few b (omega (arith, size_is _ c.args.size b c.requires.size told)))

pub returns-then-ne-clause-err : goal.returns-then-ne-clause-err
returns-then-ne-clause-err g c = inr (
  refl,
  λ b told.
      let there = stands _ 0 c.read_all.new.out b c.in_ok-read_all.ensures.bytes told in
      let read : c.read_all.new.out ≡ take 8 b = there.1 ∙ ap (λ (n : ℕ). take n b) c.read_all.auto.out in
      no_magic b (λ is. not_equal c.read_all.new.out magic c.ne.result c.ne.ensures c.if-ne.true (read ∙ is)),
)
