use Rattle.std.proofs.Common.{arith, rules, ◌≡◌, ◌^◌, length, length-take, take}
use Rattle.ipc_tool.proofs.Digits.{taken_more, taken_nothing, taken_too_many, taken_whole}
use Rattle.ipc_tool.proofs.input.decode_feed.Goals as goal

pub pieces-init : goal.pieces-init
pieces-init g c = record {
  taken = taken_nothing _ _ c.new-decoder.ensures;
  short = omega arith;
  reads = search rules;
}

pub returns-then-count-eq0-clause-whole : goal.returns-then-count-eq0-clause-whole
returns-then-count-eq0-clause-whole g c =
    taken_whole _ _ _ c.pieces.taken (2 ^ 27) c.in_ok-count.count c.pull.new.out _ c.pieces.invariant.taken c.in_ok-count.ensures.bytes.0 c.if-count-eq0.true (c.in_ok-count.ensures.bytes.1 c.if-count-eq0.true (omega arith)) c.pieces.invariant.short

pub returns-then-count-taken-clause-cause : goal.returns-then-count-taken-clause-cause
returns-then-count-taken-clause-cause g c =
    let size : length (take c.in_ok-count.count c.pull.new.out) ≡ c.in_ok-count.count = omega (arith, length-take c.in_ok-count.count c.pull.new.out, c.in_ok-count.ensures.count.0, c.in_ok-count.ensures.count.1) in
    taken_too_many _ _ _ c.pieces.taken (2 ^ 27) c.in_ok-count.count (take c.in_ok-count.count c.pull.new.out) _ c.pieces.invariant.taken c.in_ok-count.ensures.bytes.0 size (omega arith)

pub pieces-preserved : goal.pieces-preserved
pieces-preserved g c =
    let size : length (take c.in_ok-count.count c.pull.new.out) ≡ c.in_ok-count.count = omega (arith, length-take c.in_ok-count.count c.pull.new.out, c.in_ok-count.ensures.count.0, c.in_ok-count.ensures.count.1) in
    record {
      taken = taken_more _ _ _ c.pieces.taken c.in_ok-count.count (take c.in_ok-count.count c.pull.new.out) _ _ c.pieces.invariant.taken c.in_ok-count.ensures.bytes.0 size c.in_ok-add_text.ensures;
      short = omega arith;
      reads = omega (arith, c.pieces.invariant.reads, c.in_ok-count.ensures.cause.later);
    }
