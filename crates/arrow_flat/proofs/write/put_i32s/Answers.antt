use Rattle.std.proofs.Common.{get_or, pos, SFits, arith, rules}
use Rattle.std.specs.Int.{w32}
use Rattle.arrow_flat.proofs.Numbers.{number_step}
use Rattle.arrow_flat.proofs.write.put_i32s.Goals as goal

pub loop-number-preserved : goal.loop-number-preserved
loop-number-preserved c =
    let l = c.loop-number in
    let fits : SFits w32 (get_or c.args.numbers.now l.number-index (pos 0)) = search rules in
    record {
      bytes = number_step w32 c.args.numbers.now l.number-index _ l.out.items c.extend_from_slice.new.self.items c.to_le_bytes.result (omega arith) fits l.invariant.bytes c.to_le_bytes.ensures c.in_ok-extend_from_slice.ensures.items;
      len = let h = c.to_le_bytes.ensures in grind arith;
    }
