use Rattle.std.proofs.Common.{arith, refl, sym, ◌∙◌}
use Rattle.hex_input.proofs.Decoding.{none_decodes, pair_more}
use Rattle.hex_input.proofs.decoder.decode_front.Goals as goal

pub loop-count-init : goal.loop-count-init
loop-count-init c = record { bytes = none_decodes c.args.text.now c.args.bytes.now.items; len = omega arith; capacity = refl }

pub loop-count-preserved : goal.loop-count-preserved
loop-count-preserved c = record {
  bytes = pair_more c.args.text.now c.args.bytes.now.items c.loop-count.bytes.items c.push_reserved.new.self.items c.loop-count.count c.in-Some.byte (omega arith) (sym c.decode_pair.ensures ∙ c.in-Some.is) c.push_reserved.ensures.items c.loop-count.invariant.bytes;
  len = omega (arith, c.push_reserved.ensures.len, c.loop-count.invariant.len);
  capacity = c.push_reserved.ensures.capacity ∙ c.loop-count.invariant.capacity;
}
