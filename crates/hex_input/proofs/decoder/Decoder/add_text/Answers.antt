use Rattle.std.proofs.Common.{◌+◌, arith, take}
use Rattle.hex_input.specs.Decoding.{Follows, no_white}
use Rattle.hex_input.proofs.Decoding.{adds_behind, text_more}
use Rattle.hex_input.proofs.decoder.Decoder.add_text.Goals as goal

pub fronts-preserved : goal.fronts-preserved
fronts-preserved c =
    let at = c.fronts.at in
    let count = c.in_ok-at.field-0 in
    let text = c.args.text.now in
    record {
      adds = adds_behind (Follows c.args.self.now) (Follows c.fronts.self) (Follows c.add_front.new.self) (no_white (take at text)) _ (no_white (take (at + count) text)) c.fronts.invariant.adds c.in_ok-at.ensures.adds (text_more text at count);
      within = omega (arith, c.in_ok-at.ensures.within);
    }
