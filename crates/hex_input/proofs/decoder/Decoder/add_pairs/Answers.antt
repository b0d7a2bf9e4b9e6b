use Rattle.std.proofs.Common.{◌≡◌, None, arith}
use Rattle.hex_input.proofs.Decoding.{front_held}
use Rattle.hex_input.proofs.decoder.Decoder.add_pairs.Goals as goal

pub returns-clause-adds : goal.returns-clause-adds
returns-clause-adds c = λ digits h.
    let none : c.args.self.now.waiting ≡ None = grind (arith, c.is_some.ensures, c.if-is_some.false) in
    front_held c.args.self.now.bytes.items c.reserve.new.self.items c.decode_front-pairs.new.bytes.items c.args.self.now.waiting c.args.self.now.spoiled digits c.args.text.now c.decode_front-pairs.result none c.in_ok-reserve.ensures.items c.decode_front-pairs.ensures.bytes h
