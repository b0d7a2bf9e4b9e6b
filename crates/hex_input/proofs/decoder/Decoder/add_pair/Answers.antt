use Rattle.std.proofs.Common.{sym, ◌∙◌}
use Rattle.hex_input.proofs.Decoding.{pair_held, pair_spoils, spoiled_more}
use Rattle.hex_input.proofs.decoder.Decoder.add_pair.Goals as goal

pub returns-then-self : goal.returns-then-self
returns-then-self c = λ digits h. spoiled_more _ _ _ digits _ c.if-self.true h

pub returns-in_default : goal.returns-in_default
returns-in_default c = λ digits h. pair_spoils c.args.self.now.bytes.items c.args.self.now.waiting digits c.args.high c.args.low (cc (c.decode_pair.ensures, c.in_default.is))

pub returns : goal.returns
returns c = λ digits h. pair_held c.args.self.now.bytes.items c.push.new.self.items c.args.self.now.waiting c.args.self.now.spoiled digits c.args.high c.args.low c.in-Some.byte c.requires (sym c.decode_pair.ensures ∙ c.in-Some.is) c.in_ok-push.ensures.items h
