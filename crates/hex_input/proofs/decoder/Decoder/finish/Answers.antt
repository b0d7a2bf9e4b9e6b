use Rattle.hex_input.proofs.Decoding.{no_meaning_spoiled}
use Rattle.hex_input.proofs.decoder.Decoder.finish.Goals as goal

pub returns-then-spoiled : goal.returns-then-spoiled
returns-then-spoiled c = λ digits h. no_meaning_spoiled c.args.self.bytes.items digits c.args.self.waiting c.args.self.spoiled c.if-spoiled.true h
