use Rattle.hex_input.proofs.Decoding.{spoiled_more}
use Rattle.hex_input.proofs.decoder.Decoder.add_digit.Goals as goal

pub returns-then-self : goal.returns-then-self
returns-then-self c = λ digits h. spoiled_more _ _ _ digits _ c.if-self.true h
