use Rattle.std.proofs.Common.{None, false, [], subst, sym}
use Rattle.hex_input.specs.Decoding.{Held}
use Rattle.hex_input.proofs.Decoding.{held_nothing}
use Rattle.hex_input.proofs.decoder.Decoder.new.Goals as goal

pub returns : goal.returns
returns c = subst (λ l. Held l None false []) (sym c.new.ensures.items) held_nothing
