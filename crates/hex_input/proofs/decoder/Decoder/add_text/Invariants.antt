use Rattle.std.proofs.Common.{◌≤◌, ◌-◌, length, take}
use Rattle.hex_input.specs.Decoding.{Adds, no_white}
use Rattle.hex_input.proofs.decoder.Decoder.add_text.Given as goal

abbrev pub invariant-fronts : goal.invariant-fronts
invariant-fronts l = record {
  adds : Adds l.fn.self l.self (no_white (take l.at l.text));
  within : l.at ≤ length l.text;
}

abbrev pub decreases-fronts : goal.decreases-fronts
decreases-fronts l = length l.text - l.at
