use Rattle.std.proofs.Common.{◌≡◌, ◌<◌, drop}
use Rattle.ipc_words.specs.Numbers.{decimal_on}
use Rattle.ipc_words.proofs.numbers.read_digits.Given as goal

abbrev pub invariant-loop-digit : goal.invariant-loop-digit
invariant-loop-digit l = (l.number < 340282366920938463463374607431768211456) × (decimal_on 0 l.text ≡ decimal_on l.number (drop l.digit-index l.text))
