use Rattle.std.proofs.Common.{◌≡◌, [], take, drop}
use Rattle.ipc_words.specs.Filters.{filter_on}
use Rattle.ipc_words.proofs.filter_words.read_filter.Given as goal

abbrev pub invariant-loop-i : goal.invariant-loop-i
invariant-loop-i l = filter_on [] l.text ≡ filter_on (take l.i l.text) (drop l.i l.text)
