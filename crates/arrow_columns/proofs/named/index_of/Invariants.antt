use Rattle.std.proofs.Common.{◌≡◌, drop}
use Rattle.arrow_columns.specs.Named.{place_from, place_of}
use Rattle.arrow_columns.proofs.named.index_of.Given as goal

abbrev pub invariant-loop-i : goal.invariant-loop-i
invariant-loop-i l = place_from l.name l.i (drop l.i l.schema) ≡ place_of l.name l.schema
