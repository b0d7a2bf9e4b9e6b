use Rattle.std.proofs.Common.{◌≡◌, ◌++◌}
use Rattle.arrow_spec.specs.Arrays.{from_on}
use Rattle.dictionary_places.specs.Places.{place}
use Rattle.dictionary_places.proofs.rows.push_places.Given as goal

abbrev pub invariant-loop-row : goal.invariant-loop-row
invariant-loop-row l = l.places.items ≡ l.fn.places.items ++ from_on (place l.part) 0 l.row
