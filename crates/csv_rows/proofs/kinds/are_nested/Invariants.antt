use Rattle.std.proofs.Common.{◌≡◌, ◌≤◌, drop, length}
use Rattle.arrow_types.specs.Schemas.{fields_in}
use Rattle.csv_texts.specs.Texts.{are_nested}
use Rattle.csv_rows.proofs.kinds.are_nested.Given as goal

abbrev pub invariant-loop-i : goal.invariant-loop-i
invariant-loop-i l = are_nested (fields_in l.schema) ≡ are_nested (fields_in (drop l.i l.schema))
