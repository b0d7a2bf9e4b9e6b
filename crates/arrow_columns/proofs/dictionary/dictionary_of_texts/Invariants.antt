use Rattle.std.proofs.Common.{◌≡◌, take}
use Rattle.arrow_columns.specs.Dictionary.{distinct_texts}
use Rattle.arrow_columns.proofs.Keyed.{Keyed}
use Rattle.arrow_columns.proofs.dictionary.dictionary_of_texts.Given as goal

abbrev pub invariant-loop-row : goal.invariant-loop-row
invariant-loop-row l = record {
  came : l.came.keys ≡ distinct_texts (take l.row-index l.rows);
  keyed : Keyed l.came.keys (take l.row-index l.rows) l.keys.items;
}
