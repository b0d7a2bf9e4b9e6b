use Rattle.std.proofs.Common.{◌≡◌, map, false}
use Rattle.arrow_spec.specs.Arrays.{from_on}
use Rattle.arrow_spec.specs.Faults.{some_row}
use Rattle.laws_unify.specs.Over.{is_large_at, moved_at}
use Rattle.dictionary_keys.proofs.keys.moved_values.Given as goal

abbrev pub invariant-loop-row : goal.invariant-loop-row
invariant-loop-row g l = record {
  moved : map g.K.DictionaryKey.number l.values.items ≡ from_on (moved_at l.place (map g.K.DictionaryKey.number l.keys.values) l.keys.validity) 0 l.row;
  fits : some_row (is_large_at g.K.DictionaryKey.KEY_TYPE l.place (map g.K.DictionaryKey.number l.keys.values) l.keys.validity) l.row ≡ false;
}
