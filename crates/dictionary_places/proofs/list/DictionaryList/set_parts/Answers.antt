use Rattle.std.proofs.Common.{◌∙◌, sym}
use Rattle.arrow_arrays.specs.PartsOf.{forest_of}
use Rattle.laws_unify.specs.Over.{values_of}
use Rattle.dictionary_places.proofs.Appended.{none_taken}
use Rattle.dictionary_places.proofs.list.DictionaryList.set_parts.Goals as goal

pub returns-clause-kept : goal.returns-clause-kept
returns-clause-kept c = record {
  rows = record { are = c.requires.rows.are ∙ sym c.requires.same; sound = c.requires.sound };
  last = none_taken (values_of (forest_of c.args.parts.items));
}
