use Rattle.std.proofs.Common.{map, sym, ap}
use Rattle.std.specs.Prelude.{not}
use Rattle.arrow_buffers.proofs.VariableParts.{all_texts}
use Rattle.arrow_buffers.proofs.texts.are_texts.Goals as goal

pub returns-then-are_one_text : goal.returns-then-are_one_text
returns-then-are_one_text g c = ap not (sym (all_texts (map g.O.Offset.number c.args.offsets.now) c.args.values.now c.args.validity.now (c.are_one_text.ensures c.if-are_one_text.true)))
