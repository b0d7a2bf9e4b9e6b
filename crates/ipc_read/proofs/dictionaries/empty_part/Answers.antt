use Rattle.std.proofs.Common.{◌≡◌, IfOk, ap, sym, ◌∙◌, subst}
use Rattle.arrow_types.specs.KindOf.{kind_of}
use Rattle.arrow_arrays.specs.EmptyParts.{empty_parts}
use Rattle.arrow_arrays.specs.Parts.{none, also}
use Rattle.arrow_arrays.specs.PartsOf.{parts_of, forest_of}
use Rattle.ipc_read_laws.specs.PlainKinds.{plain_kind}
use Rattle.ipc_read_laws.proofs.PlainTypes.{plain_of}
use Rattle.ipc_read.proofs.DictionaryReads.{if_one}
use Rattle.ipc_read.proofs.dictionaries.empty_part.Goals as goal

pub returns-clause-parts : goal.returns-clause-parts
returns-clause-parts c =
    let e : parts_of c.in_ok-part.part ≡ empty_parts (plain_kind (kind_of c.args.values.now)) = c.in_ok-part.ensures.parts ∙ ap empty_parts (c.in_ok-dtype.ensures ∙ sym (plain_of c.args.values.now)) in
    subst (λ p. IfOk c.one_part.result (λ v. forest_of v.items ≡ also p none)) e c.one_part.ensures.parts

pub returns-clause-sound : goal.returns-clause-sound
returns-clause-sound c = if_one c.one_part.result c.in_ok-part.part c.one_part.ensures.parts c.len-rows.ensures.sound
