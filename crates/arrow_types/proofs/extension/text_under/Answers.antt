use Rattle.std.proofs.Common.{ap, ◌∙◌, Some, string_bytes}
use Rattle.std.specs.Option.{option_map}
use Rattle.arrow_types.proofs.Keyed.{value_of_is}
use Rattle.arrow_types.proofs.extension.text_under.Goals as goal

pub returns-in-None : goal.returns-in-None
returns-in-None c = ap (option_map string_bytes) c.in-None.ensures.value ∙ value_of_is c.args.key.now c.args.metadata.now.entries

pub returns-in-Some : goal.returns-in-Some
returns-in-Some c = ap Some c.as_str.ensures.value ∙ ap (option_map string_bytes) c.in-Some.ensures.value ∙ value_of_is c.args.key.now c.args.metadata.now.entries
