use Rattle.schema_reader.proofs.ExtensionKeys.{both_removed, none_taken, one_taken}
use Rattle.schema_reader.proofs.head.take_extension.Goals as goal

pub returns-in-None-clause-left : goal.returns-in-None-clause-left
returns-in-None-clause-left c = both_removed c.args.metadata.now.entries c.remove-parameters.new.self.entries c.remove.new.self.entries c.remove-parameters.ensures.entries c.remove.ensures.entries

pub returns-in-Some-clause-left : goal.returns-in-Some-clause-left
returns-in-Some-clause-left c = both_removed c.args.metadata.now.entries c.remove-parameters.new.self.entries c.remove.new.self.entries c.remove-parameters.ensures.entries c.remove.ensures.entries

pub returns-in-None-clause-extension : goal.returns-in-None-clause-extension
returns-in-None-clause-extension c = none_taken c.args.metadata.now.entries c.remove-parameters.new.self.entries c.remove.result c.remove-parameters.ensures.entries c.remove.ensures.value c.in-None.is

pub returns-in-Some-clause-extension : goal.returns-in-Some-clause-extension
returns-in-Some-clause-extension c = one_taken c.args.metadata.now.entries c.remove-parameters.new.self.entries c.remove.result c.remove-parameters.result c.in-Some.name c.remove-parameters.ensures.entries c.remove-parameters.ensures.value c.remove.ensures.value c.in-Some.is
