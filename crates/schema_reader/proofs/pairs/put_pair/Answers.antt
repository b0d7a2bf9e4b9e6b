use Rattle.schema_reader.proofs.PairSteps.{put_read}
use Rattle.schema_reader.proofs.pairs.put_pair.Goals as goal

pub returns-clause-ok : goal.returns-clause-ok
returns-clause-ok c = put_read c.args.metadata.now.entries c.insert.new.self.entries c.in-Some.key c.in-Some-value.value c.args.key c.args.value c.in-Some.is c.in-Some-value.is c.in_ok-insert.ensures.entries
