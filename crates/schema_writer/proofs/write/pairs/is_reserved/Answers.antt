use Rattle.schema_writer.proofs.WrittenPairs.{reserved_test}
use Rattle.schema_writer.proofs.write.pairs.is_reserved.Goals as goal

pub returns-else-eq : goal.returns-else-eq
returns-else-eq c = reserved_test c.args.key.now c.eq.result c.eq-else-eq.result c.eq.ensures c.eq-else-eq.ensures c.if-eq.false
