use Rattle.std.proofs.Common.{◌≡◌, ◌-◌, ◌+◌, ◌*◌, []}
use Rattle.arrow_spec.specs.Schema.{pairs_from}
use Rattle.arrow_types.specs.KindOf.{texts_of}
use Rattle.schema_reader.specs.Pairs.{pairs_kind}
use Rattle.schema_reader.proofs.pairs.read_pairs.Given as goal

abbrev pub invariant-loop-i : goal.invariant-loop-i
invariant-loop-i l = pairs_from (pairs_kind l.owner) l.pairs.bytes (l.pairs.vector.first + 4 * l.i) (l.pairs.vector.count - l.i) (texts_of l.metadata.entries) ≡ pairs_from (pairs_kind l.owner) l.pairs.bytes l.pairs.vector.first l.pairs.vector.count []
