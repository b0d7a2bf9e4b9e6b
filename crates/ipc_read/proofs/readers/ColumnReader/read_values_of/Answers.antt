use Rattle.std.proofs.Common.{◌∙◌}
use Rattle.arrow_types.specs.KindOf.{kind_of}
use Rattle.ipc_read.proofs.Arrays.{size_known}
use Rattle.ipc_read.proofs.readers.ColumnReader.read_values_of.Goals as goal

pub read_fixed_size_binary-requires-clause-kind : goal.read_fixed_size_binary-requires-clause-kind
read_fixed_size_binary-requires-clause-kind g c = size_known (kind_of c.args.dtype.now) c.requires.leaf (c.requires.kind ∙ c.in-FixedSizeBinary.is)
