use Rattle.laws_columns.proofs.TreeLengths.{column_written}
use Rattle.laws_columns.proofs.written_as_column.Goals as goal

pub returns : goal.returns
returns c = column_written
