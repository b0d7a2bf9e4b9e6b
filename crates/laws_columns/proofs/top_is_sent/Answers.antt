use Rattle.laws_columns.proofs.TopColumns.{top_sent}
use Rattle.laws_columns.proofs.top_is_sent.Goals as goal

pub returns : goal.returns
returns c = top_sent
