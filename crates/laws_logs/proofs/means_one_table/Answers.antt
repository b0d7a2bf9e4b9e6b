use Rattle.laws_logs.proofs.Lifting.{one_meaning}
use Rattle.laws_logs.proofs.means_one_table.Goals as goal

pub returns : goal.returns
returns c = one_meaning
