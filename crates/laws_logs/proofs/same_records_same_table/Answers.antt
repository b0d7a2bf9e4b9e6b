use Rattle.laws_logs.proofs.Lifting.{same_records}
use Rattle.laws_logs.proofs.same_records_same_table.Goals as goal

pub returns : goal.returns
returns c = same_records
