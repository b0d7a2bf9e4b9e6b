use Rattle.laws_logs.proofs.Lifting.{records_are_table}
use Rattle.laws_logs.proofs.records_are_table.Goals as goal

pub returns : goal.returns
returns g c = records_are_table (g.D.LogDisk.content c.args._disk.now) (g.D.LogDisk.images c.args._disk.now)
