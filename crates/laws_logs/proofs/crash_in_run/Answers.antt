use Rattle.laws_logs.proofs.Lifting.{crashed_run}
use Rattle.laws_logs.proofs.crash_in_run.Goals as goal

pub returns : goal.returns
returns c = crashed_run
