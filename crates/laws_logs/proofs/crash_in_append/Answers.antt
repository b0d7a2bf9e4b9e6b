use Rattle.laws_logs.proofs.Lifting.{crashed_append}
use Rattle.laws_logs.proofs.crash_in_append.Goals as goal

pub returns : goal.returns
returns c = crashed_append
