use Rattle.laws_writers.proofs.Stated.{sent_may_stand}
use Rattle.laws_writers.proofs.stream_laws.what_is_sent_may_stand.Goals as goal

pub returns : goal.returns
returns c = sent_may_stand
