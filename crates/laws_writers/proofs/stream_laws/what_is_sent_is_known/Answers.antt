use Rattle.laws_writers.proofs.Walks.{sent_is_known}
use Rattle.laws_writers.proofs.stream_laws.what_is_sent_is_known.Goals as goal

pub returns : goal.returns
returns c = sent_is_known
