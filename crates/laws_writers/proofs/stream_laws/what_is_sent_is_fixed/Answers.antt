use Rattle.laws_writers.proofs.Fixed.{sent_is_fixed}
use Rattle.laws_writers.proofs.stream_laws.what_is_sent_is_fixed.Goals as goal

pub returns : goal.returns
returns c = sent_is_fixed
