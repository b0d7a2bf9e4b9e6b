use Rattle.laws_transcode.proofs.Sent.{sent_means}
use Rattle.laws_transcode.proofs.transcode_laws.sent_means.Goals as goal

pub returns : goal.returns
returns c = sent_means
