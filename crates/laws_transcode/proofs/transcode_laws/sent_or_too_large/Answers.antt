use Rattle.laws_transcode.proofs.Sent.{sent_or_too_large}
use Rattle.laws_transcode.proofs.transcode_laws.sent_or_too_large.Goals as goal

pub returns : goal.returns
returns c = sent_or_too_large
