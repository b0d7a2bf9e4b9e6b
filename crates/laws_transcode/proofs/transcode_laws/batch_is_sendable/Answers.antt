use Rattle.laws_transcode.proofs.Batches.{batch_sendable}
use Rattle.laws_transcode.proofs.transcode_laws.batch_is_sendable.Goals as goal

pub returns : goal.returns
returns c = batch_sendable
