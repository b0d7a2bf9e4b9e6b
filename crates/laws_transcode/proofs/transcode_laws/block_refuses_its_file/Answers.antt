use Rattle.laws_transcode.proofs.SentBatches.{both_refused}
use Rattle.laws_transcode.proofs.transcode_laws.block_refuses_its_file.Goals as goal

pub returns : goal.returns
returns c = both_refused
