use Rattle.laws_transcode.proofs.SentBatches.{whole_table}
use Rattle.laws_transcode.proofs.transcode_laws.whole_file_means_its_table.Goals as goal

pub returns : goal.returns
returns c = whole_table
