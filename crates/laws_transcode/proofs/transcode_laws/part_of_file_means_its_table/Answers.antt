use Rattle.laws_transcode.proofs.SentBatches.{part_table}
use Rattle.laws_transcode.proofs.transcode_laws.part_of_file_means_its_table.Goals as goal

pub returns : goal.returns
returns c = part_table
