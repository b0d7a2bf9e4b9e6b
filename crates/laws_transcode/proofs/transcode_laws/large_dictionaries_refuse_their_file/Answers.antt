use Rattle.laws_transcode.proofs.Files.{large_dictionaries_refuse}
use Rattle.laws_transcode.proofs.transcode_laws.large_dictionaries_refuse_their_file.Goals as goal

pub returns : goal.returns
returns c = large_dictionaries_refuse
