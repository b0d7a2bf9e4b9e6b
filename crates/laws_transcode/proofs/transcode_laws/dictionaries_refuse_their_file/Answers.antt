use Rattle.laws_transcode.proofs.Readings.{dictionaries_refuse}
use Rattle.laws_transcode.proofs.transcode_laws.dictionaries_refuse_their_file.Goals as goal

pub returns : goal.returns
returns c = dictionaries_refuse
