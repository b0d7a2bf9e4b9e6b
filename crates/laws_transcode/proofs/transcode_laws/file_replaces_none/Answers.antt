use Rattle.laws_transcode.proofs.Dictionaries.{replaces_none}
use Rattle.laws_transcode.proofs.transcode_laws.file_replaces_none.Goals as goal

pub returns : goal.returns
returns c = replaces_none
