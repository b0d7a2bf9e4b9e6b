use Rattle.laws_transcode.proofs.AskedSchemas.{asked_sendable}
use Rattle.laws_transcode.proofs.transcode_laws.asked_schema_is_sendable.Goals as goal

pub returns : goal.returns
returns c = asked_sendable
