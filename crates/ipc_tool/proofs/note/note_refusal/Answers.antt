use Rattle.ipc_tool.proofs.Noting.{noted}
use Rattle.ipc_tool.proofs.note.note_refusal.Goals as goal

pub returns : goal.returns
returns g c = noted _ _ _ _ _ _ _ _ c.put_line.ensures.bytes c.put_line.ensures.cause
