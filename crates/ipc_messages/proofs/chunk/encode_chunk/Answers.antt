use Rattle.ipc_messages.proofs.chunk.encode_chunk.Goals as goal

pub returns-in-Ok-clause-encodes : goal.returns-in-Ok-clause-encodes
returns-in-Ok-clause-encodes c = c.in-Ok.ensures.encodes

pub returns-in-Err-clause-encodes : goal.returns-in-Err-clause-encodes
returns-in-Err-clause-encodes c = (c.in-Err.ensures.encodes.0, c.in-Err.ensures.encodes.1)
