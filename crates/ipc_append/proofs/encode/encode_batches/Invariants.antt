use Rattle.ipc_fields.specs.IpcFields.{ids_of}
use Rattle.ipc_append.proofs.EncodeSteps.{AreFront}
use Rattle.ipc_append.proofs.encode.encode_batches.Given as goal

abbrev pub invariant-loop-batch : goal.invariant-loop-batch
invariant-loop-batch l = AreFront l.options (ids_of l.fields) l.fn.tracker l.tracker l.batch-index l.batches l.chunks.items
