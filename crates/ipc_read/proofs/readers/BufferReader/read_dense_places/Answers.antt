use Rattle.std.proofs.Common.{Some, ap}
use Rattle.std.specs.Int.{w32}
use Rattle.ipc_read.proofs.UnionParts.{signed_items, answers_map}
use Rattle.ipc_read.proofs.readers.BufferReader.read_dense_places.Goals as goal

pub returns-clause-gives : goal.returns-clause-gives
returns-clause-gives g c = λ m i l known. answers_map (λ b. Some b) (λ b. b) c.read_items.result _ _ _ (λ h. ap (λ xs. Some xs) (signed_items m w32 i c.args.rows h)) (c.read_items.ensures.gives m i l known)
