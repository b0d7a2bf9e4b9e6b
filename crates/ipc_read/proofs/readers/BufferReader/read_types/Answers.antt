use Rattle.std.specs.Int.{w8}
use Rattle.ipc_read.proofs.UnionParts.{signed_items, answers_map}
use Rattle.ipc_read.proofs.readers.BufferReader.read_types.Goals as goal

pub returns-clause-gives : goal.returns-clause-gives
returns-clause-gives g c = λ m i l known. answers_map (λ b. b) (λ b. b) c.read_items.result _ _ _ (λ h. signed_items m w8 i c.args.rows h) (c.read_items.ensures.gives m i l known)
