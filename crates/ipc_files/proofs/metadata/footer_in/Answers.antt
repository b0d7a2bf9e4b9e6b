use Rattle.ipc_files.proofs.ReadFits.{footer_ids, footer_may}
use Rattle.ipc_files.proofs.metadata.footer_in.Goals as goal

pub returns-clause-may : goal.returns-clause-may
returns-clause-may c = footer_may c.args.bytes.now c.deserialize_schema_and_blocks.result (λ i. (c.type_inv.bytes i).fits) c.deserialize_schema_and_blocks.ensures.gives

pub returns-clause-ids : goal.returns-clause-ids
returns-clause-ids c = footer_ids c.args.bytes.now c.deserialize_schema_and_blocks.result (λ i. (c.type_inv.bytes i).fits) c.deserialize_schema_and_blocks.ensures.gives
