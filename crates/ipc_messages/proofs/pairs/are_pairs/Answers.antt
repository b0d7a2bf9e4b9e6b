use Rattle.std.proofs.Common.{sym, subst}
use Rattle.ipc_fields.specs.IpcFields.{metadata_in}
use Rattle.ipc_write.specs.Below.{PairsAscend}
use Rattle.ipc_write.proofs.Below.{map_ascends}
use Rattle.ipc_messages.proofs.pairs.are_pairs.Goals as goal

pub returns-in-Some : goal.returns-in-Some
returns-in-Some c = subst (λ o. PairsAscend (metadata_in o)) (sym c.in-Some.is) (map_ascends c.in-Some.pairs.now.entries c.len.ensures.ordered)
