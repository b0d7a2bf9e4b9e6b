use Rattle.std.proofs.Common.{◌≡◌, Ok, sym, ◌∙◌}
use Rattle.ipc_schema.specs.Footers.{block_numbers_at}
use Rattle.ipc_schema.proofs.Footers.{block_given}
use Rattle.ipc_schema.proofs.footer.read_block.Goals as goal

pub returns-clause-gives : goal.returns-clause-gives
returns-clause-gives c =
    let given : Ok c.in-Ok.block ≡ block_numbers_at c.get.result.now 0 = sym c.in-Ok.is ∙ c.block_from.ensures in
    block_given c.args.list c.args.vector.now c.args.i c.get.result.now c.in-Ok.block c.natural_block.result c.requires.width c.get.ensures.bytes given c.natural_block.ensures.gives
