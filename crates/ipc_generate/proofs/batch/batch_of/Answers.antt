use Rattle.std.proofs.Common.{ap, ◌∙◌}
use Rattle.arrow_arrays.specs.Batches.{batch_fault}
use Rattle.ipc_generate.proofs.EachRow.{batch_fine, batch_is}
use Rattle.ipc_generate.proofs.batch.batch_of.Goals as goal

pub new-requires : goal.new-requires
new-requires c =
    ap batch_fault (batch_is c.args.states.now _ c.in_ok-n.n c.in_ok-t.t c.in_ok-d.d c.in_ok-p.p c.in_ok-columns.columns.items (c.in_ok-clone.ensures.cases ∙ c.requires.schema)
    c.in_ok-columns.ensures.items c.in_ok-n.ensures.parts c.in_ok-t.ensures.parts c.in_ok-d.ensures.parts c.in_ok-p.ensures.parts)
    ∙ batch_fine c.args.states.now
