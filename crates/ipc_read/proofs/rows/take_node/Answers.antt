use Rattle.std.proofs.Common.{◌∙◌, subst, sym}
use Rattle.arrow_spec.specs.Readings.{Refuses}
use Rattle.ipc_read.proofs.Refusals.{err_if}
use Rattle.ipc_read.proofs.Parts.{node_lacks, node_is}
use Rattle.ipc_read.proofs.rows.take_node.Goals as goal

pub returns-in_err-node-clause-err : goal.returns-in_err-node-clause-err
returns-in_err-node-clause-err c = err_if c.from_residual.result c.in_err-node.field-0.0 _ _ c.from_residual.ensures.0 c.from_residual.ensures.1 (λ f e. e)
    (λ m p l. let k = c.in_err-node.ensures.takes m.nodes p.node l in node_lacks m p c.args.rows c.in_err-node.field-0.0 k.0 k.1)

pub returns-in_err-check_node-clause-err : goal.returns-in_err-check_node-clause-err
returns-in_err-check_node-clause-err c = err_if c.from_residual-in_err-check_node.result c.in_err-check_node.field-0.0 _ _ c.from_residual-in_err-check_node.ensures.0 c.from_residual-in_err-check_node.ensures.1 (λ f e. e)
    (λ m p l. let q = c.in_ok-node.ensures.takes m.nodes p.node l in subst (λ es. Refuses c.in_err-check_node.field-0.0 es) (sym (node_is m p c.args.rows c.in_ok-node.node q.0)) c.in_err-check_node.ensures.err)

pub returns-clause-fine : goal.returns-clause-fine
returns-clause-fine c = λ m p l. let q = c.in_ok-node.ensures.takes m.nodes p.node l in node_is m p c.args.rows c.in_ok-node.node q.0 ∙ c.in_ok-check_node.ensures.fine
