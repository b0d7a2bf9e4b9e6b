use Rattle.std.proofs.Common.{refl}
use Rattle.arrow_types.specs.KindOf.{kind_of}
use Rattle.ipc_read.proofs.Refusals.{err_from, err_if, refusal_cause}
use Rattle.ipc_read.specs.Sources.{BodyReadCause}
use Rattle.ipc_read.proofs.Arrays.{if_any}
use Rattle.ipc_read.proofs.ReaderSteps.{made}
use Rattle.ipc_read.proofs.LeafArrays.{null_refused, null_fine, null_next}
use Rattle.ipc_read.proofs.Shortened.{null_shortened}
use Rattle.ipc_read.proofs.leaf.read_null.Goals as goal

pub returns-in_err-take_node-clause-gives : goal.returns-in_err-take_node-clause-gives
returns-in_err-take_node-clause-gives c = λ m p a.
    err_from _ _ c.in_err-take_node.field-0.0 _ _ _ c.from_residual.ensures.0 c.from_residual.ensures.1 (λ x e. e)
    (null_refused m (kind_of c.args.dtype.now) p c.args.rows c.in_err-take_node.field-0.0 c.requires.kind (c.in_err-take_node.ensures.err m p a.nodes))

pub returns-clause-queue : goal.returns-clause-queue
returns-clause-queue c = if_any c.make_null.result _ (λ m p a. null_next m (kind_of c.args.dtype.now) p _ c.requires.kind a.within (c.in_ok-take_node.ensures.queue m p a.nodes).1)

pub returns-clause-gives : goal.returns-clause-gives
returns-clause-gives c = λ m p a.
    made _ c.make_null.result _ _ _ c.make_null.ensures.parts c.make_null.ensures.memory
    (null_fine m (kind_of c.args.dtype.now) p c.args.rows _ c.requires.kind a.within (c.in_ok-take_node.ensures.queue m p a.nodes).1 (c.in_ok-take_node.ensures.fine m p a.nodes)) refl

pub returns-in_err-take_node-clause-cause : goal.returns-in_err-take_node-clause-cause
returns-in_err-take_node-clause-cause c = λ n.
    err_if _ c.in_err-take_node.field-0.0 _ (λ e. BodyReadCause e n n) c.from_residual.ensures.0 c.from_residual.ensures.1 (λ x e. e)
    (refusal_cause c.in_err-take_node.field-0.0 n c.in_err-take_node.ensures.refusal)

pub returns-in_err-take_node-clause-shortened : goal.returns-in_err-take_node-clause-shortened
returns-in_err-take_node-clause-shortened c = λ version bs vs. null_shortened version bs vs (kind_of c.args.dtype.now) c.requires.kind c.in_err-take_node.ensures.shortened

pub returns-clause-shortened : goal.returns-clause-shortened
returns-clause-shortened c = λ version bs vs. null_shortened version bs vs (kind_of c.args.dtype.now) c.requires.kind c.in_ok-take_node.ensures.shortened
