use Rattle.ipc_read.proofs.Refusals.{err_from, refuses_left, answers_behind}
use Rattle.ipc_read.proofs.ReaderSteps.{head_taken}
use Rattle.ipc_read.proofs.readers.ColumnReader.read_head.Goals as goal

pub returns-in_err-node-clause-gives : goal.returns-in_err-node-clause-gives
returns-in_err-node-clause-gives g c = λ m p a t. err_from _ _ c.in_err-node.field-0.0 _ _ _ c.from_residual.ensures.0 c.from_residual.ensures.1 (λ x e. e) (refuses_left _ _ _ (c.in_err-node.ensures.err m p a.nodes))

pub returns-clause-takes : goal.returns-clause-takes
returns-clause-takes g c = head_taken c.read_validity.result _ _ _ _ (λ m p l. (c.in_ok-node.ensures.queue m p l).1) c.read_validity.ensures.takes

pub returns-clause-gives : goal.returns-clause-gives
returns-clause-gives g c = λ m p a t. answers_behind _ _ _ _ _ (c.in_ok-node.ensures.fine m p a.nodes) (c.read_validity.ensures.gives m p a.buffers (c.in_ok-node.ensures.queue m p a.nodes).0 t)

pub returns-clause-fetched : goal.returns-clause-fetched
returns-clause-fetched g c = λ m p a. c.read_validity.ensures.fetched m p a.buffers (c.in_ok-node.ensures.queue m p a.nodes).0
