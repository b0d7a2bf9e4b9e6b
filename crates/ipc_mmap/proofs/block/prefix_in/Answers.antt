use Rattle.ipc_fields.proofs.Steps.{gives}
use Rattle.arrow_spec.specs.Messages.{prefix_of}
use Rattle.ipc_mmap.proofs.Blocks.{bytes_cause, prefix_fits}
use Rattle.ipc_mmap.proofs.block.prefix_in.Goals as goal

pub returns-clause-gives : goal.returns-clause-gives
returns-clause-gives c = gives (λ p. p) c.message_prefix.result (prefix_of c.args.message.now) c.message_prefix.ensures.gives

pub returns-clause-within : goal.returns-clause-within
returns-clause-within c = prefix_fits c.args.message.now c.message_prefix.result c.message_prefix.ensures.gives

pub returns-clause-cause : goal.returns-clause-cause
returns-clause-cause c = bytes_cause (λ p. p) c.message_prefix.result (prefix_of c.args.message.now) c.message_prefix.ensures.gives
