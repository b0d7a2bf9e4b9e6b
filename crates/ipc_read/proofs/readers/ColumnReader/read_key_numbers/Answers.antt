use Rattle.std.proofs.Common.{[], subst}
use Rattle.ipc_read_laws.specs.Faults.{read_faults}
use Rattle.ipc_read_laws.specs.PartsRead.{primitive_read}
use Rattle.ipc_read.specs.Sources.{Answers}
use Rattle.ipc_read.proofs.KeysRead.{shortened_of}
use Rattle.ipc_read.proofs.readers.ColumnReader.read_key_numbers.Goals as goal

pub returns-clause-gives : goal.returns-clause-gives
returns-clause-gives g c = λ m p a known. subst (λ k. Answers (λ a. a) c.read_primitive.result (read_faults m [] k p c.args.rows) (primitive_read g.T.NativeType.read g.T.NativeType.WIDTH m k p c.args.rows)) c.from-dtype.ensures (c.read_primitive.ensures.gives m p a known)

pub returns-clause-shortened : goal.returns-clause-shortened
returns-clause-shortened g c = λ version vs. shortened_of _ _ version _ _ _ _ vs c.from-dtype.ensures (c.read_primitive.ensures.shortened version vs)
