use Rattle.ipc_tool.proofs.Front.{error_front_is}
use Rattle.arrow_spec.specs.declared.error.IpcError.TheVariants as errors
use Rattle.ipc_tool.proofs.note.error_front.Goals as goal

pub returns-in-OutOfSpec : goal.returns-in-OutOfSpec
returns-in-OutOfSpec c = rw c.in-OutOfSpec.is (error_front_is (errors.OutOfSpec c.in-OutOfSpec.field-0))

pub returns-in-Unsupported : goal.returns-in-Unsupported
returns-in-Unsupported c = rw c.in-Unsupported.is (error_front_is (errors.Unsupported c.in-Unsupported.field-0))

pub returns-in-TooDeep : goal.returns-in-TooDeep
returns-in-TooDeep c = rw c.in-TooDeep.is (error_front_is errors.TooDeep)

pub returns-in-TooMany : goal.returns-in-TooMany
returns-in-TooMany c = rw c.in-TooMany.is (error_front_is (errors.TooMany c.in-TooMany.field-0))

pub returns-in-Projection : goal.returns-in-Projection
returns-in-Projection c = rw c.in-Projection.is (error_front_is (errors.Projection c.in-Projection.index))

pub returns-in-TooLarge : goal.returns-in-TooLarge
returns-in-TooLarge c = rw c.in-TooLarge.is (error_front_is errors.TooLarge)

pub returns-in-SchemaMismatch : goal.returns-in-SchemaMismatch
returns-in-SchemaMismatch c = rw c.in-SchemaMismatch.is (error_front_is errors.SchemaMismatch)

pub returns-in-DictionaryReplaced : goal.returns-in-DictionaryReplaced
returns-in-DictionaryReplaced c = rw c.in-DictionaryReplaced.is (error_front_is (errors.DictionaryReplaced c.in-DictionaryReplaced.id))

pub returns-in-NotRepresentable : goal.returns-in-NotRepresentable
returns-in-NotRepresentable c = rw c.in-NotRepresentable.is (error_front_is errors.NotRepresentable)

pub returns-in-State : goal.returns-in-State
returns-in-State c = rw c.in-State.is (error_front_is errors.State)

pub returns-in-ReadFault : goal.returns-in-ReadFault
returns-in-ReadFault c = rw c.in-ReadFault.is (error_front_is errors.ReadFault)

pub returns-in-WriteFault : goal.returns-in-WriteFault
returns-in-WriteFault c = rw c.in-WriteFault.is (error_front_is errors.WriteFault)

pub returns-in-Memory : goal.returns-in-Memory
returns-in-Memory c = rw c.in-Memory.is (error_front_is errors.Memory)
