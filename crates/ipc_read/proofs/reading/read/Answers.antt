use Rattle.std.proofs.Common.{subst}
use Rattle.arrow_spec.specs.ArrayCells.{cell}
use Rattle.arrow_spec.specs.Arrays.{from_on}
use Rattle.arrow_arrays.specs.Parts.{cells_in}
use Rattle.arrow_arrays.specs.PartsOf.{parts_of}
use Rattle.ipc_fields.specs.declared.ipc_field.IpcField.{out-IpcField}
use Rattle.ipc_read_laws.specs.Faults.{read_faults}
use Rattle.ipc_read_laws.specs.PartsRead.{parts_read}
use Rattle.ipc_read.specs.Held.{held_in, column_kind}
use Rattle.ipc_read.specs.Sources.{Answers}
use Rattle.ipc_read.proofs.reading.read.Goals as goal

pub returns-clause-parts : goal.returns-clause-parts
returns-clause-parts g c = λ m d p a known holds.
    subst (λ fs. Answers (λ x. parts_of x) c.read_next.result (read_faults m d (column_kind c.args.field.now.dtype (out-IpcField c.args.ipc_field.now).dictionary_id fs) p c.args.rows) (parts_read m (held_in c.args.dictionaries.now) (column_kind c.args.field.now.dtype (out-IpcField c.args.ipc_field.now).dictionary_id fs) p c.args.rows)) c.as_slice.ensures.value (c.read_next.ensures.parts m d p a known holds)

pub returns-clause-cells : goal.returns-clause-cells
returns-clause-cells g c = λ m d p a known holds.
    subst (λ fs. Answers (λ x. cells_in (parts_of x)) c.read_next.result (read_faults m d (column_kind c.args.field.now.dtype (out-IpcField c.args.ipc_field.now).dictionary_id fs) p c.args.rows) (from_on (cell m d (column_kind c.args.field.now.dtype (out-IpcField c.args.ipc_field.now).dictionary_id fs) p) 0 c.args.rows)) c.as_slice.ensures.value (c.read_next.ensures.cells m d p a known holds)
