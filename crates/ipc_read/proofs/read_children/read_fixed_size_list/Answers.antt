use Rattle.std.proofs.Common.{Ok, ap, subst}
use Rattle.arrow_spec.specs.Readings.{Refuses}
use Rattle.arrow_spec.specs.ArrayCells.{cell}
use Rattle.arrow_spec.specs.Arrays.{from_on}
use Rattle.arrow_arrays.specs.Parts.{cells_in}
use Rattle.arrow_arrays.specs.PartsOf.{parts_of}
use Rattle.arrow_arrays.specs.declared.array.Array.TheVariants as arrays
use Rattle.ipc_fields.specs.declared.ipc_field.IpcField.{out-IpcField}
use Rattle.ipc_read_laws.specs.Faults.{read_faults}
use Rattle.ipc_read_laws.specs.PartsRead.{parts_read}
use Rattle.ipc_read.specs.Held.{held_in, column_kind}
use Rattle.ipc_read.specs.Sources.{Answers}
use Rattle.ipc_read.proofs.Refusals.{err_from}
use Rattle.ipc_read.proofs.Tops.{answers_of}
use Rattle.ipc_read.proofs.read_children.read_fixed_size_list.Goals as goal

pub returns-in_err-array-clause-parts : goal.returns-in_err-array-clause-parts
returns-in_err-array-clause-parts g c = λ m d p a known holds.
    err_from _ _ c.in_err-array.field-0.0 _ _ _ c.from_residual.ensures.0 c.from_residual.ensures.1 (λ x e. e)
    (subst (λ fs. Refuses c.in_err-array.field-0.0 (read_faults m d (column_kind c.args.dtype.now (out-IpcField c.args.ipc_field.now).dictionary_id fs) p c.args.rows)) c.as_slice.ensures.value (c.in_err-array.ensures.parts m d p a known holds).err)

pub returns-in_err-array-clause-cells : goal.returns-in_err-array-clause-cells
returns-in_err-array-clause-cells g c = λ m d p a known holds.
    err_from _ _ c.in_err-array.field-0.0 _ _ _ c.from_residual.ensures.0 c.from_residual.ensures.1 (λ x e. e)
    (subst (λ fs. Refuses c.in_err-array.field-0.0 (read_faults m d (column_kind c.args.dtype.now (out-IpcField c.args.ipc_field.now).dictionary_id fs) p c.args.rows)) c.as_slice.ensures.value (c.in_err-array.ensures.cells m d p a known holds).err)

pub returns-clause-parts : goal.returns-clause-parts
returns-clause-parts g c = λ m d p a known holds.
    answers_of (λ x. parts_of x) c.in_ok-array.array (λ z. parts_of (arrays.FixedSizeList z)) c.into_fixed_size_list.result _ _ c.into_fixed_size_list.ensures.parts
    (subst (λ fs. Answers (λ x. parts_of x) (Ok c.in_ok-array.array) (read_faults m d (column_kind c.args.dtype.now (out-IpcField c.args.ipc_field.now).dictionary_id fs) p c.args.rows) (parts_read m (held_in c.args.dictionaries.now) (column_kind c.args.dtype.now (out-IpcField c.args.ipc_field.now).dictionary_id fs) p c.args.rows)) c.as_slice.ensures.value (c.in_ok-array.ensures.parts m d p a known holds))

pub returns-clause-cells : goal.returns-clause-cells
returns-clause-cells g c = λ m d p a known holds.
    answers_of (λ x. cells_in (parts_of x)) c.in_ok-array.array (λ z. cells_in (parts_of (arrays.FixedSizeList z))) c.into_fixed_size_list.result _ _ (ap cells_in c.into_fixed_size_list.ensures.parts)
    (subst (λ fs. Answers (λ x. cells_in (parts_of x)) (Ok c.in_ok-array.array) (read_faults m d (column_kind c.args.dtype.now (out-IpcField c.args.ipc_field.now).dictionary_id fs) p c.args.rows) (from_on (cell m d (column_kind c.args.dtype.now (out-IpcField c.args.ipc_field.now).dictionary_id fs) p) 0 c.args.rows)) c.as_slice.ensures.value (c.in_ok-array.ensures.cells m d p a known holds))
