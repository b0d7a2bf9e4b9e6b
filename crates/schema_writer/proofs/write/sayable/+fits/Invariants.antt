use Rattle.std.proofs.Common.{◌≡◌, drop}
use Rattle.arrow_types.specs.KindOf.{fields_of}
use Rattle.ipc_fields.specs.IpcFields.{ids_of, fields_with}
use Rattle.schema_writer.specs.Tables.{all_fit}
use Rattle.schema_writer.proofs.write.sayable.+fits.Given as goal

abbrev pub invariant-all_fit-loop-i : goal.invariant-all_fit-loop-i
invariant-all_fit-loop-i l = all_fit (fields_with (fields_of (drop l.i l.fields)) (ids_of (drop l.i l.below))) ≡ all_fit (fields_with (fields_of l.fields) (ids_of l.below))
