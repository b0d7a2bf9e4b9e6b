use Rattle.std.proofs.Common.{take}
use Rattle.arrow_types.specs.Schemas.{fields_in}
use Rattle.ipc_fields.specs.IpcFields.{ids_of}
use Rattle.schema_writer.specs.Defaults.{AreDefault}
use Rattle.schema_writer.proofs.write.defaults.schema_defaults.Given as goal

abbrev pub invariant-loop-i : goal.invariant-loop-i
invariant-loop-i l = AreDefault (fields_in (take l.i l.schema)) l.fn.next l.next (ids_of l.ipc_fields.items)
