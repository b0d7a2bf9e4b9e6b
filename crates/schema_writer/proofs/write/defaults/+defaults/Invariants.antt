use Rattle.std.proofs.Common.{take}
use Rattle.arrow_types.specs.KindOf.{fields_of}
use Rattle.ipc_fields.specs.IpcFields.{ids_of}
use Rattle.schema_writer.specs.Defaults.{AreDefault}
use Rattle.schema_writer.proofs.write.defaults.+defaults.Given as goal

abbrev pub invariant-defaults_of-loop-field : goal.invariant-defaults_of-loop-field
invariant-defaults_of-loop-field l = AreDefault (fields_of (take l.field-index l.fields)) l.fn.next l.next (ids_of l.ipc_fields.items)
