use Rattle.std.proofs.Common.{◌≡◌, drop}
use Rattle.arrow_types.specs.KindOf.{fields_of}
use Rattle.ipc_fields.specs.Representable.{all_representable}
use Rattle.ipc_fields.proofs.representable.+representable.Given as goal

abbrev pub invariant-all_representable-loop-field : goal.invariant-all_representable-loop-field
invariant-all_representable-loop-field l = all_representable (fields_of (drop l.field-index l.fields)) ≡ all_representable (fields_of l.fields)
