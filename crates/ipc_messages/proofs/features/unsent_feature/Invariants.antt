use Rattle.std.proofs.Common.{◌≡◌, drop, map}
use Rattle.arrow_spec.specs.Features.{floats_in}
use Rattle.arrow_types.specs.Child.{fields_from}
use Rattle.arrow_types.specs.Schemas.{fields_in}
use Rattle.ipc_messages.proofs.Columns.{child_in}
use Rattle.ipc_messages.proofs.features.unsent_feature.Given as goal

abbrev pub invariant-loop-i : goal.invariant-loop-i
invariant-loop-i l = record { left : floats_in (fields_in l.schema) ≡ floats_in (fields_from (drop l.i (map child_in l.schema))) }
