use Rattle.std.proofs.Common.{◌≡◌, drop, map}
use Rattle.arrow_spec.specs.Features.{floats_in}
use Rattle.arrow_types.specs.Child.{fields_from}
use Rattle.arrow_types.specs.KindOf.{child_of, fields_of}
use Rattle.ipc_messages.proofs.features.+features.Given as goal

abbrev pub invariant-fields_feature-loop-field : goal.invariant-fields_feature-loop-field
invariant-fields_feature-loop-field l = record { left : floats_in (fields_of l.fields) ≡ floats_in (fields_from (drop l.field-index (map child_of l.fields))) }
