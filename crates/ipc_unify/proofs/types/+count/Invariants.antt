use Rattle.std.proofs.Common.{◌≡◌, ◌+◌, drop}
use Rattle.arrow_spec.specs.Kinds.{dictionary_counts}
use Rattle.arrow_types.specs.KindOf.{fields_of}
use Rattle.ipc_unify.proofs.types.+count.Given as goal

abbrev pub invariant-count_under-loop-field : goal.invariant-count_under-loop-field
invariant-count_under-loop-field l = l.count + dictionary_counts (fields_of (drop l.field-index l.fields)) ≡ dictionary_counts (fields_of l.fields)
