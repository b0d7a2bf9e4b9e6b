use Rattle.std.proofs.Common.{◌≡◌, take, None}
use Rattle.arrow_arrays.specs.Parts.{fault_each}
use Rattle.arrow_arrays.specs.PartsOf.{all_parts_of, forest_of}
use Rattle.ipc_read.proofs.dictionaries.clone_parts.Given as goal

abbrev pub invariant-loop-part : goal.invariant-loop-part
invariant-loop-part l = record {
  parts : all_parts_of l.copies.items ≡ all_parts_of (take l.part-index l.parts);
  sound : fault_each (forest_of l.copies.items) ≡ None;
}
