use Rattle.std.proofs.Common.{◌≡◌, take}
use Rattle.arrow_arrays.specs.PartsOf.{all_parts_of}
use Rattle.arrow_arrays.proofs.+copy.Given as goal

abbrev pub invariant-structs::clone_each-loop-array : goal.invariant-structs::clone_each-loop-array
invariant-structs::clone_each-loop-array l = all_parts_of l.clones.items ≡ all_parts_of (take l.array-index l.arrays)
