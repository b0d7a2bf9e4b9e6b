use Rattle.std.proofs.Common.{◌≡◌}
use Rattle.arrow_spec.specs.Flat.{little}
use Rattle.arrow_arrays.specs.LeafParts.{numbers, as_bytes}
use Rattle.array_filter.specs.Runs.{rows_in_runs}
use Rattle.array_filter.specs.Taken.{leaf_taken}
use Rattle.array_filter.proofs.Kept.{if_kept}
use Rattle.array_filter.proofs.Made.{bytes_taken}
use Rattle.array_filter.proofs.leaves.take_numbers.Goals as goal

pub returns : goal.returns
returns g c =
    let rows = rows_in_runs c.args.runs.now in
    let write = g.T.NativeType.written little in
    let held = c.args.array.now in
    if_kept c.take_primitive.result (λ a. a ≡ leaf_taken rows held) (λ a. numbers (as_bytes write a) ≡ numbers (leaf_taken rows (as_bytes write held))) (bytes_taken write rows held) c.take_primitive.ensures
