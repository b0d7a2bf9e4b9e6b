use Rattle.std.proofs.Common.{◌≡◌, ◌∙◌, sym, ◌*◌, ◌≤◌, length, arith}
use Rattle.std.specs.List.{flat_map}
use Rattle.arrow_buffers.specs.Leaf.{fixed_row}
use Rattle.array_filter.specs.Runs.{rows_in_runs}
use Rattle.array_filter.proofs.Kept.{if_kept}
use Rattle.array_filter.proofs.Whole.{one_within, whole_bytes}
use Rattle.array_filter.proofs.bytes.take_rows.Goals as goal

pub overflow_mul-size : goal.overflow_mul-size
overflow_mul-size c =
    let within : c.args.size * c.args.held ≤ length c.args.bytes.now = one_within c.args.size c.args.held (length c.args.bytes.now) c.args.runs.now (c.is_one.ensures c.if-is_one.true) c.requires in
    omega (arith, within, c.len.ensures)

pub returns-then-len-size : goal.returns-then-len-size
returns-then-len-size c =
    let bytes = c.args.bytes.now in
    let runs = c.args.runs.now in
    let all : c.args.size * c.args.held ≡ length bytes = sym c.if-len-size.true ∙ c.len.ensures in
    if_kept c.try_clone.result (λ b. b ≡ bytes) (λ b. b ≡ flat_map (fixed_row c.args.size bytes) (rows_in_runs runs)) (λ b h. h ∙ sym (whole_bytes c.args.size c.args.held bytes runs (c.is_one.ensures c.if-is_one.true) all)) c.try_clone.ensures
