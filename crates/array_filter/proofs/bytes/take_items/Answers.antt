use Rattle.std.proofs.Common.{◌≡◌, ◌∙◌, sym, ap, ◌*◌, length, not, arith}
use Rattle.std.specs.List.{flat_map}
use Rattle.std.specs.Rc.{rc_slice_items}
use Rattle.arrow_spec.specs.Flat.{order_by}
use Rattle.arrow_buffers.specs.Items.{items_at}
use Rattle.arrow_buffers.specs.Leaf.{fixed_row}
use Rattle.array_filter.specs.Runs.{rows_in_runs}
use Rattle.array_filter.specs.Rows.{taken}
use Rattle.array_filter.proofs.Kept.{if_kept}
use Rattle.array_filter.proofs.Made.{items_kept, kept_size}
use Rattle.array_filter.proofs.RunLaws.{climb_below, climb_within}
use Rattle.array_filter.proofs.RunSteps.{climb_as}
use Rattle.array_filter.proofs.Whole.{whole_items}
use Rattle.array_filter.proofs.bytes.take_items.Goals as goal

pub returns-then-is_one : goal.returns-then-is_one
returns-then-is_one g c =
    let items = c.args.items.now in
    let runs = c.args.runs.now in
    if_kept c.try_clone.result (λ b. b ≡ items) (λ b. b ≡ taken (rows_in_runs runs) items) (λ b h. h ∙ sym (whole_items items runs c.len.result c.len.ensures (c.is_one.ensures c.if-is_one.true))) c.try_clone.ensures

pub row_count-count-requires : goal.row_count-count-requires
row_count-count-requires g c = climb_as c.args.runs.now (length c.args.items.now) c.len-2.result c.len-2.ensures c.requires

pub take_bytes-requires : goal.take_bytes-requires
take_bytes-requires g c =
    climb_within c.WIDTH.result 0 c.args.runs.now (length c.args.items.now) (length c.as_slice.result.now) c.requires
    (omega (arith, ap length c.as_slice.ensures, c.in_ok-bytes.ensures.size, ap (λ w. w * length c.args.items.now) c.WIDTH.ensures))

pub shared-requires : goal.shared-requires
shared-requires g c =
    let w = g.T.NativeType.WIDTH in
    let rows = rows_in_runs c.args.runs.now in
    let n = length c.args.items.now in
    let kept : rc_slice_items c.in_ok-from_vec.field-0 ≡ flat_map (fixed_row w c.in_ok-bytes.bytes) rows =
    c.in_ok-from_vec.ensures ∙ c.in_ok-taken.ensures ∙ ap (λ k. flat_map (fixed_row k c.as_slice.result.now) rows) c.WIDTH.ensures ∙ ap (λ xs. flat_map (fixed_row w xs) rows) c.as_slice.ensures in
    let size = ap length kept ∙ kept_size w c.in_ok-bytes.bytes rows n c.in_ok-bytes.ensures.size (climb_below 0 c.args.runs.now n c.requires) in
    omega (arith, size, ap (λ m. w * m) c.row_count-count.ensures.rows)

pub returns : goal.returns
returns g c =
    let w = g.T.NativeType.WIDTH in
    let read = g.T.NativeType.read in
    let order = order_by (not c.in_ok-bytes.is_big_endian) in
    let rows = rows_in_runs c.args.runs.now in
    let n = length c.args.items.now in
    let kept : rc_slice_items c.in_ok-from_vec.field-0 ≡ flat_map (fixed_row w c.in_ok-bytes.bytes) rows =
    c.in_ok-from_vec.ensures ∙ c.in_ok-taken.ensures ∙ ap (λ k. flat_map (fixed_row k c.as_slice.result.now) rows) c.WIDTH.ensures ∙ ap (λ xs. flat_map (fixed_row w xs) rows) c.as_slice.ensures in
    c.shared.ensures ∙ ap (λ bs. items_at read w order bs 0 c.row_count-count.result) kept ∙ ap (items_at read w order (flat_map (fixed_row w c.in_ok-bytes.bytes) rows) 0) c.row_count-count.ensures.rows
    ∙ items_kept read w order c.in_ok-bytes.bytes rows n c.args.items.now c.in_ok-bytes.ensures.items c.in_ok-bytes.ensures.size (climb_below 0 c.args.runs.now n c.requires)
