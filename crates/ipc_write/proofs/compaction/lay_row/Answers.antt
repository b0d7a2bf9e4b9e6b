use Rattle.std.proofs.Common.{◌≡◌, length, arith, ap, ◌∙◌}
use Rattle.arrow_spec.specs.Arrays.{u32_of}
use Rattle.arrow_types.specs.Physical.{physical_of}
use Rattle.arrow_buffers.specs.Rows.{is_valid}
use Rattle.arrow_buffers.specs.Layouts.{is_view}
use Rattle.arrow_buffers.specs.Views.{view_at}
use Rattle.ipc_write.specs.Compaction.{value_at}
use Rattle.ipc_write.proofs.Laying.{null_put, long_put, same_few, few_on, some_value, no_value, value_size}
use Rattle.ipc_write.proofs.compaction.lay_row.Goals as goal

pub returns-in_default-clause-rest : goal.returns-in_default-clause-rest
returns-in_default-clause-rest g c =
    let p = c.args.array.now in
    null_put c.extend_from_slice.result p c.args.row c.args.laying.now.views.items _ _ _ (no_value (is_valid p.validity c.args.row) (value_at p c.args.row) c.in_default.ensures) c.extend_from_slice.ensures.items

pub lay_long-requires-clause-long : goal.lay_long-requires-clause-long
lay_long-requires-clause-long g c =
    let p = c.args.array.now in
    let v = some_value (is_valid p.validity c.args.row) c.in-Some.bytes.now (value_at p c.args.row) c.in-Some.ensures in
    let count : c.number_at-count.result ≡ u32_of (view_at p.views c.args.row) 0 = c.number_at-count.ensures.number ∙ ap (λ x. u32_of x 0) (c.view_at-view.ensures.view ∙ ap (λ x. view_at x c.args.row) (c.as_slice.ensures ∙ c.views.ensures)) in
    let size = value_size g.V.ViewType.IS_TEXT (is_view g.V.ViewType.IS_TEXT (physical_of p.kind)) p c.args.row c.requires.sound c.requires.row v.0 (omega (arith, count, c.if-count-le-SHORT.false)) in
    omega (arith, size, count, ap length v.1, c.if-count-le-SHORT.false)

pub lay_long-requires-clause-small : goal.lay_long-requires-clause-small
lay_long-requires-clause-small g c =
    let p = c.args.array.now in
    let v = some_value (is_valid p.validity c.args.row) c.in-Some.bytes.now (value_at p c.args.row) c.in-Some.ensures in
    let count : c.number_at-count.result ≡ u32_of (view_at p.views c.args.row) 0 = c.number_at-count.ensures.number ∙ ap (λ x. u32_of x 0) (c.view_at-view.ensures.view ∙ ap (λ x. view_at x c.args.row) (c.as_slice.ensures ∙ c.views.ensures)) in
    let size = value_size g.V.ViewType.IS_TEXT (is_view g.V.ViewType.IS_TEXT (physical_of p.kind)) p c.args.row c.requires.sound c.requires.row v.0 (omega (arith, count, c.if-count-le-SHORT.false)) in
    omega (arith, size, count, ap length v.1, c.number_at-count.ensures.small)

pub returns-clause-rest : goal.returns-clause-rest
returns-clause-rest g c =
    let p = c.args.array.now in
    let v = some_value (is_valid p.validity c.args.row) c.in-Some.bytes.now (value_at p c.args.row) c.in-Some.ensures in
    let count : c.number_at-count.result ≡ u32_of (view_at p.views c.args.row) 0 = c.number_at-count.ensures.number ∙ ap (λ x. u32_of x 0) (c.view_at-view.ensures.view ∙ ap (λ x. view_at x c.args.row) (c.as_slice.ensures ∙ c.views.ensures)) in
    long_put c.lay_long.result p c.args.row c.args.laying.now.views.items c.make_room.new.laying.views.items c.in-Some.bytes.now c.lay_long.new.laying.views.items c.args.laying.now.begun.items c.make_room.new.laying.begun.items c.lay_long.new.laying.begun.items
    c.args.laying.now.buffers.items c.make_room.new.laying.buffers.items c.lay_long.new.laying.buffers.items c.number_at-count.result v.0 (omega (arith, c.if-count-le-SHORT.false)) count v.1 (ap (λ x. x.items) c.in_ok-make_room.ensures.views) c.in_ok-make_room.ensures.buffers c.in_ok-make_room.ensures.begun
    c.lay_long.ensures.views (ap (λ x. x.items) c.lay_long.ensures.buffers) c.lay_long.ensures.begun

pub returns-in_default-clause-few : goal.returns-in_default-clause-few
returns-in_default-clause-few g c = same_few c.extend_from_slice.result (length c.args.laying.now.buffers.items)

pub returns-clause-few : goal.returns-clause-few
returns-clause-few g c = few_on c.lay_long.result (length c.args.laying.now.buffers.items) (length c.lay_long.new.laying.buffers.items) c.lay_long.ensures.few
