use Rattle.std.proofs.Common.{◌≡◌}
use Rattle.arrow_spec.specs.Flat.{order_by}
use Rattle.arrow_types.specs.Numbers.{offsets_by}
use Rattle.ipc_bodies.proofs.Adding.{appends_as, appends_then}
use Rattle.ipc_write_arrays.specs.Pieces.{width_of_kind}
use Rattle.ipc_write_arrays.proofs.Adding.{if_any}
use Rattle.ipc_write_arrays.proofs.LayoutKinds.{variable_width, variable_same, offsets_fit}
use Rattle.ipc_write_arrays.proofs.layouts.add_variable.Goals as goal

pub returns-clause-bytes : goal.returns-clause-bytes
returns-clause-bytes g c =
    let a = c.args.array.now in
    let l = g.O.Offset.IS_LARGE in
    let r = c.add_between.result in
    let w : width_of_kind a.kind ≡ offsets_by l = variable_width g.V.ViewType.IS_TEXT l a c.len-rows.ensures.sound in
    appends_as r _ _ _ _ (variable_same (order_by c.args.is_little_endian) (offsets_by l) a _ _ _ c.validity.ensures.bits c.offsets-offsets.ensures c.values-values.ensures w)
    (appends_then r _ _ _ _ _ c.in_ok-add_validity.ensures (appends_then r _ _ _ _ _ c.in_ok-add_offsets.ensures.bytes c.add_between.ensures))

pub returns-clause-fit : goal.returns-clause-fit
returns-clause-fit g c =
    let a = c.args.array.now in
    let l = g.O.Offset.IS_LARGE in
    let w : width_of_kind a.kind ≡ offsets_by l = variable_width g.V.ViewType.IS_TEXT l a c.len-rows.ensures.sound in
    if_any c.add_between.result (offsets_fit l a.kind _ a.offsets w c.offsets-offsets.ensures c.in_ok-add_offsets.ensures.below)
