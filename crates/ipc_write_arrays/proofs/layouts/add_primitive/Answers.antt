use Rattle.std.proofs.Common.{ap, sym, ◌∙◌, length}
use Rattle.std.specs.List.{flat_map}
use Rattle.arrow_spec.specs.Flat.{order_by}
use Rattle.arrow_types.specs.Physical.{physical_of}
use Rattle.arrow_buffers.specs.Layouts.{is_primitive}
use Rattle.arrow_arrays.proofs.NumberParts.{leaf_suits}
use Rattle.ipc_bodies.proofs.Adding.{appends_as, appends_then}
use Rattle.ipc_write_arrays.proofs.LayoutKinds.{numbers_turned, leaf_same}
use Rattle.ipc_write_arrays.proofs.layouts.add_primitive.Goals as goal

pub returns : goal.returns
returns g c =
    let a = c.args.array.now in
    let order = order_by c.args.is_little_endian in
    let write = g.T.NativeType.written in
    let p = g.T.NativeType.PRIMITIVE in
    let turned = numbers_turned write p order a.kind a.values c.requires.turned (leaf_suits (is_primitive p (physical_of a.kind)) (length a.values) a.validity c.len-rows.ensures.sound) in
    let values = ap (flat_map (write order)) c.values.ensures ∙ sym turned in
    appends_as c.add_numbers.result _ _ _ _ (leaf_same _ _ _ _ c.validity.ensures.bits values) (appends_then c.add_numbers.result _ _ _ _ _ c.in_ok-add_validity.ensures c.add_numbers.ensures.bytes)
