use Rattle.arrow_spec.specs.Flat.{order_by}
use Rattle.arrow_arrays.specs.PartsOf.{parts_of}
use Rattle.ipc_write.specs.Additions.{target}
use Rattle.ipc_write.proofs.Additions.{written}
use Rattle.ipc_write.proofs.dictionary.add_values.Goals as goal

pub returns-clause-adds : goal.returns-clause-adds
returns-clause-adds c =
    let e = c.write.ensures in
    let a = c.args in
    let n = c.write.new in
    written c.write.result (order_by a.is_little_endian) (parts_of a.array.now) (target a.nodes.now.items a.buffers.now.items a.arrow_data.now.items a.variadic.now.items a.offset.now)
    (target n.nodes.items n.buffers.items n.arrow_data.items n.variadic.items n.offset) e.nodes e.buffers e.body e.views e.offset e.err e.err_nodes e.err_buffers e.err_body e.err_views e.err_offset
