use Rattle.std.proofs.Common.{IfOk, subst}
use Rattle.arrow_spec.specs.Flat.{order_by}
use Rattle.arrow_arrays.specs.Heads.{indexed}
use Rattle.arrow_arrays.specs.Parts.{nested}
use Rattle.arrow_arrays.specs.PartsOf.{parts_of}
use Rattle.arrow_arrays.specs.declared.array.Array.TheVariants.{Dictionary}
use Rattle.ipc_write_arrays.specs.Pieces.{IsMeant}
use Rattle.ipc_write.specs.Additions.{Adds, target}
use Rattle.ipc_write.proofs.Additions.{written}
use Rattle.ipc_write.proofs.dictionary.add_keys.Goals as goal

pub returns-clause-adds : goal.returns-clause-adds
returns-clause-adds c =
    let e = c.write-done.ensures in
    let a = c.args in
    let n = c.write-done.new in
    let copy = c.in_ok-copy.copy in
    subst (λ d. Adds c.write-done.result (order_by a.is_little_endian) (nested (indexed d.head) d.children) (target a.nodes.now.items a.buffers.now.items a.arrow_data.now.items a.variadic.now.items a.offset.now)
    (target n.nodes.items n.buffers.items n.arrow_data.items n.variadic.items n.offset)) c.in_ok-copy.ensures
    (written c.write-done.result (order_by a.is_little_endian) (parts_of (Dictionary copy)) (target a.nodes.now.items a.buffers.now.items a.arrow_data.now.items a.variadic.now.items a.offset.now)
    (target n.nodes.items n.buffers.items n.arrow_data.items n.variadic.items n.offset) e.nodes e.buffers e.body e.views e.offset e.err e.err_nodes e.err_buffers e.err_body e.err_views e.err_offset)

pub returns-clause-means : goal.returns-clause-means
returns-clause-means c =
    subst (λ d. IfOk c.write-done.result (λ _. IsMeant (order_by c.args.is_little_endian) (nested (indexed d.head) d.children))) c.in_ok-copy.ensures c.write-done.ensures.means
