use Rattle.std.proofs.Common.{◌≡◌, [], ◌∷◌, ◌++◌, true, refl, ap, ◌∙◌}
use Rattle.arrow_spec.specs.Flat.{order_by}
use Rattle.arrow_arrays.specs.Nodes.{node_in, counts_in}
use Rattle.arrow_arrays.specs.Parts.{Parts, leaf, nested}
use Rattle.arrow_arrays.specs.PartsOf.{parts_of}
use Rattle.ipc_write_arrays.specs.Pieces.{tree_nodes, tree_pieces}
use Rattle.ipc_write_arrays.specs.Trims.{has_no_children}
use Rattle.ipc_write_arrays.proofs.Behind.{put_ok, put_err}
use Rattle.ipc_write_arrays.proofs.leaves.add_leaf.Goals as goal

one_node : (p : Parts) → has_no_children p ≡ true → node_in p ∷ [] ≡ tree_nodes p
one_node (leaf l) e = refl
one_node (nested h cs) e = cc

pub returns-clause-ok : goal.returns-clause-ok
returns-clause-ok c =
    let p = parts_of c.args.array.now in
    let o = c.args.out.now in
    let node = c.in_ok-push_own_node.ensures ∙ ap (λ l. o.nodes.items ++ l) (one_node p c.requires.leaf) in
    put_ok c.add_buffers.result (tree_nodes p) (tree_pieces (order_by c.args.is_little_endian) p) (counts_in p) o.nodes.items c.push_own_node.new.nodes.items o.buffers.items c.add_buffers.new.buffers.items o.views.items c.push_view_count.new.variadic.items node c.add_buffers.ensures.bytes c.in_ok-push_view_count.ensures

pub returns-clause-err : goal.returns-clause-err
returns-clause-err c =
    let p = parts_of c.args.array.now in
    let o = c.args.out.now in
    put_err c.add_buffers.result (node_in p ∷ []) (tree_pieces (order_by c.args.is_little_endian) p) (counts_in p) o.nodes.items c.push_own_node.new.nodes.items o.buffers.items c.add_buffers.new.buffers.items o.views.items c.push_view_count.new.variadic.items c.in_ok-push_own_node.ensures c.add_buffers.ensures.bytes c.in_ok-push_view_count.ensures
