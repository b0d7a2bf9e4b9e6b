use Rattle.std.proofs.Common.{◌≡◌, ◌+◌, ◌*◌, drop}
use Rattle.arrow_spec.specs.Flat.{order_by}
use Rattle.arrow_arrays.specs.Heads.{listed, mapped, sized, structured, tagged, Reaches}
use Rattle.arrow_arrays.specs.Parts.{nested, rows_each, tree_size, trees_size}
use Rattle.arrow_arrays.specs.PartsOf.{parts_of, forest_of}
use Rattle.ipc_write_arrays.specs.Trims.{trim_each}
use Rattle.ipc_write_arrays.specs.CutsOf.{cut_in}
use Rattle.ipc_write_arrays.specs.Pieces.{FitEach}
use Rattle.ipc_write_arrays.specs.Outputs.{Outputs, outputs, each_behind, KeptAll}
use Rattle.ipc_write_arrays.proofs.trees.+add.Given as goal

abbrev pub decreases-add_rows : goal.decreases-add_rows
decreases-add_rows l = 3 * tree_size (parts_of l.array.now) + 1

abbrev pub decreases-add_list : goal.decreases-add_list
decreases-add_list l = 3 * tree_size (nested (listed l.list.now.head) l.list.now.children)

abbrev pub decreases-add_map : goal.decreases-add_map
decreases-add_map l = 3 * tree_size (nested (mapped l.maps.now.head) l.maps.now.children)

abbrev pub decreases-add_listed : goal.decreases-add_listed
decreases-add_listed l = 3 * tree_size (parts_of l.values.now) + 2

abbrev pub decreases-add_sized : goal.decreases-add_sized
decreases-add_sized l = 3 * tree_size (nested (sized l.lists.now.head) l.lists.now.children)

abbrev pub decreases-add_union : goal.decreases-add_union
decreases-add_union l = 3 * tree_size (nested (tagged l.union.now.head) l.union.now.children)

abbrev pub decreases-add_struct : goal.decreases-add_struct
decreases-add_struct l = 3 * tree_size (nested (structured l.columns.now.head) l.columns.now.children)

abbrev pub decreases-add_each : goal.decreases-add_each
decreases-add_each l = 3 * trees_size (forest_of l.arrays.now) + 2

-- what is added so far, and what is left comes to what all come to
abbrev pub invariant-add_each-loop-array : goal.invariant-add_each-loop-array
invariant-add_each-loop-array l =
    let order = order_by l.is_little_endian in
    let now : Outputs = outputs l.out.nodes.items l.out.buffers.items l.out.views.items in
    let first : Outputs = outputs l.initial.out.nodes.items l.initial.out.buffers.items l.initial.out.views.items in
    let rest = trim_each (cut_in l.cut) (forest_of (drop l.array-index l.arrays)) in
    let all = trim_each (cut_in l.cut) (forest_of l.arrays) in
    record {
      reaches : Reaches (cut_in l.cut) (rows_each (forest_of (drop l.array-index l.arrays)));
      put : each_behind order rest now ≡ each_behind order all first;
      kept : KeptAll first now;
      fit : FitEach rest → FitEach all;
    }
