use Rattle.std.proofs.Common.{◌≡◌, ◌≤◌, ◌<◌, ◌∙◌, sym, ap, [], Some, length, pos, get_or, arith, rules, SFits, to_z, of_z}
use Rattle.std.specs.Int.{w8}
use Rattle.std.proofs.lemmas.Int.{to_z-of_z}
use Rattle.arrow_spec.specs.Cells as cells
use Rattle.arrow_arrays.specs.Heads.{tagged, head_cell, number_at, child_place}
use Rattle.arrow_arrays.specs.Parts.{rows_in, cells_in, cells_each, rows_each, tree_size, trees_size}
use Rattle.arrow_arrays.specs.PartsOf.{parts_of, forest_of}
use Rattle.arrow_arrays.proofs.CellRows.{get-row}
use Rattle.arrow_arrays.proofs.Forests.{size_at}
use Rattle.arrow_arrays.proofs.SameRows.{told_at}
use Rattle.arrow_arrays.proofs.UnionPlaces.{cells_under_at, rows_under_at, length-rows_each}
use Rattle.arrow_arrays.proofs.rows.union_in.Goals as goal

pub prove-unreachable-requires : goal.prove-unreachable-requires
prove-unreachable-requires c =
    let xs = c.fields-fields.result.now in
    let l : length (rows_each c.args.array.now.children) ≡ length xs = sym (ap (λ t. length (rows_each t)) c.fields-fields.ensures) ∙ length-rows_each xs in
    omega (arith, c.index-child.ensures.there, l)

pub returns-clause-cell : goal.returns-clause-cell
returns-clause-cell c =
    let h = c.args.array.now.head in
    let cs = c.args.array.now.children in
    let row = c.args.row in
    let xs = c.fields-fields.result.now in
    let k = c.index-child.result.0 in
    let x = c.index-fields-child.result in
    let l : length (rows_each cs) ≡ length xs = sym (ap (λ t. length (rows_each t)) c.fields-fields.ensures) ∙ length-rows_each xs in
    let below : k < length xs = omega (arith, c.index-child.ensures.there) in
    let fits : SFits w8 c.get.result = search rules in
    let t : number_at h.types row ≡ to_z w8 (of_z w8 c.get.result) = ap (λ ts. number_at ts row) (sym c.types.ensures) ∙ told_at c.types.result.now row (pos 0) c.get.result c.get.ensures ∙ sym (to_z-of_z w8 c.get.result fits) in
    let u : get_or (cells_each cs) k [] ≡ cells_in (parts_of x) = ap (λ t. get_or (cells_each t) k []) (sym c.fields-fields.ensures) ∙ cells_under_at xs k x below ∙ ap (λ y. cells_in (parts_of y)) (sym c.index-fields-child.is) in
    get-row (head_cell (tagged h) (cells_each cs)) (length h.types) row c.requires
    ∙ ap (λ i. Some (cells.tagged (number_at h.types row) (get_or (get_or (cells_each cs) i []) (child_place h.offsets row) cells.null))) (sym c.index-child.ensures.child)
    ∙ ap (λ ys. Some (cells.tagged (number_at h.types row) (get_or ys (child_place h.offsets row) cells.null))) u
    ∙ ap (λ i. Some (cells.tagged (number_at h.types row) (get_or (cells_in (parts_of x)) i cells.null))) (sym c.index-child.ensures.place)
    ∙ ap (λ z. Some (cells.tagged z (get_or (cells_in (parts_of x)) c.index-child.result.1 cells.null))) t

pub returns-clause-inside : goal.returns-clause-inside
returns-clause-inside c =
    let cs = c.args.array.now.children in
    let xs = c.fields-fields.result.now in
    let k = c.index-child.result.0 in
    let x = c.index-fields-child.result in
    let l : length (rows_each cs) ≡ length xs = sym (ap (λ t. length (rows_each t)) c.fields-fields.ensures) ∙ length-rows_each xs in
    let below : k < length xs = omega (arith, c.index-child.ensures.there) in
    let r : get_or (rows_each cs) k 0 ≡ rows_in (parts_of x) = ap (λ t. get_or (rows_each t) k 0) (sym c.fields-fields.ensures) ∙ sym (rows_under_at xs k x below) ∙ ap (λ y. rows_in (parts_of y)) (sym c.index-fields-child.is) in
    omega (arith, c.index-child.ensures.within)

pub returns-clause-smaller : goal.returns-clause-smaller
returns-clause-smaller c =
    let cs = c.args.array.now.children in
    let xs = c.fields-fields.result.now in
    let k = c.index-child.result.0 in
    let x = c.index-fields-child.result in
    let l : length (rows_each cs) ≡ length xs = sym (ap (λ t. length (rows_each t)) c.fields-fields.ensures) ∙ length-rows_each xs in
    let below : k < length xs = omega (arith, c.index-child.ensures.there) in
    let s : tree_size (parts_of x) ≡ tree_size (parts_of (get_or xs k x)) = ap (λ y. tree_size (parts_of y)) c.index-fields-child.is in
    let m : tree_size (parts_of (get_or xs k x)) ≤ trees_size (forest_of xs) = size_at xs k x below in
    let n : trees_size (forest_of xs) ≡ trees_size cs = ap trees_size c.fields-fields.ensures in
    omega arith
