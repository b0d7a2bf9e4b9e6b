use Rattle.std.proofs.Common.{rules, ◌≡◌, ◌≤◌, ◌<◌, ◌∙◌, ◌+◌, ◌*◌, sym, ap, Bool, true, false, List, Bor, None, length, take, get_or, arith}
use Rattle.std.specs.List.{sum}
use Rattle.std.specs.Option.{option_map}
use Rattle.arrow_spec.specs.Cells.{null}
use Rattle.arrow_spec.specs.Arrays.{cell_or_null}
use Rattle.arrow_buffers.specs.Rows.{is_valid}
use Rattle.arrow_arrays.specs.Heads.{indexed, head_cell, joined, number_at}
use Rattle.arrow_arrays.specs.Parts.{rows_in, cells_in, cells_each, rows_each, fault_each, tree_size, trees_size}
use Rattle.arrow_arrays.specs.PartsOf.{parts_of, forest_of}
use Rattle.arrow_arrays.proofs.CellRows.{read_valid, null_told, valid_told}
use Rattle.arrow_arrays.proofs.Forests.{size_at}
use Rattle.arrow_arrays.proofs.KeyRows.{keyed_is, joined_at}
use Rattle.arrow_arrays.proofs.Sliced.{top_sound}
use Rattle.arrow_arrays.proofs.UnionPlaces.{rows_under_at, length-rows_each}
use Rattle.row_filters.specs.Filters.{meets}
use Rattle.row_filters.proofs.NoNumbers.{at_fixed_size_list, at_list, at_map, at_struct, at_union, or_null}
use Rattle.row_filters.proofs.marks.+meets.Goals as goal

pub value_meets-prove-unreachable-requires-then-is_valid_in : goal.value_meets-prove-unreachable-requires-then-is_valid_in
value_meets-prove-unreachable-requires-then-is_valid_in t c =
    let xs = c.parts-parts.result.now in
    let l : length (rows_each c.args.array.now.children) ≡ length xs = sym (ap (λ f. length (rows_each f)) c.parts-parts.ensures) ∙ length-rows_each xs in
    omega (arith, c.index-part.ensures.there)

pub value_meets-meets-requires : goal.value_meets-meets-requires
value_meets-meets-requires t c =
    let xs = c.parts-parts.result.now in
    let k = c.index-part.result.0 in
    let x = c.index-parts-part.result in
    let s : tree_size (parts_of x) ≡ tree_size (parts_of (get_or xs k x)) = ap (λ y. tree_size (parts_of y)) c.index-parts-part.is in
    let m : tree_size (parts_of (get_or xs k x)) ≤ trees_size (forest_of xs) = size_at xs k x c.if-prove-2.false in
    let n : trees_size (forest_of xs) ≡ trees_size c.args.array.now.children = ap trees_size c.parts-parts.ensures in
    let r : get_or (rows_each c.args.array.now.children) k 0 ≡ rows_in (parts_of x) = ap (λ f. get_or (rows_each f) k 0) (sym c.parts-parts.ensures) ∙ sym (rows_under_at xs k x c.if-prove-2.false) ∙ ap (λ y. rows_in (parts_of y)) (sym c.index-parts-part.is) in
    let below : 2 * tree_size (parts_of x) + 1 < 2 * (trees_size c.args.array.now.children + 1) = omega arith in
    (search (rules, below, arith), omega (arith, c.index-part.ensures.within))

pub value_meets-returns-then-is_valid_in : goal.value_meets-returns-then-is_valid_in
value_meets-returns-then-is_valid_in t c =
    let f = c.args.filter in
    let h = c.args.array.now.head in
    let cs = c.args.array.now.children in
    let xs = c.parts-parts.result.now in
    let k = c.index-part.result.0 in
    let j = c.index-part.result.1 in
    let x = c.index-parts-part.result in
    let valid : is_valid h.validity c.args.row ≡ true = read_valid h.validity (option_map (λ (bits : Bor (List Bool)). bits.now) c.validity.result) c.args.row c.is_valid_in.result true c.validity.ensures.bits c.is_valid_in.ensures c.if-is_valid_in.true in
    let sound : fault_each (forest_of xs) ≡ None = ap fault_each c.parts-parts.ensures ∙ (top_sound (indexed h) cs c.len.ensures.sound).1 in
    c.meets.ensures
    ∙ ap (meets f) (or_null (cells_in (parts_of x)) j)
    ∙ ap (λ y. meets f (get_or (cells_in (parts_of y)) j null)) c.index-parts-part.is
    ∙ ap (meets f) (sym (joined_at xs k j x sound c.if-prove-2.false (omega (arith, c.index-part.ensures.within, ap (λ f. get_or (rows_each f) k 0) (sym c.parts-parts.ensures) ∙ sym (rows_under_at xs k x c.if-prove-2.false)))))
    ∙ ap (λ f2. meets f (get_or (joined (cells_each f2)) (sum (take k (rows_each f2)) + j) null)) c.parts-parts.ensures
    ∙ ap (meets f) (sym (keyed_is (joined (cells_each cs)) (number_at h.keys c.args.row) (sum (take k (rows_each cs)) + j) c.index-part.ensures.place))
    ∙ ap (λ o. meets f (cell_or_null o)) (sym (valid_told (head_cell (indexed h) (cells_each cs)) h.validity c.args.row (length h.keys) c.validity.ensures.rows c.requires valid))

pub value_meets-returns-else-is_valid_in : goal.value_meets-returns-else-is_valid_in
value_meets-returns-else-is_valid_in t c =
    let h = c.args.array.now.head in
    let valid : is_valid h.validity c.args.row ≡ false = read_valid h.validity (option_map (λ (bits : Bor (List Bool)). bits.now) c.validity.result) c.args.row c.is_valid_in.result false c.validity.ensures.bits c.is_valid_in.ensures c.if-is_valid_in.false in
    ap (λ o. meets c.args.filter (cell_or_null o)) (sym (null_told (head_cell (indexed h) (cells_each c.args.array.now.children)) h.validity c.args.row (length h.keys) c.validity.ensures.rows c.requires valid))

pub meets-returns-in-List : goal.meets-returns-in-List
meets-returns-in-List t c = at_list _ _ c.args.filter c.args.row c.in-List.is

pub meets-returns-in-FixedSizeList : goal.meets-returns-in-FixedSizeList
meets-returns-in-FixedSizeList t c = at_fixed_size_list _ _ c.args.filter c.args.row c.in-FixedSizeList.is

pub meets-returns-in-Map : goal.meets-returns-in-Map
meets-returns-in-Map t c = at_map _ _ c.args.filter c.args.row c.in-Map.is

pub meets-returns-in-Struct : goal.meets-returns-in-Struct
meets-returns-in-Struct t c = at_struct _ _ c.args.filter c.args.row c.in-Struct.is

pub meets-returns-in-Union : goal.meets-returns-in-Union
meets-returns-in-Union t c = at_union _ _ c.args.filter c.args.row c.in-Union.is
