use Rattle.std.proofs.Common.{rules, ◌≡◌, ◌≤◌, ◌<◌, ◌∙◌, ◌+◌, ◌*◌, sym, ap, Bool, true, false, List, Some, Bor, None, length, take, get_or, slice_get, arith}
use Rattle.std.specs.List.{sum}
use Rattle.std.specs.Option.{option_map}
use Rattle.arrow_spec.specs.Cells.{null}
use Rattle.arrow_spec.specs.Arrays.{cell_or_null}
use Rattle.arrow_buffers.specs.Rows.{is_valid}
use Rattle.arrow_arrays.specs.Heads.{indexed, head_cell, joined, number_at}
use Rattle.arrow_arrays.specs.Parts.{rows_in, cells_in, cells_each, rows_each, fault_each, tree_size, trees_size}
use Rattle.arrow_arrays.specs.PartsOf.{parts_of, forest_of}
use Rattle.arrow_arrays.proofs.CellRows.{read_valid, null_told, valid_told}
use Rattle.arrow_arrays.proofs.Forests.{size_at}
use Rattle.arrow_arrays.proofs.KeyRows.{keyed_is, joined_at}
use Rattle.arrow_arrays.proofs.Sliced.{top_sound}
use Rattle.arrow_arrays.proofs.UnionPlaces.{rows_under_at, length-rows_each}
use Rattle.csv_texts.specs.Texts.{cell_text}
use Rattle.csv_rows.specs.Values.{cell_at}
use Rattle.csv_rows.proofs.CellTexts.{or_null, shows_listed, shows_mapped, shows_sized, shows_structured, shows_tagged, shows_there}
use Rattle.csv_rows.proofs.cells.+value.Goals as goal

pub dictionary_in-prove-unreachable-requires-then-is_valid_in : goal.dictionary_in-prove-unreachable-requires-then-is_valid_in
dictionary_in-prove-unreachable-requires-then-is_valid_in t c =
    let xs = c.parts-parts.result.now in
    let l : length (rows_each c.args.array.now.children) ≡ length xs = sym (ap (λ f. length (rows_each f)) c.parts-parts.ensures) ∙ length-rows_each xs in
    omega (arith, c.index-part.ensures.there)

pub dictionary_in-value_in-requires : goal.dictionary_in-value_in-requires
dictionary_in-value_in-requires t c =
    let xs = c.parts-parts.result.now in
    let k = c.index-part.result.0 in
    let x = c.index-parts-part.result in
    let s : tree_size (parts_of x) ≡ tree_size (parts_of (get_or xs k x)) = ap (λ y. tree_size (parts_of y)) c.index-parts-part.is in
    let m : tree_size (parts_of (get_or xs k x)) ≤ trees_size (forest_of xs) = size_at xs k x c.if-prove-2.false in
    let n : trees_size (forest_of xs) ≡ trees_size c.args.array.now.children = ap trees_size c.parts-parts.ensures in
    let r : get_or (rows_each c.args.array.now.children) k 0 ≡ rows_in (parts_of x) = ap (λ f. get_or (rows_each f) k 0) (sym c.parts-parts.ensures) ∙ sym (rows_under_at xs k x c.if-prove-2.false) ∙ ap (λ y. rows_in (parts_of y)) (sym c.index-parts-part.is) in
    let below : 2 * tree_size (parts_of x) + 1 < 2 * (trees_size c.args.array.now.children + 1) = omega arith in
    (search (rules, below, arith), omega (arith, c.index-part.ensures.within))

pub dictionary_in-returns-then-is_valid_in : goal.dictionary_in-returns-then-is_valid_in
dictionary_in-returns-then-is_valid_in t c = λ kind.
    let h = c.args.array.now.head in
    let cs = c.args.array.now.children in
    let xs = c.parts-parts.result.now in
    let k = c.index-part.result.0 in
    let j = c.index-part.result.1 in
    let x = c.index-parts-part.result in
    let valid : is_valid h.validity c.args.row ≡ true = read_valid h.validity (option_map (λ (bits : Bor (List Bool)). bits.now) c.validity.result) c.args.row c.is_valid_in.result true c.validity.ensures.bits c.is_valid_in.ensures c.if-is_valid_in.true in
    let sound : fault_each (forest_of xs) ≡ None = ap fault_each c.parts-parts.ensures ∙ (top_sound (indexed h) cs c.len.ensures.sound).1 in
    let r : get_or (rows_each cs) k 0 ≡ rows_in (parts_of (get_or xs k x)) = ap (λ f. get_or (rows_each f) k 0) (sym c.parts-parts.ensures) ∙ sym (rows_under_at xs k x c.if-prove-2.false) in
    ap (λ o. cell_text kind (cell_or_null o)) (valid_told (head_cell (indexed h) (cells_each cs)) h.validity c.args.row (length h.keys) c.validity.ensures.rows c.requires valid)
    ∙ ap (cell_text kind) (keyed_is (joined (cells_each cs)) (number_at h.keys c.args.row) (sum (take k (rows_each cs)) + j) c.index-part.ensures.place)
    ∙ ap (λ f. cell_text kind (get_or (joined (cells_each f)) (sum (take k (rows_each f)) + j) null)) (sym c.parts-parts.ensures)
    ∙ ap (cell_text kind) (joined_at xs k j x sound c.if-prove-2.false (omega (arith, c.index-part.ensures.within)))
    ∙ ap (λ y. cell_text kind (get_or (cells_in (parts_of y)) j null)) (sym c.index-parts-part.is)
    ∙ ap (cell_text kind) (sym (or_null (cells_in (parts_of x)) j))
    ∙ c.value_in.ensures kind

pub dictionary_in-returns-else-is_valid_in : goal.dictionary_in-returns-else-is_valid_in
dictionary_in-returns-else-is_valid_in t c = λ kind.
    let h = c.args.array.now.head in
    let valid : is_valid h.validity c.args.row ≡ false = read_valid h.validity (option_map (λ (bits : Bor (List Bool)). bits.now) c.validity.result) c.args.row c.is_valid_in.result false c.validity.ensures.bits c.is_valid_in.ensures c.if-is_valid_in.false in
    ap (λ o. cell_text kind (cell_or_null o)) (null_told (head_cell (indexed h) (cells_each c.args.array.now.children)) h.validity c.args.row (length h.keys) c.validity.ensures.rows c.requires valid)

pub value_in-returns-in-List : goal.value_in-returns-in-List
value_in-returns-in-List t c = λ kind. ap (λ a. cell_text kind (cell_at (parts_of a) c.args.row)) c.in-List.is ∙ shows_listed c.in-List.field-0.head c.in-List.field-0.children c.args.row kind

pub value_in-returns-in-FixedSizeList : goal.value_in-returns-in-FixedSizeList
value_in-returns-in-FixedSizeList t c = λ kind. ap (λ a. cell_text kind (cell_at (parts_of a) c.args.row)) c.in-FixedSizeList.is ∙ shows_sized c.in-FixedSizeList.field-0.head c.in-FixedSizeList.field-0.children c.args.row kind

pub value_in-returns-in-Map : goal.value_in-returns-in-Map
value_in-returns-in-Map t c = λ kind. ap (λ a. cell_text kind (cell_at (parts_of a) c.args.row)) c.in-Map.is ∙ shows_mapped c.in-Map.field-0.head c.in-Map.field-0.children c.args.row kind

pub value_in-returns-in-Struct : goal.value_in-returns-in-Struct
value_in-returns-in-Struct t c = λ kind. ap (λ a. cell_text kind (cell_at (parts_of a) c.args.row)) c.in-Struct.is ∙ shows_structured c.in-Struct.field-0.head c.in-Struct.field-0.children c.args.row kind

pub value_in-returns-in-Union : goal.value_in-returns-in-Union
value_in-returns-in-Union t c = λ kind. ap (λ a. cell_text kind (cell_at (parts_of a) c.args.row)) c.in-Union.is ∙ shows_tagged c.in-Union.field-0.head c.in-Union.field-0.children c.args.row kind
