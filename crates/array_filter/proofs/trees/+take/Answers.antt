use Rattle.std.proofs.Common.{rules, ◌≡◌, ◌∙◌, sym, ap, subst, ◌*◌, ◌≤◌, length, map, get_or, None, arith}
use Rattle.std.specs.Option.{option_map}
use Rattle.std.proofs.lemmas.Bool.{and_parts}
use Rattle.std.proofs.lemmas.List.{take_all}
use Rattle.arrow_spec.specs.Kinds.{small}
use Rattle.arrow_types.specs.KindOf.{kind_of}
use Rattle.arrow_buffers.specs.Variable.{are_offsets, variable_rows}
use Rattle.arrow_arrays.specs.Heads.{listed, mapped, sized, structured, tagged, are_all, first_or_0, is_map, list_size, tagged_rows}
use Rattle.arrow_arrays.specs.OffsetsOf.{offsets_in, width_in}
use Rattle.arrow_arrays.specs.Parts.{also, none, nested, forest, fault_in, rows_in, rows_each, tree_size, trees_size}
use Rattle.arrow_arrays.specs.PartsOf.{parts_of, all_parts_of, forest_of, only}
use Rattle.arrow_arrays.proofs.Forests.{rows_at, size_at, sized_items}
use Rattle.arrow_arrays.proofs.Sliced.{top_sound}
use Rattle.array_filter.specs.Offsets.{items_taken, offsets_taken, sized_items_taken}
use Rattle.array_filter.specs.Rows.{taken}
use Rattle.array_filter.specs.Runs.{Climb, rows_in_runs}
use Rattle.array_filter.specs.Taken.{counted_taken, each_taken, listed_taken, rows_taken, tagged_left, tagged_taken, these_rows}
use Rattle.array_filter.proofs.Kept.{if_kept}
use Rattle.array_filter.proofs.Made.{counted_of, counted_same, fine, forest-taken, listed_of, listed_same, map_is_small, nested_same, refused, tagged_of, tagged_same}
use Rattle.array_filter.proofs.RunLaws.{climb_below}
use Rattle.array_filter.proofs.RunSteps.{climb_as}
use Rattle.array_filter.proofs.trees.+take.Goals as goal

-- ── lists ──

pub take_list-take_list_offsets-requires-clause-rise : goal.take_list-take_list_offsets-requires-clause-rise
take_list-take_list_offsets-requires-clause-rise t c =
    let l = c.args.lists.now.head in
    let cs = c.args.lists.now.children in
    let r : c.len-limit.result ≡ first_or_0 (rows_each cs) = c.len-limit.ensures.rows ∙ ap (λ f. first_or_0 (rows_each f)) c.values-child.ensures in
    ap (λ os. are_offsets os c.len-limit.result) c.offsets.ensures.offsets ∙ ap (are_offsets l.offsets) r ∙ (top_sound (listed l) cs c.len-held.ensures.sound).0.offsets

pub take_list-take_list_offsets-requires-clause-climb : goal.take_list-take_list_offsets-requires-clause-climb
take_list-take_list_offsets-requires-clause-climb t c = climb_as c.args.runs.now (variable_rows c.args.lists.now.head.offsets) (variable_rows (offsets_in c.offsets.result.now)) (ap variable_rows c.offsets.ensures.offsets) c.requires

pub take_list-take_validity-requires-clause-climb : goal.take_list-take_validity-requires-clause-climb
take_list-take_validity-requires-clause-climb t c = climb_as c.args.runs.now (variable_rows c.args.lists.now.head.offsets) c.len-held.result c.len-held.ensures.rows c.requires

pub take_list-take_runs-requires : goal.take_list-take_runs-requires
take_list-take_runs-requires t c =
    let cs = c.args.lists.now.children in
    let v = parts_of c.values-child.result.now in
    let m : tree_size v ≤ trees_size cs = subst (λ f. tree_size v ≤ trees_size f) c.values-child.ensures (omega arith) in
    (search (rules, m), subst (λ rs. Climb 0 rs (rows_in v)) (sym c.as_slice.ensures.value) (climb_as c.in_ok-offsets.items.items c.len-limit.result (rows_in v) (sym c.len-limit.ensures.rows) c.in_ok-offsets.ensures.climb))

pub take_list-list_of-requires : goal.take_list-list_of-requires
take_list-list_of-requires t c =
    let l = c.args.lists.now.head in
    let cs = c.args.lists.now.children in
    let rows = rows_in_runs c.args.runs.now in
    let v = parts_of c.values-child.result.now in
    ap fault_in (nested_same (listed (listed_of (kind_of c.in_ok-dtype.dtype) (width_in c.in_ok-offsets.offsets) (offsets_in c.in_ok-offsets.offsets) c.in_ok-validity.validity)) (listed (listed_taken rows l)) (only c.in_ok-values.values) (each_taken (these_rows (items_taken rows l.offsets)) cs)
    (ap listed (listed_same (kind_of c.in_ok-dtype.dtype) l.kind (width_in c.in_ok-offsets.offsets) l.width (offsets_in c.in_ok-offsets.offsets) (offsets_taken rows l.offsets) c.in_ok-validity.validity (option_map (taken rows) l.validity)
    (c.in_ok-dtype.ensures ∙ c.dtype.ensures) (c.in_ok-offsets.ensures.width ∙ c.offsets.ensures.width) (c.in_ok-offsets.ensures.offsets ∙ ap (offsets_taken rows) c.offsets.ensures.offsets) (c.in_ok-validity.ensures ∙ ap (option_map (taken rows)) c.validity.ensures.bits)))
    (ap (λ q. also q none) (c.in_ok-values.ensures ∙ ap (λ rs. rows_taken (rows_in_runs rs) v) c.as_slice.ensures.value ∙ ap (λ k. rows_taken k v) (c.in_ok-offsets.ensures.items ∙ ap (items_taken rows) c.offsets.ensures.offsets)) ∙ ap (each_taken (these_rows (items_taken rows l.offsets))) c.values-child.ensures))
    ∙ fine rows (nested (listed l) cs) c.len-held.ensures.sound (climb_below 0 c.args.runs.now (variable_rows l.offsets) c.requires)

pub take_list-returns : goal.take_list-returns
take_list-returns t c =
    let l = c.args.lists.now.head in
    let cs = c.args.lists.now.children in
    let rows = rows_in_runs c.args.runs.now in
    let v = parts_of c.values-child.result.now in
    ap (λ a. nested (listed a.head) a.children) c.in_ok-list_of.ensures
    ∙ nested_same (listed (listed_of (kind_of c.in_ok-dtype.dtype) (width_in c.in_ok-offsets.offsets) (offsets_in c.in_ok-offsets.offsets) c.in_ok-validity.validity)) (listed (listed_taken rows l)) (only c.in_ok-values.values) (each_taken (these_rows (items_taken rows l.offsets)) cs)
    (ap listed (listed_same (kind_of c.in_ok-dtype.dtype) l.kind (width_in c.in_ok-offsets.offsets) l.width (offsets_in c.in_ok-offsets.offsets) (offsets_taken rows l.offsets) c.in_ok-validity.validity (option_map (taken rows) l.validity)
    (c.in_ok-dtype.ensures ∙ c.dtype.ensures) (c.in_ok-offsets.ensures.width ∙ c.offsets.ensures.width) (c.in_ok-offsets.ensures.offsets ∙ ap (offsets_taken rows) c.offsets.ensures.offsets) (c.in_ok-validity.ensures ∙ ap (option_map (taken rows)) c.validity.ensures.bits)))
    (ap (λ q. also q none) (c.in_ok-values.ensures ∙ ap (λ rs. rows_taken (rows_in_runs rs) v) c.as_slice.ensures.value ∙ ap (λ k. rows_taken k v) (c.in_ok-offsets.ensures.items ∙ ap (items_taken rows) c.offsets.ensures.offsets)) ∙ ap (each_taken (these_rows (items_taken rows l.offsets))) c.values-child.ensures)

-- ── structs ──

pub take_struct-row_count-count-requires : goal.take_struct-row_count-count-requires
take_struct-row_count-count-requires t c = climb_as c.args.runs.now c.args.columns.now.head.rows c.len-held.result c.len-held.ensures.rows c.requires

pub take_struct-take_validity-requires-clause-climb : goal.take_struct-take_validity-requires-clause-climb
take_struct-take_validity-requires-clause-climb t c = climb_as c.args.runs.now c.args.columns.now.head.rows c.len-held.result c.len-held.ensures.rows c.requires

pub take_struct-take_each-requires : goal.take_struct-take_each-requires
take_struct-take_each-requires t c =
    let h = c.args.columns.now.head in
    let cs = c.args.columns.now.children in
    let m : trees_size (forest_of c.values.result.now) ≡ trees_size cs = ap trees_size c.values.ensures in (
      search (rules, m),
      (
        ap (are_all c.len-held.result) (ap rows_each c.values.ensures) ∙ ap (λ n. are_all n (rows_each cs)) c.len-held.ensures.rows ∙ (top_sound (structured h) cs c.len-held.ensures.sound).0.rows,
        climb_as c.args.runs.now h.rows c.len-held.result c.len-held.ensures.rows c.requires,
      ),
    )

pub take_struct-unreachable-requires : goal.take_struct-unreachable-requires
take_struct-unreachable-requires t c =
    let h = c.args.columns.now.head in
    let cs = c.args.columns.now.children in
    let rows = rows_in_runs c.args.runs.now in
    let p = nested (structured h) cs in
    refused fault_in (nested (structured (counted_of (kind_of c.in_ok-dtype.dtype) c.row_count-count.result c.in_ok-validity.validity)) (forest_of c.in_ok-values.values.items)) (rows_taken rows p) c.in-Err.field-0
    (nested_same (structured (counted_of (kind_of c.in_ok-dtype.dtype) c.row_count-count.result c.in_ok-validity.validity)) (structured (counted_taken rows h)) (forest_of c.in_ok-values.values.items) (each_taken (these_rows rows) cs)
    (ap structured (counted_same (kind_of c.in_ok-dtype.dtype) h.kind c.row_count-count.result (length rows) c.in_ok-validity.validity (option_map (taken rows) h.validity) (c.in_ok-dtype.ensures ∙ c.dtype.ensures) c.row_count-count.ensures.rows (c.in_ok-validity.ensures ∙ ap (option_map (taken rows)) c.validity.ensures.bits)))
    (c.in_ok-values.ensures ∙ ap (each_taken (these_rows rows)) c.values.ensures))
    (fine rows p c.len-held.ensures.sound (climb_below 0 c.args.runs.now h.rows c.requires))
    c.in-Err.ensures.err

pub take_struct-returns : goal.take_struct-returns
take_struct-returns t c =
    let h = c.args.columns.now.head in
    let cs = c.args.columns.now.children in
    let rows = rows_in_runs c.args.runs.now in
    ap (λ a. nested (structured a.head) a.children) c.in-Ok.ensures.ok
    ∙ nested_same (structured (counted_of (kind_of c.in_ok-dtype.dtype) c.row_count-count.result c.in_ok-validity.validity)) (structured (counted_taken rows h)) (forest_of c.in_ok-values.values.items) (each_taken (these_rows rows) cs)
    (ap structured (counted_same (kind_of c.in_ok-dtype.dtype) h.kind c.row_count-count.result (length rows) c.in_ok-validity.validity (option_map (taken rows) h.validity) (c.in_ok-dtype.ensures ∙ c.dtype.ensures) c.row_count-count.ensures.rows (c.in_ok-validity.ensures ∙ ap (option_map (taken rows)) c.validity.ensures.bits)))
    (c.in_ok-values.ensures ∙ ap (each_taken (these_rows rows)) c.values.ensures)

-- ── each of some arrays ──

pub take_each-take_runs-requires : goal.take_each-take_runs-requires
take_each-take_runs-requires t c =
    let x = c.array-item.result in
    let xs = c.args.arrays.now in
    let i = c.loop-array.array-index in
    let m : tree_size (parts_of (get_or xs i x)) ≤ trees_size (forest_of xs) = size_at xs i x c.loop-array-test.true in
    let s : tree_size (parts_of x) ≡ tree_size (parts_of (get_or xs i x)) = ap (λ y. tree_size (parts_of y)) c.array-item.is in
    (search (rules, m, s), climb_as c.args.runs.now c.args.held (rows_in (parts_of x)) (ap (λ y. rows_in (parts_of y)) c.array-item.is ∙ rows_at c.args.held xs i x c.requires.all c.loop-array-test.true) c.requires.climb)

pub take_each-returns : goal.take_each-returns
take_each-returns t c =
    let rows = rows_in_runs c.args.runs.now in
    let xs = c.args.arrays.now in
    ap forest (c.loop-array.invariant ∙ ap (λ ys. map (rows_taken rows) (all_parts_of ys)) (take_all c.loop-array.array-index xs (omega arith))) ∙ forest-taken rows (all_parts_of xs)

-- ── maps ──

pub take_map-take_small_offsets-requires-clause-rise : goal.take_map-take_small_offsets-requires-clause-rise
take_map-take_small_offsets-requires-clause-rise t c =
    let l = c.args.maps.now.head in
    let cs = c.args.maps.now.children in
    let r : c.len-limit.result ≡ first_or_0 (rows_each cs) = c.len-limit.ensures.rows ∙ ap (λ f. first_or_0 (rows_each f)) c.field-child.ensures in
    ap (λ os. are_offsets os c.len-limit.result) c.offsets.ensures ∙ ap (are_offsets l.offsets) r ∙ (top_sound (mapped l) cs c.len-held.ensures.sound).0.offsets

pub take_map-take_small_offsets-requires-clause-climb : goal.take_map-take_small_offsets-requires-clause-climb
take_map-take_small_offsets-requires-clause-climb t c = climb_as c.args.runs.now (variable_rows c.args.maps.now.head.offsets) (variable_rows c.offsets.result.now) (ap variable_rows c.offsets.ensures) c.requires

pub take_map-take_validity-requires-clause-climb : goal.take_map-take_validity-requires-clause-climb
take_map-take_validity-requires-clause-climb t c = climb_as c.args.runs.now (variable_rows c.args.maps.now.head.offsets) c.len-held.result c.len-held.ensures.rows c.requires

pub take_map-take_runs-requires : goal.take_map-take_runs-requires
take_map-take_runs-requires t c =
    let cs = c.args.maps.now.children in
    let v = parts_of c.field-child.result.now in
    let m : tree_size v ≤ trees_size cs = subst (λ f. tree_size v ≤ trees_size f) c.field-child.ensures (omega arith) in
    (search (rules, m), subst (λ rs. Climb 0 rs (rows_in v)) (sym c.as_slice.ensures.value) (climb_as c.in_ok-offsets.items.items c.len-limit.result (rows_in v) (sym c.len-limit.ensures.rows) c.in_ok-offsets.ensures.climb))

pub take_map-map_over-requires : goal.take_map-map_over-requires
take_map-map_over-requires t c =
    let l = c.args.maps.now.head in
    let cs = c.args.maps.now.children in
    let rows = rows_in_runs c.args.runs.now in
    let v = parts_of c.field-child.result.now in
    let under = and_parts (is_map l.width l.kind) _ (top_sound (mapped l) cs c.len-held.ensures.sound).0.suits in
    ap fault_in (nested_same (mapped (listed_of (kind_of c.in_ok-dtype.dtype) small c.in_ok-offsets.offsets c.in_ok-validity.validity)) (mapped (listed_taken rows l)) (only c.in_ok-entries.entries) (each_taken (these_rows (items_taken rows l.offsets)) cs)
    (ap mapped (listed_same (kind_of c.in_ok-dtype.dtype) l.kind small l.width c.in_ok-offsets.offsets (offsets_taken rows l.offsets) c.in_ok-validity.validity (option_map (taken rows) l.validity)
    (c.in_ok-dtype.ensures ∙ c.dtype.ensures) (sym (map_is_small l.width l.kind under.0)) (c.in_ok-offsets.ensures.offsets ∙ ap (offsets_taken rows) c.offsets.ensures) (c.in_ok-validity.ensures ∙ ap (option_map (taken rows)) c.validity.ensures.bits)))
    (ap (λ q. also q none) (c.in_ok-entries.ensures ∙ ap (λ rs. rows_taken (rows_in_runs rs) v) c.as_slice.ensures.value ∙ ap (λ k. rows_taken k v) (c.in_ok-offsets.ensures.items ∙ ap (items_taken rows) c.offsets.ensures)) ∙ ap (each_taken (these_rows (items_taken rows l.offsets))) c.field-child.ensures))
    ∙ fine rows (nested (mapped l) cs) c.len-held.ensures.sound (climb_below 0 c.args.runs.now (variable_rows l.offsets) c.requires)

pub take_map-returns : goal.take_map-returns
take_map-returns t c =
    let l = c.args.maps.now.head in
    let cs = c.args.maps.now.children in
    let rows = rows_in_runs c.args.runs.now in
    let v = parts_of c.field-child.result.now in
    let under = and_parts (is_map l.width l.kind) _ (top_sound (mapped l) cs c.len-held.ensures.sound).0.suits in
    let made = nested (mapped (listed_of (kind_of c.in_ok-dtype.dtype) small c.in_ok-offsets.offsets c.in_ok-validity.validity)) (only c.in_ok-entries.entries) in
    let kept : made ≡ rows_taken rows (nested (mapped l) cs) =
    nested_same (mapped (listed_of (kind_of c.in_ok-dtype.dtype) small c.in_ok-offsets.offsets c.in_ok-validity.validity)) (mapped (listed_taken rows l)) (only c.in_ok-entries.entries) (each_taken (these_rows (items_taken rows l.offsets)) cs)
    (ap mapped (listed_same (kind_of c.in_ok-dtype.dtype) l.kind small l.width c.in_ok-offsets.offsets (offsets_taken rows l.offsets) c.in_ok-validity.validity (option_map (taken rows) l.validity)
    (c.in_ok-dtype.ensures ∙ c.dtype.ensures) (sym (map_is_small l.width l.kind under.0)) (c.in_ok-offsets.ensures.offsets ∙ ap (offsets_taken rows) c.offsets.ensures) (c.in_ok-validity.ensures ∙ ap (option_map (taken rows)) c.validity.ensures.bits)))
    (ap (λ q. also q none) (c.in_ok-entries.ensures ∙ ap (λ rs. rows_taken (rows_in_runs rs) v) c.as_slice.ensures.value ∙ ap (λ k. rows_taken k v) (c.in_ok-offsets.ensures.items ∙ ap (items_taken rows) c.offsets.ensures)) ∙ ap (each_taken (these_rows (items_taken rows l.offsets))) c.field-child.ensures) in
    if_kept c.map_over.result (λ a. parts_of a ≡ made) (λ a. parts_of a ≡ rows_taken rows (nested (mapped l) cs)) (λ a h. h ∙ kept) c.map_over.ensures

-- ── lists of one size ──

pub take_sized-sized_items-requires-clause-climb : goal.take_sized-sized_items-requires-clause-climb
take_sized-sized_items-requires-clause-climb t c = climb_as c.args.runs.now c.args.lists.now.head.rows c.len-held.result c.len-held.ensures.rows c.requires

pub take_sized-sized_items-requires-clause-whole : goal.take_sized-sized_items-requires-clause-whole
take_sized-sized_items-requires-clause-whole t c =
    let h = c.args.lists.now.head in
    let v = parts_of c.values-child.result.now in
    let sound = subst (λ cs. fault_in (nested (sized h) cs) ≡ None) (sym c.values-child.ensures) c.len-held.ensures.sound in
    c.len.ensures.rows ∙ sized_items h v sound ∙ ap (λ s. s * h.rows) (sym c.size.ensures) ∙ ap (λ n. c.size.result * n) (sym c.len-held.ensures.rows)

pub take_sized-row_count-count-requires : goal.take_sized-row_count-count-requires
take_sized-row_count-count-requires t c = climb_as c.args.runs.now c.args.lists.now.head.rows c.len-held.result c.len-held.ensures.rows c.requires

pub take_sized-take_validity-requires-clause-climb : goal.take_sized-take_validity-requires-clause-climb
take_sized-take_validity-requires-clause-climb t c = climb_as c.args.runs.now c.args.lists.now.head.rows c.len-held.result c.len-held.ensures.rows c.requires

pub take_sized-take_runs-requires : goal.take_sized-take_runs-requires
take_sized-take_runs-requires t c =
    let cs = c.args.lists.now.children in
    let v = parts_of c.values-child.result.now in
    let m : tree_size v ≤ trees_size cs = subst (λ f. tree_size v ≤ trees_size f) c.values-child.ensures (omega arith) in
    (search (rules, m), subst (λ rs. Climb 0 rs (rows_in v)) (sym c.as_slice.ensures.value) (climb_as c.in_ok-items.items.items c.len.result (rows_in v) (sym c.len.ensures.rows) c.in_ok-items.ensures.climb))

pub take_sized-sized_over-requires : goal.take_sized-sized_over-requires
take_sized-sized_over-requires t c =
    let h = c.args.lists.now.head in
    let cs = c.args.lists.now.children in
    let rows = rows_in_runs c.args.runs.now in
    let v = parts_of c.values-child.result.now in
    ap fault_in (nested_same (sized (counted_of (kind_of c.in_ok-dtype.dtype) c.row_count-count.result c.in_ok-validity.validity)) (sized (counted_taken rows h)) (only c.in_ok-values.values) (each_taken (these_rows (sized_items_taken rows (list_size h.kind))) cs)
    (ap sized (counted_same (kind_of c.in_ok-dtype.dtype) h.kind c.row_count-count.result (length rows) c.in_ok-validity.validity (option_map (taken rows) h.validity) (c.in_ok-dtype.ensures ∙ c.dtype.ensures) c.row_count-count.ensures.rows (c.in_ok-validity.ensures ∙ ap (option_map (taken rows)) c.validity.ensures.bits)))
    (ap (λ q. also q none) (c.in_ok-values.ensures ∙ ap (λ rs. rows_taken (rows_in_runs rs) v) c.as_slice.ensures.value ∙ ap (λ k. rows_taken k v) (c.in_ok-items.ensures.items ∙ ap (sized_items_taken rows) c.size.ensures)) ∙ ap (each_taken (these_rows (sized_items_taken rows (list_size h.kind)))) c.values-child.ensures))
    ∙ fine rows (nested (sized h) cs) c.len-held.ensures.sound (climb_below 0 c.args.runs.now h.rows c.requires)

pub take_sized-returns : goal.take_sized-returns
take_sized-returns t c =
    let h = c.args.lists.now.head in
    let cs = c.args.lists.now.children in
    let rows = rows_in_runs c.args.runs.now in
    let v = parts_of c.values-child.result.now in
    let made = nested (sized (counted_of (kind_of c.in_ok-dtype.dtype) c.row_count-count.result c.in_ok-validity.validity)) (only c.in_ok-values.values) in
    let kept : made ≡ rows_taken rows (nested (sized h) cs) =
    nested_same (sized (counted_of (kind_of c.in_ok-dtype.dtype) c.row_count-count.result c.in_ok-validity.validity)) (sized (counted_taken rows h)) (only c.in_ok-values.values) (each_taken (these_rows (sized_items_taken rows (list_size h.kind))) cs)
    (ap sized (counted_same (kind_of c.in_ok-dtype.dtype) h.kind c.row_count-count.result (length rows) c.in_ok-validity.validity (option_map (taken rows) h.validity) (c.in_ok-dtype.ensures ∙ c.dtype.ensures) c.row_count-count.ensures.rows (c.in_ok-validity.ensures ∙ ap (option_map (taken rows)) c.validity.ensures.bits)))
    (ap (λ q. also q none) (c.in_ok-values.ensures ∙ ap (λ rs. rows_taken (rows_in_runs rs) v) c.as_slice.ensures.value ∙ ap (λ k. rows_taken k v) (c.in_ok-items.ensures.items ∙ ap (sized_items_taken rows) c.size.ensures)) ∙ ap (each_taken (these_rows (sized_items_taken rows (list_size h.kind)))) c.values-child.ensures) in
    if_kept c.sized_over.result (λ a. parts_of a ≡ made) (λ a. parts_of a ≡ rows_taken rows (nested (sized h) cs)) (λ a h2. h2 ∙ kept) c.sized_over.ensures

-- ── unions ──

pub take_union-take_items-requires : goal.take_union-take_items-requires
take_union-take_items-requires t c = climb_as c.args.runs.now (length c.args.union.now.head.types) (length c.types.result.now) (ap length c.types.ensures) c.requires

pub take_union-take_places-requires : goal.take_union-take_places-requires
take_union-take_places-requires t c =
    let u = c.args.union.now.head in
    let cs = c.args.union.now.children in
    let m : trees_size (forest_of c.fields.result.now) ≡ trees_size cs = ap trees_size c.fields.ensures in (
      search (rules, m),
      (
        ap (λ os. tagged_rows os c.len-held.result (rows_each (forest_of c.fields.result.now))) c.offsets.ensures ∙ ap (λ n. tagged_rows u.offsets n (rows_each (forest_of c.fields.result.now))) c.len-held.ensures.rows
            ∙ ap (λ f. tagged_rows u.offsets (length u.types) (rows_each f)) c.fields.ensures ∙ (top_sound (tagged u) cs c.len-held.ensures.sound).0.rows,
        climb_as c.args.runs.now (length u.types) c.len-held.result c.len-held.ensures.rows c.requires,
      ),
    )

pub take_union-unreachable-requires : goal.take_union-unreachable-requires
take_union-unreachable-requires t c =
    let u = c.args.union.now.head in
    let cs = c.args.union.now.children in
    let rows = rows_in_runs c.args.runs.now in
    let p = nested (tagged u) cs in
    refused fault_in (nested (tagged (tagged_of (kind_of c.in_ok-dtype.dtype) c.in_ok-types.types c.in_ok-offsets.offsets)) (forest_of c.in_ok-offsets.fields.items)) (rows_taken rows p) c.in-Err.field-0
    (nested_same (tagged (tagged_of (kind_of c.in_ok-dtype.dtype) c.in_ok-types.types c.in_ok-offsets.offsets)) (tagged (tagged_taken rows u)) (forest_of c.in_ok-offsets.fields.items) (each_taken (tagged_left rows u.offsets) cs)
    (ap tagged (tagged_same (kind_of c.in_ok-dtype.dtype) u.kind c.in_ok-types.types (taken rows u.types) c.in_ok-offsets.offsets (option_map (taken rows) u.offsets) (c.in_ok-dtype.ensures ∙ c.dtype.ensures) (c.in_ok-types.ensures ∙ ap (taken rows) c.types.ensures) (c.in_ok-offsets.ensures.offsets ∙ ap (option_map (taken rows)) c.offsets.ensures)))
    (c.in_ok-offsets.ensures.children ∙ ap (λ os. each_taken (tagged_left rows os) (forest_of c.fields.result.now)) c.offsets.ensures ∙ ap (each_taken (tagged_left rows u.offsets)) c.fields.ensures))
    (fine rows p c.len-held.ensures.sound (climb_below 0 c.args.runs.now (length u.types) c.requires))
    c.in-Err.ensures.err

pub take_union-returns : goal.take_union-returns
take_union-returns t c =
    let u = c.args.union.now.head in
    let cs = c.args.union.now.children in
    let rows = rows_in_runs c.args.runs.now in
    ap (λ a. nested (tagged a.head) a.children) c.in-Ok.ensures.ok
    ∙ nested_same (tagged (tagged_of (kind_of c.in_ok-dtype.dtype) c.in_ok-types.types c.in_ok-offsets.offsets)) (tagged (tagged_taken rows u)) (forest_of c.in_ok-offsets.fields.items) (each_taken (tagged_left rows u.offsets) cs)
    (ap tagged (tagged_same (kind_of c.in_ok-dtype.dtype) u.kind c.in_ok-types.types (taken rows u.types) c.in_ok-offsets.offsets (option_map (taken rows) u.offsets) (c.in_ok-dtype.ensures ∙ c.dtype.ensures) (c.in_ok-types.ensures ∙ ap (taken rows) c.types.ensures) (c.in_ok-offsets.ensures.offsets ∙ ap (option_map (taken rows)) c.offsets.ensures)))
    (c.in_ok-offsets.ensures.children ∙ ap (λ os. each_taken (tagged_left rows os) (forest_of c.fields.result.now)) c.offsets.ensures ∙ ap (each_taken (tagged_left rows u.offsets)) c.fields.ensures)
