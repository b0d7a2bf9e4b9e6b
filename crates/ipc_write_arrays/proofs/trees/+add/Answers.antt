use Rattle.std.proofs.Common.{rules, ◌≡◌, ◌+◌, ◌*◌, ◌-◌, ◌≤◌, [], ◌∷◌, IfOk, pos, drop, get_or, ap, sym, subst, refl, ◌∙◌, arith}
use Rattle.std.specs.Option.{option_map}
use Rattle.arrow_spec.specs.Flat.{order_by}
use Rattle.arrow_spec.specs.Framing.{validity_bytes}
use Rattle.arrow_buffers.specs.Rows.{part, has_rows, null_rows}
use Rattle.arrow_buffers.specs.Variable.{are_offsets, variable_rows}
use Rattle.arrow_arrays.specs.Heads.{run, Reaches, listed, mapped, sized, structured, tagged, counted_part, tagged_cut, list_size, first_or_0}
use Rattle.arrow_arrays.specs.Parts.{nested, none, also, rows_in, rows_each, tree_size, trees_size}
use Rattle.arrow_arrays.specs.PartsOf.{parts_of, forest_of}
use Rattle.arrow_arrays.specs.declared.offsets.ListOffsets.TheVariants.{Small}
use Rattle.arrow_arrays.specs.Nodes.{counts_in}
use Rattle.arrow_arrays.proofs.Sliced.{top_sound}
use Rattle.arrow_arrays.proofs.Forests.{size_at}
use Rattle.ipc_write_arrays.specs.Trims.{lists_of, listed_trim, held_between, trim, trim_each}
use Rattle.ipc_write_arrays.specs.CutsOf.{cut_in}
use Rattle.ipc_write_arrays.specs.Pieces.{Fit, FitEach, tree_nodes, tree_pieces}
use Rattle.ipc_write_arrays.specs.Outputs.{Outputs, put_behind, laid_behind, each_behind}
use Rattle.ipc_write_arrays.specs.OutputsOf.{outputs_of}
use Rattle.ipc_write_arrays.proofs.Children.{child_trim, sized_child, holds, reach_next, next_trim, map_is, is_mapped}
use Rattle.ipc_write_arrays.proofs.Adding.{if_ok, if_err}
use Rattle.ipc_write_arrays.proofs.Behind.{next_forest, also_behind, only_behind, top_then, put_kept, kept_more}
use Rattle.ipc_write_arrays.proofs.trees.+add.Goals as goal

pub add_each-add_rows-requires : goal.add_each-add_rows-requires
add_each-add_rows-requires t c =
    let x = c.array-item.result in
    let xs = c.args.arrays.now in
    let i = c.loop-array.array-index in
    let k = cut_in c.args.cut in
    let rest = forest_of (drop (i + 1) xs) in
    let m : tree_size (parts_of (get_or xs i x)) ≤ trees_size (forest_of xs) = size_at xs i x c.loop-array-test.true in
    let s : tree_size (parts_of x) ≡ tree_size (parts_of (get_or xs i x)) = ap (λ y. tree_size (parts_of y)) c.array-item.is in
    let r = reach_next k (rows_in (parts_of x)) (rows_each rest) (subst (λ f. Reaches k (rows_each f)) (next_forest xs i x c.array-item.is c.loop-array-test.true) c.loop-array.invariant.reaches) in (
      search (rules, m, s),
      (omega (arith, r.0, c.in_ok-from.ensures.from, c.in_ok-from.ensures.count), c.in_ok-from.ensures.few),
    )

pub add_each-returns-in_err-add_rows-clause-err : goal.add_each-returns-in_err-add_rows-clause-err
add_each-returns-in_err-add_rows-clause-err t c = if_err c.from_residual-in_err-add_rows.result c.from_residual-in_err-add_rows.ensures.0 (kept_more _ _ _ c.loop-array.invariant.kept c.in_err-add_rows.ensures.err)

pub add_each-loop-array-preserved : goal.add_each-loop-array-preserved
add_each-loop-array-preserved t c =
    let x = c.array-item.result in
    let xs = c.args.arrays.now in
    let i = c.loop-array.array-index in
    let k = cut_in c.args.cut in
    let from = c.in_ok-from.from in
    let count = c.in_ok-from.count in
    let order = order_by c.args.is_little_endian in
    let q = trim from count (parts_of x) in
    let rest = forest_of (drop (i + 1) xs) in
    let left = trim_each k rest in
    let cut = next_trim k xs i x from count c.array-item.is c.loop-array-test.true c.in_ok-from.ensures.from c.in_ok-from.ensures.count in
    let first : Outputs = outputs_of c.args.out.now in
    let now : Outputs = outputs_of c.loop-array.out in
    let new : Outputs = outputs_of c.add_rows.new.out in
    let ok = c.in_ok-add_rows.ensures.ok in
    record {
      reaches = (reach_next k (rows_in (parts_of x)) (rows_each rest) (subst (λ f. Reaches k (rows_each f)) (next_forest xs i x c.array-item.is c.loop-array-test.true) c.loop-array.invariant.reaches)).1;
      put = ap (each_behind order left) ok ∙ also_behind order q left now ∙ ap (λ f. each_behind order f now) (sym cut) ∙ c.loop-array.invariant.put;
      kept = kept_more first now new c.loop-array.invariant.kept (put_kept (tree_nodes q) (tree_pieces order q) (counts_in q) now new ok);
      fit = λ h. c.loop-array.invariant.fit (subst FitEach (sym cut) (c.in_ok-add_rows.ensures.fit, h));
    }

pub add_listed-add_rows-requires : goal.add_listed-add_rows-requires
add_listed-add_rows-requires t c = (omega arith, (omega (arith, c.len-limit.ensures.rows, c.in_ok-first.ensures.ordered, c.in_ok-first.ensures.within), omega (arith, c.in_ok-first.ensures.small)))

pub add_listed-returns-clause-ok : goal.add_listed-returns-clause-ok
add_listed-returns-clause-ok t c =
    let l = lists_of c.args.offsets.now (option_map (λ b. b.now) c.args.held) in
    let o = c.args.offset in
    let n = c.args.rows in
    let order = order_by c.args.is_little_endian in
    let v = parts_of c.args.values.now in
    let first = c.in_ok-first.first in
    let last = c.in_ok-first.last in
    let q = trim first (last - first) v in
    let top : Outputs = outputs_of c.add_listed_top.new.out in
    let child = child_trim o n l.offsets (also v none) v first last refl c.in_ok-first.ensures.first c.in_ok-first.ensures.last in
    if_ok c.add_rows.result (λ e. top_then order (listed (listed_trim o n l)) (trim_each (held_between o n l.offsets) (also v none)) (outputs_of c.args.out.now) top (outputs_of c.add_rows.new.out) c.in_ok-first.ensures.ok (e ∙ only_behind order q top ∙ ap (λ f. each_behind order f top) (sym child)))
    c.add_rows.ensures.ok

pub add_map-add_listed-requires : goal.add_map-add_listed-requires
add_map-add_listed-requires t c =
    let l = c.args.maps.now.head in
    let cs = c.args.maps.now.children in
    let o = c.args.offset in
    let n = c.args.rows in
    let v = parts_of c.field.result.now in
    let os = c.in_ok-try_clone.field-0 in
    let e : os ≡ l.offsets = c.in_ok-try_clone.ensures ∙ c.offsets.ensures in
    let r : first_or_0 (rows_each cs) ≡ rows_in v = ap (λ f. first_or_0 (rows_each f)) (sym c.field.ensures) in
    let m : tree_size v ≤ trees_size cs = subst (λ f. tree_size v ≤ trees_size f) c.field.ensures (omega arith) in (
      search (rules, m),
      (
        ap (λ xs. are_offsets xs (rows_in v)) e ∙ ap (are_offsets l.offsets) (sym r) ∙ (top_sound (mapped l) cs c.len-rows.ensures.sound).0.offsets,
        (
          ap (λ b. has_rows b (variable_rows os)) c.validity-held.ensures.bits ∙ ap (λ xs. has_rows l.validity (variable_rows xs)) e ∙ c.validity-held.ensures.rows,
          (subst (λ xs. o + n ≤ variable_rows xs) (sym e) c.requires.within, c.requires.few),
        ),
      ),
    )

pub add_map-returns-clause-ok : goal.add_map-returns-clause-ok
add_map-returns-clause-ok t c =
    let l = c.args.maps.now.head in
    let cs = c.args.maps.now.children in
    let o = c.args.offset in
    let n = c.args.rows in
    let order = order_by c.args.is_little_endian in
    let os = c.in_ok-try_clone.field-0 in
    let same = map_is l os (option_map (λ b. b.now) c.validity-held.result) (is_mapped l cs c.len-rows.ensures.sound) (c.in_ok-try_clone.ensures ∙ c.offsets.ensures) c.validity-held.ensures.bits in
    let old : Outputs = outputs_of c.args.out.now in
    let new : Outputs = outputs_of c.add_listed.new.out in
    subst (λ k. IfOk c.add_listed.result (λ x. new ≡ laid_behind order (trim o n (nested (listed k) cs)) old)) same
    (subst (λ f. IfOk c.add_listed.result (λ x. new ≡ laid_behind order (trim o n (nested (listed (lists_of (Small os) (option_map (λ b. b.now) c.validity-held.result))) f)) old)) c.field.ensures c.add_listed.ensures.ok)

pub add_map-returns-clause-fit : goal.add_map-returns-clause-fit
add_map-returns-clause-fit t c =
    let l = c.args.maps.now.head in
    let cs = c.args.maps.now.children in
    let o = c.args.offset in
    let n = c.args.rows in
    let os = c.in_ok-try_clone.field-0 in
    let same = map_is l os (option_map (λ b. b.now) c.validity-held.result) (is_mapped l cs c.len-rows.ensures.sound) (c.in_ok-try_clone.ensures ∙ c.offsets.ensures) c.validity-held.ensures.bits in
    subst (λ k. IfOk c.add_listed.result (λ x. Fit (trim o n (nested (listed k) cs)))) same
    (subst (λ f. IfOk c.add_listed.result (λ x. Fit (trim o n (nested (listed (lists_of (Small os) (option_map (λ b. b.now) c.validity-held.result))) f)))) c.field.ensures c.add_listed.ensures.fit)

pub add_sized-add_rows-requires : goal.add_sized-add_rows-requires
add_sized-add_rows-requires t c =
    let cs = c.args.lists.now.children in
    let v = parts_of c.values-values.result.now in
    let m : tree_size v ≤ trees_size cs = subst (λ f. tree_size v ≤ trees_size f) c.values-values.ensures (omega arith) in
    (search (rules, m), (omega (arith, c.in_ok-from.ensures.within, c.len-items.ensures.rows), c.in_ok-from.ensures.few))

pub add_sized-returns-clause-ok : goal.add_sized-returns-clause-ok
add_sized-returns-clause-ok t c =
    let l = c.args.lists.now.head in
    let cs = c.args.lists.now.children in
    let o = c.args.offset in
    let n = c.args.rows in
    let k = list_size l.kind in
    let order = order_by c.args.is_little_endian in
    let v = parts_of c.values-values.result.now in
    let q = trim c.in_ok-from.from c.in_ok-from.count v in
    let old : Outputs = outputs_of c.args.out.now in
    let top : Outputs = outputs_of c.add_top.new.out in
    let bits = c.in_ok-validity.ensures ∙ ap (option_map (part o n)) c.validity-bits.ensures.bits in
    let child = sized_child o n l cs v c.size.result c.in_ok-from.from c.in_ok-from.count c.values-values.ensures c.size.ensures c.in_ok-from.ensures.from c.in_ok-from.ensures.count in
    let put = c.in_ok-add_top.ensures.ok ∙ ap (λ w. put_behind (record { length = pos n; null_count = pos (null_rows w) } ∷ []) (validity_bytes w ∷ []) [] old) bits in
    if_ok c.add_rows.result (λ e. top_then order (sized (counted_part o n l)) (trim_each (run (k * o) (k * n)) cs) old top (outputs_of c.add_rows.new.out) put (e ∙ only_behind order q top ∙ ap (λ f. each_behind order f top) (sym child))) c.add_rows.ensures.ok

pub add_struct-add_each-requires : goal.add_struct-add_each-requires
add_struct-add_each-requires t c =
    let h = c.args.columns.now.head in
    let cs = c.args.columns.now.children in
    let o = c.args.offset in
    let n = c.args.rows in
    let m : trees_size (forest_of c.values.result.now) ≡ trees_size cs = ap trees_size c.values.ensures in
    (search (rules, m), subst (λ f. Reaches (run o n) (rows_each f)) (sym c.values.ensures) (holds o n (structured h) cs c.len-rows.ensures.sound c.requires.within))

pub add_union-add_each-requires : goal.add_union-add_each-requires
add_union-add_each-requires t c =
    let u = c.args.union.now.head in
    let cs = c.args.union.now.children in
    let o = c.args.offset in
    let n = c.args.rows in
    let k = c.union_cut.ensures ∙ ap (tagged_cut o n) c.offsets-places.ensures in
    let m : trees_size (forest_of c.fields.result.now) ≡ trees_size cs = ap trees_size c.fields.ensures in (
      search (rules, m),
      subst (λ x. Reaches x (rows_each (forest_of c.fields.result.now))) (sym k) (subst (λ f. Reaches (tagged_cut o n u.offsets) (rows_each f)) (sym c.fields.ensures) (holds o n (tagged u) cs c.len-rows.ensures.sound c.requires.within)),
    )
