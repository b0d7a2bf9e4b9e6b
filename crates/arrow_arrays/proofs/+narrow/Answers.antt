use Rattle.std.proofs.Common.{◌≡◌, ◌+◌, ◌*◌, ◌≤◌, ◌∙◌, sym, ap, length, arith, rules, ◌<◌, get_or, refl}
use Rattle.arrow_types.specs.KindOf.{kind_of}
use Rattle.arrow_arrays.specs.Heads.{sized, structured, tagged, tagged_cut}
use Rattle.arrow_arrays.specs.Parts.{Parts, nested, forest, cut, tree_size, trees_size, rows_in}
use Rattle.arrow_arrays.specs.PartsOf.{parts_of, all_parts_of, forest_of, only}
use Rattle.arrow_arrays.proofs.Sliced.{fault-part, cells-part}
use Rattle.arrow_arrays.proofs.Forests.{sized_items, rows_at, size_at, forest-cut}
use Rattle.arrow_arrays.proofs.+narrow.Goals as goal

pub array::FixedSizeListArray::narrow-items_of-from-requires-clause-whole : goal.array::FixedSizeListArray::narrow-items_of-from-requires-clause-whole
array::FixedSizeListArray::narrow-items_of-from-requires-clause-whole t c =
    let i = c.self.inside in
    c.len-items.ensures.rows ∙ ap (λ x. rows_in (parts_of x)) c.deref.ensures ∙ sized_items (record { kind = kind_of i.dtype; rows = i.rows; validity = i.validity }) (parts_of i.values.value) c.self.invariant ∙ ap (λ s. s * i.rows) (sym c.size_of-size.ensures)

pub array::FixedSizeListArray::narrow-invariant_of-self : goal.array::FixedSizeListArray::narrow-invariant_of-self
array::FixedSizeListArray::narrow-invariant_of-self t c =
    let i = c.self.inside in
    let whole : Parts = nested (sized (record { kind = kind_of i.dtype; rows = i.rows; validity = i.validity })) (only i.values.value) in
    let req : c.args.offset + c.args.rows ≤ rows_in whole = rw (← c.self.view_is) at c.requires in
    rw (c.narrow.ensures.parts, c.deref_mut.ensures.value, c.items_of-from.ensures.from, c.items_of-from.ensures.count, c.size_of-size.ensures, c.narrow_validity.ensures) (fault-part c.args.offset c.args.rows whole c.self.invariant req)

pub array::FixedSizeListArray::narrow-returns-clause-parts : goal.array::FixedSizeListArray::narrow-returns-clause-parts
array::FixedSizeListArray::narrow-returns-clause-parts t c =
    rw (← c.self.view_is, c.narrow.ensures.parts, c.deref_mut.ensures.value, c.items_of-from.ensures.from, c.items_of-from.ensures.count, c.size_of-size.ensures, c.narrow_validity.ensures) refl

pub array::FixedSizeListArray::narrow-returns-clause-cells : goal.array::FixedSizeListArray::narrow-returns-clause-cells
array::FixedSizeListArray::narrow-returns-clause-cells t c =
    let i = c.self.inside in
    let whole : Parts = nested (sized (record { kind = kind_of i.dtype; rows = i.rows; validity = i.validity })) (only i.values.value) in
    let req : c.args.offset + c.args.rows ≤ rows_in whole = rw (← c.self.view_is) at c.requires in
    rw (← c.self.view_is, c.narrow.ensures.parts, c.deref_mut.ensures.value, c.items_of-from.ensures.from, c.items_of-from.ensures.count, c.size_of-size.ensures, c.narrow_validity.ensures) (cells-part c.args.offset c.args.rows whole c.self.invariant req)

pub array::StructArray::narrow-invariant_of-self : goal.array::StructArray::narrow-invariant_of-self
array::StructArray::narrow-invariant_of-self t c =
    let i = c.self.inside in
    let whole : Parts = nested (structured (record { kind = kind_of i.dtype; rows = i.rows; validity = i.validity })) (forest_of i.values.items) in
    let req : c.args.offset + c.args.rows ≤ rows_in whole = rw (← c.self.view_is) at c.requires in
    rw (c.narrow_each.ensures, forest-cut c.args.offset c.args.rows (all_parts_of i.values.items), c.narrow_validity.ensures) (fault-part c.args.offset c.args.rows whole c.self.invariant req)

pub array::StructArray::narrow-returns-clause-parts : goal.array::StructArray::narrow-returns-clause-parts
array::StructArray::narrow-returns-clause-parts t c = rw (← c.self.view_is, c.narrow_each.ensures, forest-cut c.args.offset c.args.rows (all_parts_of c.self.inside.values.items), c.narrow_validity.ensures) refl

pub array::StructArray::narrow-returns-clause-cells : goal.array::StructArray::narrow-returns-clause-cells
array::StructArray::narrow-returns-clause-cells t c =
    let i = c.self.inside in
    let whole : Parts = nested (structured (record { kind = kind_of i.dtype; rows = i.rows; validity = i.validity })) (forest_of i.values.items) in
    let req : c.args.offset + c.args.rows ≤ rows_in whole = rw (← c.self.view_is) at c.requires in
    rw (← c.self.view_is, c.narrow_each.ensures, forest-cut c.args.offset c.args.rows (all_parts_of i.values.items), c.narrow_validity.ensures) (cells-part c.args.offset c.args.rows whole c.self.invariant req)

pub array::UnionArray::narrow-invariant_of-self : goal.array::UnionArray::narrow-invariant_of-self
array::UnionArray::narrow-invariant_of-self t c =
    let i = c.self.inside in
    let whole : Parts = nested (tagged (record { kind = kind_of i.dtype; types = i.types; offsets = i.offsets })) (forest_of i.fields.items) in
    let req : c.args.offset + c.args.rows ≤ rows_in whole = rw (← c.self.view_is) at c.requires in
    rw (c.narrow_places.ensures.children, c.narrow_places.ensures.offsets, c.narrow.ensures) (fault-part c.args.offset c.args.rows whole c.self.invariant req)

pub array::UnionArray::narrow-returns-clause-cells : goal.array::UnionArray::narrow-returns-clause-cells
array::UnionArray::narrow-returns-clause-cells t c =
    let i = c.self.inside in
    let whole : Parts = nested (tagged (record { kind = kind_of i.dtype; types = i.types; offsets = i.offsets })) (forest_of i.fields.items) in
    let req : c.args.offset + c.args.rows ≤ rows_in whole = rw (← c.self.view_is) at c.requires in
    rw (← c.self.view_is, c.narrow_places.ensures.children, c.narrow_places.ensures.offsets, c.narrow.ensures) (cells-part c.args.offset c.args.rows whole c.self.invariant req)

pub union::narrow_places-returns-in-None-clause-children : goal.union::narrow_places-returns-in-None-clause-children
union::narrow_places-returns-in-None-clause-children t c =
    let o = c.args.offset in
    let n = c.args.rows in
    let old = c.args.fields.now.items in
    ap forest c.narrow_each.ensures ∙ forest-cut o n (all_parts_of old) ∙ ap (λ os. cut (tagged_cut o n os) (forest_of old)) (sym c.in-None.is)

pub structs::narrow_each-narrow-requires : goal.structs::narrow_each-narrow-requires
structs::narrow_each-narrow-requires t c =
    let x = c.index_mut.result.now in
    let below : c.loop-i.i < length c.args.arrays.now.items = omega (arith, c.len-i-end.ensures) in
    let e : x ≡ get_or c.args.arrays.now.items c.loop-i.i x = c.index_mut.ensures.value ∙ c.loop-i.invariant.0.1 c.loop-i.i x (omega arith) in
    let m : tree_size (parts_of (get_or c.args.arrays.now.items c.loop-i.i x)) ≤ trees_size (forest_of c.args.arrays.now.items) = size_at c.args.arrays.now.items c.loop-i.i x below in
    let s : tree_size (parts_of x) ≡ tree_size (parts_of (get_or c.args.arrays.now.items c.loop-i.i x)) = ap (λ y. tree_size (parts_of y)) e in
    let r : rows_in (parts_of (get_or c.args.arrays.now.items c.loop-i.i x)) ≡ c.args.held = rows_at c.args.held c.args.arrays.now.items c.loop-i.i x c.requires.all below in
    let l : rows_in (parts_of x) ≡ rows_in (parts_of (get_or c.args.arrays.now.items c.loop-i.i x)) = ap (λ y. rows_in (parts_of y)) e in
    (search (rules, m, s), omega (arith, c.requires.room))
