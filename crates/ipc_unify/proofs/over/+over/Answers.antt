use Rattle.std.proofs.Common.{◌≡◌, ◌∙◌, ◌+◌, ◌*◌, ◌<◌, ◌≤◌, ◌++◌, ◌∷◌, [], length, refl, sym, ap, subst, arith, rules}
use Rattle.arrow_spec.specs.Kinds.{dictionary_count}
use Rattle.arrow_arrays.specs.Heads.{listed, mapped, sized, structured, tagged}
use Rattle.arrow_arrays.specs.Parts.{kind_in, tree_size, trees_size}
use Rattle.arrow_arrays.specs.PartsOf.{forest_of, parts_of}
use Rattle.arrow_arrays.proofs.Forests.{size_at}
use Rattle.laws_unify.specs.Over.{Lists}
use Rattle.ipc_unify.specs.Steps.{lists_of}
use Rattle.ipc_unify.proofs.OverSteps.{array_next, arrays_begin, arrays_done, arrays_more, fits_as, is_leaf, one_under_top, parts_as, refused_as, refused_by, refused_memory, same_itself, same_through, under_top}
use Rattle.ipc_unify.proofs.over.+over.Goals as goal

-- ── an array ──

pub array_over-array_over-requires : goal.array_over-array_over-requires
array_over-array_over-requires t c =
    let o = one_under_top (lists_of c.args.lists.now.items) (listed c.in-List.list.head) c.args.array.now c.in-List.list.children c.values.result.now c.args.number (ap parts_of c.in-List.is) c.values.ensures (λ s. s) refl refl c.requires.stands c.requires.sound in
    let f = ap trees_size c.values.ensures in
    let a = ap (λ x. tree_size (parts_of x)) c.in-List.is in
    let below : 2 * tree_size (parts_of c.values.result.now) < 2 * tree_size (parts_of c.args.array.now) = omega (arith, f, a) in
    (search (rules, below), (c.requires.kept, (o.stands, o.sound)))

pub array_over-returns-in_err-values-in-List-clause-refused : goal.array_over-returns-in_err-values-in-List-clause-refused
array_over-returns-in_err-values-in-List-clause-refused t c =
    let o = one_under_top (lists_of c.args.lists.now.items) (listed c.in-List.list.head) c.args.array.now c.in-List.list.children c.values.result.now c.args.number (ap parts_of c.in-List.is) c.values.ensures (λ s. s) refl refl c.requires.stands c.requires.sound in
    refused_by c.from_residual.result c.in_err-values-in-List.field-0.0 _ _ c.from_residual.ensures.1 (λ t. sym o.large ∙ t) c.in_err-values-in-List.ensures.refused

pub array_over-list_over-requires : goal.array_over-list_over-requires
array_over-list_over-requires t c =
    let o = one_under_top (lists_of c.args.lists.now.items) (listed c.in-List.list.head) c.args.array.now c.in-List.list.children c.values.result.now c.args.number (ap parts_of c.in-List.is) c.values.ensures (λ s. s) refl refl c.requires.stands c.requires.sound in
    o.new_sound c.in_ok-values-in-List.values c.in_ok-values-in-List.ensures.parts

pub array_over-returns-in_ok-values-in-List-clause-parts : goal.array_over-returns-in_ok-values-in-List-clause-parts
array_over-returns-in_ok-values-in-List-clause-parts t c =
    let o = one_under_top (lists_of c.args.lists.now.items) (listed c.in-List.list.head) c.args.array.now c.in-List.list.children c.values.result.now c.args.number (ap parts_of c.in-List.is) c.values.ensures (λ s. s) refl refl c.requires.stands c.requires.sound in
    parts_as c.list_over.result _ _ (o.new_parts c.in_ok-values-in-List.values c.in_ok-values-in-List.ensures.parts) c.list_over.ensures.parts

pub array_over-returns-in_ok-values-in-List-clause-fits : goal.array_over-returns-in_ok-values-in-List-clause-fits
array_over-returns-in_ok-values-in-List-clause-fits t c =
    let o = one_under_top (lists_of c.args.lists.now.items) (listed c.in-List.list.head) c.args.array.now c.in-List.list.children c.values.result.now c.args.number (ap parts_of c.in-List.is) c.values.ensures (λ s. s) refl refl c.requires.stands c.requires.sound in
    fits_as c.list_over.result _ (sym o.large ∙ c.in_ok-values-in-List.ensures.fits)

pub array_over-returns-in_ok-values-in-List-clause-refused : goal.array_over-returns-in_ok-values-in-List-clause-refused
array_over-returns-in_ok-values-in-List-clause-refused t c =
    refused_memory c.list_over.result _ c.list_over.ensures.memory

pub array_over-array_over-requires-in-FixedSizeList : goal.array_over-array_over-requires-in-FixedSizeList
array_over-array_over-requires-in-FixedSizeList t c =
    let o = one_under_top (lists_of c.args.lists.now.items) (sized c.in-FixedSizeList.list.head) c.args.array.now c.in-FixedSizeList.list.children c.values-in-FixedSizeList.result.now c.args.number (ap parts_of c.in-FixedSizeList.is) c.values-in-FixedSizeList.ensures (λ s. s) refl refl c.requires.stands c.requires.sound in
    let f = ap trees_size c.values-in-FixedSizeList.ensures in
    let a = ap (λ x. tree_size (parts_of x)) c.in-FixedSizeList.is in
    let below : 2 * tree_size (parts_of c.values-in-FixedSizeList.result.now) < 2 * tree_size (parts_of c.args.array.now) = omega (arith, f, a) in
    (search (rules, below), (c.requires.kept, (o.stands, o.sound)))

pub array_over-returns-in_err-values-in-FixedSizeList-clause-refused : goal.array_over-returns-in_err-values-in-FixedSizeList-clause-refused
array_over-returns-in_err-values-in-FixedSizeList-clause-refused t c =
    let o = one_under_top (lists_of c.args.lists.now.items) (sized c.in-FixedSizeList.list.head) c.args.array.now c.in-FixedSizeList.list.children c.values-in-FixedSizeList.result.now c.args.number (ap parts_of c.in-FixedSizeList.is) c.values-in-FixedSizeList.ensures (λ s. s) refl refl c.requires.stands c.requires.sound in
    refused_by c.from_residual-in_err-values-in-FixedSizeList.result c.in_err-values-in-FixedSizeList.field-0.0 _ _ c.from_residual-in_err-values-in-FixedSizeList.ensures.1 (λ t. sym o.large ∙ t) c.in_err-values-in-FixedSizeList.ensures.refused

pub array_over-sized_over-requires : goal.array_over-sized_over-requires
array_over-sized_over-requires t c =
    let o = one_under_top (lists_of c.args.lists.now.items) (sized c.in-FixedSizeList.list.head) c.args.array.now c.in-FixedSizeList.list.children c.values-in-FixedSizeList.result.now c.args.number (ap parts_of c.in-FixedSizeList.is) c.values-in-FixedSizeList.ensures (λ s. s) refl refl c.requires.stands c.requires.sound in
    o.new_sound c.in_ok-values-in-FixedSizeList.values c.in_ok-values-in-FixedSizeList.ensures.parts

pub array_over-returns-in_ok-values-in-FixedSizeList-clause-parts : goal.array_over-returns-in_ok-values-in-FixedSizeList-clause-parts
array_over-returns-in_ok-values-in-FixedSizeList-clause-parts t c =
    let o = one_under_top (lists_of c.args.lists.now.items) (sized c.in-FixedSizeList.list.head) c.args.array.now c.in-FixedSizeList.list.children c.values-in-FixedSizeList.result.now c.args.number (ap parts_of c.in-FixedSizeList.is) c.values-in-FixedSizeList.ensures (λ s. s) refl refl c.requires.stands c.requires.sound in
    parts_as c.sized_over.result _ _ (o.new_parts c.in_ok-values-in-FixedSizeList.values c.in_ok-values-in-FixedSizeList.ensures.parts) c.sized_over.ensures.parts

pub array_over-returns-in_ok-values-in-FixedSizeList-clause-fits : goal.array_over-returns-in_ok-values-in-FixedSizeList-clause-fits
array_over-returns-in_ok-values-in-FixedSizeList-clause-fits t c =
    let o = one_under_top (lists_of c.args.lists.now.items) (sized c.in-FixedSizeList.list.head) c.args.array.now c.in-FixedSizeList.list.children c.values-in-FixedSizeList.result.now c.args.number (ap parts_of c.in-FixedSizeList.is) c.values-in-FixedSizeList.ensures (λ s. s) refl refl c.requires.stands c.requires.sound in
    fits_as c.sized_over.result _ (sym o.large ∙ c.in_ok-values-in-FixedSizeList.ensures.fits)

pub array_over-returns-in_ok-values-in-FixedSizeList-clause-refused : goal.array_over-returns-in_ok-values-in-FixedSizeList-clause-refused
array_over-returns-in_ok-values-in-FixedSizeList-clause-refused t c =
    refused_memory c.sized_over.result _ c.sized_over.ensures.memory

pub array_over-array_over-requires-in-Map : goal.array_over-array_over-requires-in-Map
array_over-array_over-requires-in-Map t c =
    let o = one_under_top (lists_of c.args.lists.now.items) (mapped c.in-Map.map.head) c.args.array.now c.in-Map.map.children c.field.result.now c.args.number (ap parts_of c.in-Map.is) c.field.ensures (λ s. s) refl refl c.requires.stands c.requires.sound in
    let f = ap trees_size c.field.ensures in
    let a = ap (λ x. tree_size (parts_of x)) c.in-Map.is in
    let below : 2 * tree_size (parts_of c.field.result.now) < 2 * tree_size (parts_of c.args.array.now) = omega (arith, f, a) in
    (search (rules, below), (c.requires.kept, (o.stands, o.sound)))

pub array_over-returns-in_err-field-in-Map-clause-refused : goal.array_over-returns-in_err-field-in-Map-clause-refused
array_over-returns-in_err-field-in-Map-clause-refused t c =
    let o = one_under_top (lists_of c.args.lists.now.items) (mapped c.in-Map.map.head) c.args.array.now c.in-Map.map.children c.field.result.now c.args.number (ap parts_of c.in-Map.is) c.field.ensures (λ s. s) refl refl c.requires.stands c.requires.sound in
    refused_by c.from_residual-in_err-field-in-Map.result c.in_err-field-in-Map.field-0.0 _ _ c.from_residual-in_err-field-in-Map.ensures.1 (λ t. sym o.large ∙ t) c.in_err-field-in-Map.ensures.refused

pub array_over-map_over-requires : goal.array_over-map_over-requires
array_over-map_over-requires t c =
    let o = one_under_top (lists_of c.args.lists.now.items) (mapped c.in-Map.map.head) c.args.array.now c.in-Map.map.children c.field.result.now c.args.number (ap parts_of c.in-Map.is) c.field.ensures (λ s. s) refl refl c.requires.stands c.requires.sound in
    o.new_sound c.in_ok-field-in-Map.field c.in_ok-field-in-Map.ensures.parts

pub array_over-returns-in_ok-field-in-Map-clause-parts : goal.array_over-returns-in_ok-field-in-Map-clause-parts
array_over-returns-in_ok-field-in-Map-clause-parts t c =
    let o = one_under_top (lists_of c.args.lists.now.items) (mapped c.in-Map.map.head) c.args.array.now c.in-Map.map.children c.field.result.now c.args.number (ap parts_of c.in-Map.is) c.field.ensures (λ s. s) refl refl c.requires.stands c.requires.sound in
    parts_as c.map_over.result _ _ (o.new_parts c.in_ok-field-in-Map.field c.in_ok-field-in-Map.ensures.parts) c.map_over.ensures.parts

pub array_over-returns-in_ok-field-in-Map-clause-fits : goal.array_over-returns-in_ok-field-in-Map-clause-fits
array_over-returns-in_ok-field-in-Map-clause-fits t c =
    let o = one_under_top (lists_of c.args.lists.now.items) (mapped c.in-Map.map.head) c.args.array.now c.in-Map.map.children c.field.result.now c.args.number (ap parts_of c.in-Map.is) c.field.ensures (λ s. s) refl refl c.requires.stands c.requires.sound in
    fits_as c.map_over.result _ (sym o.large ∙ c.in_ok-field-in-Map.ensures.fits)

pub array_over-returns-in_ok-field-in-Map-clause-refused : goal.array_over-returns-in_ok-field-in-Map-clause-refused
array_over-returns-in_ok-field-in-Map-clause-refused t c =
    refused_memory c.map_over.result _ c.map_over.ensures.memory

pub array_over-arrays_over-requires : goal.array_over-arrays_over-requires
array_over-arrays_over-requires t c =
    let o = under_top (lists_of c.args.lists.now.items) (structured c.in-Struct.columns.head) c.args.array.now c.in-Struct.columns.children c.values-in-Struct.result.now c.args.number (ap parts_of c.in-Struct.is) c.values-in-Struct.ensures (λ s. s) refl refl c.requires.stands c.requires.sound in
    let f = ap trees_size c.values-in-Struct.ensures in
    let a = ap (λ x. tree_size (parts_of x)) c.in-Struct.is in
    let below : 2 * trees_size (forest_of c.values-in-Struct.result.now) + 1 < 2 * tree_size (parts_of c.args.array.now) = omega (arith, f, a) in
    (search (rules, below), (c.requires.kept, (o.stands, o.sound)))

pub array_over-returns-in_err-values-in-Struct-clause-refused : goal.array_over-returns-in_err-values-in-Struct-clause-refused
array_over-returns-in_err-values-in-Struct-clause-refused t c =
    let o = under_top (lists_of c.args.lists.now.items) (structured c.in-Struct.columns.head) c.args.array.now c.in-Struct.columns.children c.values-in-Struct.result.now c.args.number (ap parts_of c.in-Struct.is) c.values-in-Struct.ensures (λ s. s) refl refl c.requires.stands c.requires.sound in
    refused_by c.from_residual-in_err-values-in-Struct.result c.in_err-values-in-Struct.field-0.0 _ _ c.from_residual-in_err-values-in-Struct.ensures.1 (λ t. sym o.large ∙ t) c.in_err-values-in-Struct.ensures.refused

pub array_over-struct_over-requires : goal.array_over-struct_over-requires
array_over-struct_over-requires t c =
    let o = under_top (lists_of c.args.lists.now.items) (structured c.in-Struct.columns.head) c.args.array.now c.in-Struct.columns.children c.values-in-Struct.result.now c.args.number (ap parts_of c.in-Struct.is) c.values-in-Struct.ensures (λ s. s) refl refl c.requires.stands c.requires.sound in
    o.new_sound c.in_ok-values-in-Struct.values.items c.in_ok-values-in-Struct.ensures.parts

pub array_over-returns-in_ok-values-in-Struct-clause-parts : goal.array_over-returns-in_ok-values-in-Struct-clause-parts
array_over-returns-in_ok-values-in-Struct-clause-parts t c =
    let o = under_top (lists_of c.args.lists.now.items) (structured c.in-Struct.columns.head) c.args.array.now c.in-Struct.columns.children c.values-in-Struct.result.now c.args.number (ap parts_of c.in-Struct.is) c.values-in-Struct.ensures (λ s. s) refl refl c.requires.stands c.requires.sound in
    parts_as c.struct_over.result _ _ (o.new_parts c.in_ok-values-in-Struct.values.items c.in_ok-values-in-Struct.ensures.parts) c.struct_over.ensures.parts

pub array_over-returns-in_ok-values-in-Struct-clause-fits : goal.array_over-returns-in_ok-values-in-Struct-clause-fits
array_over-returns-in_ok-values-in-Struct-clause-fits t c =
    let o = under_top (lists_of c.args.lists.now.items) (structured c.in-Struct.columns.head) c.args.array.now c.in-Struct.columns.children c.values-in-Struct.result.now c.args.number (ap parts_of c.in-Struct.is) c.values-in-Struct.ensures (λ s. s) refl refl c.requires.stands c.requires.sound in
    fits_as c.struct_over.result _ (sym o.large ∙ c.in_ok-values-in-Struct.ensures.fits)

pub array_over-returns-in_ok-values-in-Struct-clause-refused : goal.array_over-returns-in_ok-values-in-Struct-clause-refused
array_over-returns-in_ok-values-in-Struct-clause-refused t c =
    refused_memory c.struct_over.result _ c.struct_over.ensures.memory

pub array_over-arrays_over-requires-in-Union : goal.array_over-arrays_over-requires-in-Union
array_over-arrays_over-requires-in-Union t c =
    let o = under_top (lists_of c.args.lists.now.items) (tagged c.in-Union.union.head) c.args.array.now c.in-Union.union.children c.fields.result.now c.args.number (ap parts_of c.in-Union.is) c.fields.ensures (λ s. s) refl refl c.requires.stands c.requires.sound in
    let f = ap trees_size c.fields.ensures in
    let a = ap (λ x. tree_size (parts_of x)) c.in-Union.is in
    let below : 2 * trees_size (forest_of c.fields.result.now) + 1 < 2 * tree_size (parts_of c.args.array.now) = omega (arith, f, a) in
    (search (rules, below), (c.requires.kept, (o.stands, o.sound)))

pub array_over-returns-in_err-fields-in-Union-clause-refused : goal.array_over-returns-in_err-fields-in-Union-clause-refused
array_over-returns-in_err-fields-in-Union-clause-refused t c =
    let o = under_top (lists_of c.args.lists.now.items) (tagged c.in-Union.union.head) c.args.array.now c.in-Union.union.children c.fields.result.now c.args.number (ap parts_of c.in-Union.is) c.fields.ensures (λ s. s) refl refl c.requires.stands c.requires.sound in
    refused_by c.from_residual-in_err-fields-in-Union.result c.in_err-fields-in-Union.field-0.0 _ _ c.from_residual-in_err-fields-in-Union.ensures.1 (λ t. sym o.large ∙ t) c.in_err-fields-in-Union.ensures.refused

pub array_over-union_over-requires : goal.array_over-union_over-requires
array_over-union_over-requires t c =
    let o = under_top (lists_of c.args.lists.now.items) (tagged c.in-Union.union.head) c.args.array.now c.in-Union.union.children c.fields.result.now c.args.number (ap parts_of c.in-Union.is) c.fields.ensures (λ s. s) refl refl c.requires.stands c.requires.sound in
    o.new_sound c.in_ok-fields-in-Union.fields.items c.in_ok-fields-in-Union.ensures.parts

pub array_over-returns-in_ok-fields-in-Union-clause-parts : goal.array_over-returns-in_ok-fields-in-Union-clause-parts
array_over-returns-in_ok-fields-in-Union-clause-parts t c =
    let o = under_top (lists_of c.args.lists.now.items) (tagged c.in-Union.union.head) c.args.array.now c.in-Union.union.children c.fields.result.now c.args.number (ap parts_of c.in-Union.is) c.fields.ensures (λ s. s) refl refl c.requires.stands c.requires.sound in
    parts_as c.union_over.result _ _ (o.new_parts c.in_ok-fields-in-Union.fields.items c.in_ok-fields-in-Union.ensures.parts) c.union_over.ensures.parts

pub array_over-returns-in_ok-fields-in-Union-clause-fits : goal.array_over-returns-in_ok-fields-in-Union-clause-fits
array_over-returns-in_ok-fields-in-Union-clause-fits t c =
    let o = under_top (lists_of c.args.lists.now.items) (tagged c.in-Union.union.head) c.args.array.now c.in-Union.union.children c.fields.result.now c.args.number (ap parts_of c.in-Union.is) c.fields.ensures (λ s. s) refl refl c.requires.stands c.requires.sound in
    fits_as c.union_over.result _ (sym o.large ∙ c.in_ok-fields-in-Union.ensures.fits)

pub array_over-returns-in_ok-fields-in-Union-clause-refused : goal.array_over-returns-in_ok-fields-in-Union-clause-refused
array_over-returns-in_ok-fields-in-Union-clause-refused t c =
    refused_memory c.union_over.result _ c.union_over.ensures.memory

-- ── arrays ──

pub arrays_over-loop-array-init : goal.arrays_over-loop-array-init
arrays_over-loop-array-init t c =
    record { over = arrays_begin _ _ _ _ c.new-over.ensures.items c.requires.stands c.requires.sound; same = same_itself c.args.lists.now.items c.requires.kept }

pub arrays_over-array_over-requires : goal.arrays_over-array_over-requires
arrays_over-array_over-requires t c =
    let xs = c.args.arrays.now in
    let x = c.array-item.result in
    let i = c.loop-array.array-index in
    let inv = c.loop-array.invariant in
    let us : Lists = lists_of c.args.lists.now.items in
    let ws : Lists = lists_of c.loop-array.lists.items in
    let n = array_next us ws xs c.loop-array.over.items c.args.number i c.loop-array.next x inv.same.lists inv.over c.loop-array-test.true c.array-item.is in
    let m = size_at xs i x c.loop-array-test.true in
    let s = ap (λ y. tree_size (parts_of y)) c.array-item.is in
    let below : 2 * tree_size (parts_of x) < 2 * trees_size (forest_of xs) + 1 = omega (arith, m, s) in
    (search (rules, below), (inv.same.kept, (n.stands, n.sound)))

pub arrays_over-returns-in_err-array_over-clause-refused : goal.arrays_over-returns-in_err-array_over-clause-refused
arrays_over-returns-in_err-array_over-clause-refused t c =
    let xs = c.args.arrays.now in
    let x = c.array-item.result in
    let i = c.loop-array.array-index in
    let inv = c.loop-array.invariant in
    let us : Lists = lists_of c.args.lists.now.items in
    let ws : Lists = lists_of c.loop-array.lists.items in
    let n = array_next us ws xs c.loop-array.over.items c.args.number i c.loop-array.next x inv.same.lists inv.over c.loop-array-test.true c.array-item.is in
    refused_by c.from_residual.result c.in_err-array_over.field-0.0 _ _ c.from_residual.ensures.1 n.large c.in_err-array_over.ensures.refused

pub arrays_over-loop-array-preserved : goal.arrays_over-loop-array-preserved
arrays_over-loop-array-preserved t c =
    let xs = c.args.arrays.now in
    let x = c.array-item.result in
    let i = c.loop-array.array-index in
    let inv = c.loop-array.invariant in
    let us : Lists = lists_of c.args.lists.now.items in
    let ws : Lists = lists_of c.loop-array.lists.items in
    let y = c.in_ok-array_over.field-0 in
    let grown : c.push.new.self.items ≡ c.loop-array.over.items ++ y ∷ [] = search (rules, c.in_ok-push.ensures.items) in
    let next : c.in_ok-next.next ≡ c.loop-array.next + dictionary_count (kind_in (parts_of x)) = c.in_ok-next.ensures.behind ∙ ap (λ k. c.loop-array.next + dictionary_count k) c.dtype.ensures in
    record {
      over = arrays_more us ws xs c.loop-array.over.items c.push.new.self.items c.args.number i c.loop-array.next c.in_ok-next.next x y inv.same.lists inv.over c.loop-array-test.true c.array-item.is c.in_ok-array_over.ensures.parts c.in_ok-array_over.ensures.fits grown next;
      same = same_through c.args.lists.now.items c.loop-array.lists.items c.array_over.new.lists.items inv.same c.in_ok-array_over.ensures.same;
    }

pub arrays_over-returns-clause-parts : goal.arrays_over-returns-clause-parts
arrays_over-returns-clause-parts t c =
    let d = arrays_done (lists_of c.args.lists.now.items) c.args.arrays.now c.loop-array.over.items c.args.number c.loop-array.array-index c.loop-array.next c.loop-array.invariant.over (omega (arith, c.loop-array-test.false)) in
    d.parts

pub arrays_over-returns-clause-fits : goal.arrays_over-returns-clause-fits
arrays_over-returns-clause-fits t c =
    let d = arrays_done (lists_of c.args.lists.now.items) c.args.arrays.now c.loop-array.over.items c.args.number c.loop-array.array-index c.loop-array.next c.loop-array.invariant.over (omega (arith, c.loop-array-test.false)) in
    d.large
