use Rattle.std.proofs.Common.{◌≡◌, suc, ◌+◌, ◌++◌, ◌∷◌, [], ◌<◌, ◌≤◌, refl, sym, ap, ◌∙◌, arith, rules, subst, length, get_or, true, None}
use Rattle.std.proofs.lemmas.List.{map-append}
use Rattle.std.proofs.lemmas.Bool.{and_from}
use Rattle.arrow_spec.specs.Readings.{Refuses}
use Rattle.arrow_spec.specs.Counts.{RecordBatch, Place, inside, union_buffers}
use Rattle.arrow_spec.specs.Faults.{place_in, child_faults}
use Rattle.arrow_types.specs.KindOf.{kind_of, child_of, fields_of}
use Rattle.arrow_types.specs.Numbers.{offsets_by}
use Rattle.arrow_arrays.specs.Heads.{are_of, are_all}
use Rattle.arrow_arrays.specs.OffsetsOf.{offsets_in, width_in}
use Rattle.arrow_arrays.specs.Parts.{nested, forest, kind_in, rows_in, rows_each, fault_each}
use Rattle.arrow_arrays.specs.PartsOf.{parts_of, all_parts_of, forest_of, only}
use Rattle.ipc_fields.specs.IpcFields.{ids_of}
use Rattle.ipc_read_laws.specs.Faults.{read_faults, fetched_at_most}
use Rattle.ipc_read_laws.specs.Held.{AreValuesOf, HasKind, AllHeldIn}
use Rattle.ipc_read_laws.specs.PartsRead.{HaveBytes, AllHaveBytes, forest_read, counted_read, parts_read, parts_under}
use Rattle.ipc_read_laws.proofs.Trees.{same_kind}
use Rattle.ipc_read.specs.Batches.{columns_fetched}
use Rattle.ipc_read.specs.ChildRows.{rows_by, rows_of_each}
use Rattle.ipc_read.specs.CountedArrays.{counted_head}
use Rattle.ipc_read.specs.Held.{held_in, column_kind, column_fields}
use Rattle.ipc_read.specs.Lists.{ListTop, is_any_map, list_head}
use Rattle.ipc_read.specs.Places.{behind, place_faults}
use Rattle.ipc_read.specs.Queues.{AllAt, BatchAt}
use Rattle.ipc_read.specs.Unions.{union_top}
use Rattle.ipc_read.proofs.Arrays.{if_any}
use Rattle.ipc_read.proofs.ColumnIds.{plain_column, carried_with, counted_with, union_with, types_with, maps_with}
use Rattle.ipc_read.proofs.CountedRows.{too_many_refused}
use Rattle.ipc_read.proofs.HeldKinds.{counted_held, held_counted, union_held, held_union, list_held, held_list, field_held, rest_held, HeldDone, next_held}
use Rattle.ipc_read.proofs.LeftFields.{dropped, StandsIn, next_in, last_in, dropped_end, child_with, child_as, child_stands, list_column, list_child_kind, width_by}
use Rattle.ipc_read.proofs.ListReads.{list_fetched, list_well, list_parts, list_shortened, list_child_refused, list_parts_refused, list_bytes, list_fields, list_suits, list_shape, list_after, last_read, parts_behind, list_parts_shortened, list_rows_of}
use Rattle.ipc_read.proofs.Nested.{kind_size, fields_size, counted_carried, counted_tree, union_tree, list_carried, list_tree, counted_is, counted_suits, counted_size, counted_one, counted_shape, child_size, child_carried, ChildrenDone, BytesDone, RowsDone, KindsDone, none_children, none_bytes, no_rows_done, next_child, next_bytes, child_refused, all_children, all_bytes, next_rows_done, all_rows_done, all_same, next_kind, all_kinds, next_sound, children_taken, children_until, left_fetched, counted_after, counted_head_refused, counted_children_refused, counted_well, counted_parts, counted_bytes, counted_shortened, head_shortened, head_behind, counted_fetched}
use Rattle.ipc_read.proofs.Passing.{at_all}
use Rattle.arrow_types.proofs.DataTypes.{kind_of_child}
use Rattle.ipc_read.proofs.Places.{first_place_in}
use Rattle.ipc_read.proofs.ReaderSteps.{known_on, readable_on, batch_on, queues_then, shortened_on, all_shortened_on, made, if_ok}
use Rattle.ipc_read.proofs.Refusals.{err_from}
use Rattle.ipc_read.proofs.UnionReads.{union_right, union_suits, union_is, union_after, top_behind, union_shortened, union_top_shortened, union_parts_refused, union_children_refused, union_made, union_bytes, union_rows, union_fetches}
use Rattle.ipc_read.proofs.readers.ColumnReader.+read.Goals as goal

-- ── any kind ──

pub read_tree-read_counted-requires : goal.read_tree-read_counted-requires
read_tree-read_counted-requires g t c = λ κs h.
    let k = c.in-Some.ensures.columns in
    (search (rules), (search (rules, h), (k, (c.requires.held, (c.requires.kinds, c.requires.readable)))))

pub read_tree-read_list-requires : goal.read_tree-read_list-requires
read_tree-read_list-requires g t c = λ κs h.
    let k = c.in-Some-list_child.ensures.child in
    (search (rules), (search (rules, h), (k, (c.requires.held, (c.requires.kinds, c.requires.readable)))))

pub read_tree-read_union-requires : goal.read_tree-read_union-requires
read_tree-read_union-requires g t c = λ κs h.
    let k = c.in-Some-union_fields.ensures.union in
    (search (rules), (search (rules, h), (k, (c.requires.held, (c.requires.kinds, c.requires.readable)))))

-- ── lists ──

pub read_list-read_tree-requires : goal.read_list-read_tree-requires
read_list-read_tree-requires g t c = λ κs h.
    let z : kind_size (kind_of c.args.dtype.now) ≡ 1 + kind_size (kind_of c.args.child.now.dtype) = omega (arith, list_tree (kind_of c.args.dtype.now) _ c.args.child.now c.requires.kind) in
    let held = list_held HasKind (held_in c.args.dictionaries.now) (column_kind c.args.dtype.now c.args.id c.args.fields.now) (offsets_by c.args.is_large) (child_as c.args.child.now (column_kind c.args.child.now.dtype c.id_at.result c.fields_at.result.now)) (list_column c.args.dtype.now c.args.id c.args.fields.now (offsets_by c.args.is_large) c.args.child.now c.id_at.result c.fields_at.result.now c.requires.kind c.id_at.ensures.id c.fields_at.ensures) c.requires.kinds in
    (search (rules, z), (search (rules, h), (list_carried (kind_of c.args.dtype.now) _ c.args.child.now c.requires.kind c.requires.held, (held, readable_on c.in_ok-parts.ensures.keeps.buffers c.requires.readable))))

pub read_list-returns-in_err-parts-clause-parts : goal.read_list-returns-in_err-parts-clause-parts
read_list-returns-in_err-parts-clause-parts g t c = λ m d p a known holds.
    err_from _ _ c.in_err-parts.field-0.0 _ _ _ c.from_residual.ensures.0 c.from_residual.ensures.1 (λ x e. e)
    (list_parts_refused m d (column_kind c.args.dtype.now c.args.id c.args.fields.now) (offsets_by c.args.is_large) (child_with (child_of c.args.child.now) (ids_of c.args.fields.now)) p c.args.rows c.in_err-parts.field-0.0 (list_child_kind c.args.dtype.now c.args.id c.args.fields.now (offsets_by c.args.is_large) c.args.child.now c.requires.kind) (c.in_err-parts.ensures.gives m p (at_all a.all) known).err)

pub read_list-returns-in_err-parts-clause-shortened : goal.read_list-returns-in_err-parts-clause-shortened
read_list-returns-in_err-parts-clause-shortened g t c =
    list_parts_shortened (column_kind c.args.dtype.now c.args.id c.args.fields.now) (offsets_by c.args.is_large) (child_with (child_of c.args.child.now) (ids_of c.args.fields.now)) c.args.self.now.version _ _ _ _ _ _ (list_child_kind c.args.dtype.now c.args.id c.args.fields.now (offsets_by c.args.is_large) c.args.child.now c.requires.kind) c.in_err-parts.ensures.shortened c.in_err-parts.ensures.buffers c.in_err-parts.ensures.counts

pub read_list-returns-in_err-parts-clause-fetched : goal.read_list-returns-in_err-parts-clause-fetched
read_list-returns-in_err-parts-clause-fetched g t c = λ m p a.
    omega (arith, c.in_err-parts.ensures.fetched m p (at_all a.all), list_fetched m (column_kind c.args.dtype.now c.args.id c.args.fields.now) (offsets_by c.args.is_large) (child_with (child_of c.args.child.now) (ids_of c.args.fields.now)) p c.args.rows 0 (list_child_kind c.args.dtype.now c.args.id c.args.fields.now (offsets_by c.args.is_large) c.args.child.now c.requires.kind) (λ z. refl))

pub read_list-returns-in_err-values-clause-parts : goal.read_list-returns-in_err-values-clause-parts
read_list-returns-in_err-values-clause-parts g t c = λ m d p a known holds.
    let x = (child_as c.args.child.now (column_kind c.args.child.now.dtype c.id_at.result c.fields_at.result.now)) in
    let o = offsets_by c.args.is_large in
    let q = batch_on c.in_ok-parts.ensures.keeps a.version (parts_behind m p _ _ _ _ (c.in_ok-parts.ensures.takes m p (at_all a.all)) c.in_ok-parts.ensures.counts a.all.views) in
    let v = (c.in_ok-parts.ensures.gives m p (at_all a.all) known).ok in
    let n = last_read m o p c.args.rows c.in_ok-parts.parts.last _ c.in_ok-parts.ensures.last (ap (λ (z : ListTop). z.offsets) v.1) in
    err_from _ _ c.in_err-values.field-0.0 _ _ _ c.from_residual-in_err-values.ensures.0 c.from_residual-in_err-values.ensures.1 (λ x e. e)
    (list_child_refused m d (column_kind c.args.dtype.now c.args.id c.args.fields.now) o x p c.args.rows c.in_err-values.field-0.0 (list_column c.args.dtype.now c.args.id c.args.fields.now (offsets_by c.args.is_large) c.args.child.now c.id_at.result c.fields_at.result.now c.requires.kind c.id_at.ensures.id c.fields_at.ensures) v.0 (subst (λ r. Refuses c.in_err-values.field-0.0 (read_faults m d x.kind (inside 2 p) r)) n (c.in_err-values.ensures.parts m d (inside 2 p) q (known_on c.in_ok-parts.ensures.keeps.buffers known) holds).err))

pub read_list-returns-in_err-values-clause-shortened : goal.read_list-returns-in_err-values-clause-shortened
read_list-returns-in_err-values-clause-shortened g t c =
    list_shortened (column_kind c.args.dtype.now c.args.id c.args.fields.now) (offsets_by c.args.is_large) (child_as c.args.child.now (column_kind c.args.child.now.dtype c.id_at.result c.fields_at.result.now)) c.args.self.now.version _ _ _ _ _ _ _ _ _ (list_column c.args.dtype.now c.args.id c.args.fields.now (offsets_by c.args.is_large) c.args.child.now c.id_at.result c.fields_at.result.now c.requires.kind c.id_at.ensures.id c.fields_at.ensures) c.in_ok-parts.ensures.shortened c.in_ok-parts.ensures.buffers c.in_ok-parts.ensures.counts (shortened_on c.in_ok-parts.ensures.keeps.version c.in_err-values.ensures.shortened)

pub read_list-returns-in_err-values-clause-fetched : goal.read_list-returns-in_err-values-clause-fetched
read_list-returns-in_err-values-clause-fetched g t c = λ m p a.
    let q = batch_on c.in_ok-parts.ensures.keeps a.version (parts_behind m p _ _ _ _ (c.in_ok-parts.ensures.takes m p (at_all a.all)) c.in_ok-parts.ensures.counts a.all.views) in
    omega (arith, c.in_ok-parts.ensures.fetched m p (at_all a.all), c.in_err-values.ensures.fetched m (inside 2 p) q, list_fetched m (column_kind c.args.dtype.now c.args.id c.args.fields.now) (offsets_by c.args.is_large) (child_as c.args.child.now (column_kind c.args.child.now.dtype c.id_at.result c.fields_at.result.now)) p c.args.rows c.in_ok-parts.parts.last (list_column c.args.dtype.now c.args.id c.args.fields.now (offsets_by c.args.is_large) c.args.child.now c.id_at.result c.fields_at.result.now c.requires.kind c.id_at.ensures.id c.fields_at.ensures) c.in_ok-parts.ensures.none)

pub read_list-make_listed-requires : goal.read_list-make_listed-requires
read_list-make_listed-requires g t c =
    let k = kind_of c.args.dtype.now in
    let x = child_of c.args.child.now in
    let o = offsets_by c.args.is_large in
    record {
      suits = list_suits k o _ x _ _ c.requires.kind c.in_ok-parts.ensures.width c.requires.held;
      kinds = ap (λ fs. are_of fs (kind_in (parts_of c.in_ok-values.values) ∷ [])) (list_fields k o x c.requires.kind) ∙ and_from _ true (same_kind x.kind (kind_in (parts_of c.in_ok-values.values)) (c.in_ok-values.ensures.shape.0 ∙ sym (kind_of_child c.args.child.now))) refl;
      rows = rw (list_rows_of c.args.rows _ c.in_ok-parts.ensures.offsets) c.in_ok-parts.ensures.rows;
      rise = rw (c.in_ok-values.ensures.shape.1) c.in_ok-parts.ensures.rise;
    }

pub read_list-returns-clause-takes : goal.read_list-returns-clause-takes
read_list-returns-clause-takes g t c = if_any c.make_listed.result _ (λ m p a.
    let q = batch_on c.in_ok-parts.ensures.keeps a.version (parts_behind m p _ _ _ _ (c.in_ok-parts.ensures.takes m p (at_all a.all)) c.in_ok-parts.ensures.counts a.all.views) in
    subst (λ r. AllAt m r c.read_tree.new.self.nodes.now.items c.read_tree.new.self.buffers.queue.now.items c.read_tree.new.self.variadic.now.items) (list_after m (column_kind c.args.dtype.now c.args.id c.args.fields.now) (offsets_by c.args.is_large) (child_as c.args.child.now (column_kind c.args.child.now.dtype c.id_at.result c.fields_at.result.now)) p (list_column c.args.dtype.now c.args.id c.args.fields.now (offsets_by c.args.is_large) c.args.child.now c.id_at.result c.fields_at.result.now c.requires.kind c.id_at.ensures.id c.fields_at.ensures)) (c.in_ok-values.ensures.takes m (inside 2 p) q))

pub read_list-returns-clause-parts : goal.read_list-returns-clause-parts
read_list-returns-clause-parts g t c = λ m d p a known holds.
    let k = column_kind c.args.dtype.now c.args.id c.args.fields.now in
    let hs = held_in c.args.dictionaries.now in
    let x = (child_as c.args.child.now (column_kind c.args.child.now.dtype c.id_at.result c.fields_at.result.now)) in
    let o = offsets_by c.args.is_large in
    let q = batch_on c.in_ok-parts.ensures.keeps a.version (parts_behind m p _ _ _ _ (c.in_ok-parts.ensures.takes m p (at_all a.all)) c.in_ok-parts.ensures.counts a.all.views) in
    let v = (c.in_ok-parts.ensures.gives m p (at_all a.all) known).ok in
    let n = last_read m o p c.args.rows c.in_ok-parts.parts.last _ c.in_ok-parts.ensures.last (ap (λ (z : ListTop). z.offsets) v.1) in
    let w = (c.in_ok-values.ensures.parts m d (inside 2 p) q (known_on c.in_ok-parts.ensures.keeps.buffers known) holds).ok in
    made _ c.make_listed.result _ _ _ c.make_listed.ensures.parts c.make_listed.ensures.memory
    (list_well m d k o x p c.args.rows _ _ _ (list_column c.args.dtype.now c.args.id c.args.fields.now (offsets_by c.args.is_large) c.args.child.now c.id_at.result c.fields_at.result.now c.requires.kind c.id_at.ensures.id c.fields_at.ensures) (c.in_ok-values.ensures.takes m (inside 2 p) q) v.0 (subst (λ r. read_faults m d x.kind (inside 2 p) r ≡ []) n w.0))
    (ap (λ b. nested (list_head b (record { kind = kind_of c.args.dtype.now; width = width_in c.in_ok-parts.parts.offsets; offsets = offsets_in c.in_ok-parts.parts.offsets; validity = c.in_ok-parts.parts.validity })) (only c.in_ok-values.values)) (sym (maps_with (kind_of c.args.dtype.now) c.args.id (ids_of c.args.fields.now)))
    ∙ list_parts m hs (kind_of c.args.dtype.now) k o _ x p c.args.rows _ _ _ (list_column c.args.dtype.now c.args.id c.args.fields.now (offsets_by c.args.is_large) c.args.child.now c.id_at.result c.fields_at.result.now c.requires.kind c.id_at.ensures.id c.fields_at.ensures) c.in_ok-parts.ensures.width v.1 (w.1 ∙ ap (parts_read m hs x.kind (inside 2 p)) n)
    ∙ ap (λ l. parts_under l m hs k p c.args.rows) (sym (plain_column c.args.dtype.now c.args.id c.args.fields.now)))

pub read_list-returns-clause-bytes : goal.read_list-returns-clause-bytes
read_list-returns-clause-bytes g t c = if_any c.make_listed.result _ (λ m p a known.
    let x = (child_as c.args.child.now (column_kind c.args.child.now.dtype c.id_at.result c.fields_at.result.now)) in
    let o = offsets_by c.args.is_large in
    let q = batch_on c.in_ok-parts.ensures.keeps a.version (parts_behind m p _ _ _ _ (c.in_ok-parts.ensures.takes m p (at_all a.all)) c.in_ok-parts.ensures.counts a.all.views) in
    let v = (c.in_ok-parts.ensures.gives m p (at_all a.all) known).ok in
    let n = last_read m o p c.args.rows c.in_ok-parts.parts.last _ c.in_ok-parts.ensures.last (ap (λ (z : ListTop). z.offsets) v.1) in
    list_bytes m (column_kind c.args.dtype.now c.args.id c.args.fields.now) o x p c.args.rows (list_column c.args.dtype.now c.args.id c.args.fields.now (offsets_by c.args.is_large) c.args.child.now c.id_at.result c.fields_at.result.now c.requires.kind c.id_at.ensures.id c.fields_at.ensures) (subst (λ r. HaveBytes m (x.kind) (inside 2 p) r) n (c.in_ok-values.ensures.bytes m (inside 2 p) q (known_on c.in_ok-parts.ensures.keeps.buffers known))))

pub read_list-returns-clause-shortened : goal.read_list-returns-clause-shortened
read_list-returns-clause-shortened g t c =
    list_shortened (column_kind c.args.dtype.now c.args.id c.args.fields.now) (offsets_by c.args.is_large) (child_as c.args.child.now (column_kind c.args.child.now.dtype c.id_at.result c.fields_at.result.now)) c.args.self.now.version _ _ _ _ _ _ _ _ _ (list_column c.args.dtype.now c.args.id c.args.fields.now (offsets_by c.args.is_large) c.args.child.now c.id_at.result c.fields_at.result.now c.requires.kind c.id_at.ensures.id c.fields_at.ensures) c.in_ok-parts.ensures.shortened c.in_ok-parts.ensures.buffers c.in_ok-parts.ensures.counts (shortened_on c.in_ok-parts.ensures.keeps.version c.in_ok-values.ensures.shortened)

pub read_list-returns-clause-shape : goal.read_list-returns-clause-shape
read_list-returns-clause-shape g t c = if_ok c.make_listed.result _ _ c.make_listed.ensures.parts (λ a e.
    let shape = list_shape (is_any_map (kind_of c.args.dtype.now)) _ in
    (ap kind_in e ∙ shape.0, ap rows_in e ∙ shape.1 ∙ list_rows_of c.args.rows _ c.in_ok-parts.ensures.offsets))

pub read_list-returns-clause-fetched : goal.read_list-returns-clause-fetched
read_list-returns-clause-fetched g t c = λ m p a.
    let q = batch_on c.in_ok-parts.ensures.keeps a.version (parts_behind m p _ _ _ _ (c.in_ok-parts.ensures.takes m p (at_all a.all)) c.in_ok-parts.ensures.counts a.all.views) in
    omega (arith, c.in_ok-parts.ensures.fetched m p (at_all a.all), c.in_ok-values.ensures.fetched m (inside 2 p) q, list_fetched m (column_kind c.args.dtype.now c.args.id c.args.fields.now) (offsets_by c.args.is_large) (child_as c.args.child.now (column_kind c.args.child.now.dtype c.id_at.result c.fields_at.result.now)) p c.args.rows c.in_ok-parts.parts.last (list_column c.args.dtype.now c.args.id c.args.fields.now (offsets_by c.args.is_large) c.args.child.now c.id_at.result c.fields_at.result.now c.requires.kind c.id_at.ensures.id c.fields_at.ensures) c.in_ok-parts.ensures.none)

pub read_list-returns-clause-sound : goal.read_list-returns-clause-sound
read_list-returns-clause-sound g t c = if_any c.make_listed.result _ (held_list AreValuesOf (held_in c.args.dictionaries.now) (column_kind c.args.dtype.now c.args.id c.args.fields.now) (offsets_by c.args.is_large) (child_as c.args.child.now (column_kind c.args.child.now.dtype c.id_at.result c.fields_at.result.now)) (list_column c.args.dtype.now c.args.id c.args.fields.now (offsets_by c.args.is_large) c.args.child.now c.id_at.result c.fields_at.result.now c.requires.kind c.id_at.ensures.id c.fields_at.ensures) c.in_ok-values.ensures.sound)

-- ── structs, and lists of one size ──

pub read_counted-read_children-requires : goal.read_counted-read_children-requires
read_counted-read_children-requires g t c = λ κs h.
    let k = kind_of c.args.dtype.now in
    let fs = fields_of c.args.children.now in
    let z : kind_size k ≡ 1 + fields_size fs = omega (arith, counted_tree k c.args.size fs c.requires.kind) in
    let held = counted_held HasKind (held_in c.args.dictionaries.now) (column_kind c.args.dtype.now c.args.id c.args.fields.now) c.args.size (column_fields c.args.children.now c.args.fields.now) (counted_with (kind_of c.args.dtype.now) c.args.id (ids_of c.args.fields.now) c.args.size (fields_of c.args.children.now) c.requires.kind) c.requires.kinds in
    (search (rules, z), (search (rules, h), (counted_carried k c.args.size fs c.requires.kind c.requires.held, (held, readable_on c.in_ok-validity.ensures.keeps.buffers c.requires.readable))))

pub read_counted-returns-in_err-validity-clause-parts : goal.read_counted-returns-in_err-validity-clause-parts
read_counted-returns-in_err-validity-clause-parts g t c = λ m d p a known holds.
    err_from _ _ c.in_err-validity.field-0.0 _ _ _ c.from_residual.ensures.0 c.from_residual.ensures.1 (λ x e. e)
    (counted_head_refused m d (column_kind c.args.dtype.now c.args.id c.args.fields.now) c.args.size (column_fields c.args.children.now c.args.fields.now) p c.args.rows c.in_err-validity.field-0.0 (counted_with (kind_of c.args.dtype.now) c.args.id (ids_of c.args.fields.now) c.args.size (fields_of c.args.children.now) c.requires.kind) (c.in_err-validity.ensures.gives m p (at_all a.all) known.told).err)

pub read_counted-returns-in_err-validity-clause-shortened : goal.read_counted-returns-in_err-validity-clause-shortened
read_counted-returns-in_err-validity-clause-shortened g t c =
    head_shortened (column_kind c.args.dtype.now c.args.id c.args.fields.now) c.args.size (column_fields c.args.children.now c.args.fields.now) c.args.self.now.version _ _ _ _ _ _ (counted_with (kind_of c.args.dtype.now) c.args.id (ids_of c.args.fields.now) c.args.size (fields_of c.args.children.now) c.requires.kind) c.in_err-validity.ensures.shortened c.in_err-validity.ensures.buffers c.in_err-validity.ensures.counts

pub read_counted-returns-in_err-validity-clause-fetched : goal.read_counted-returns-in_err-validity-clause-fetched
read_counted-returns-in_err-validity-clause-fetched g t c = λ m p a.
    omega (arith, c.in_err-validity.ensures.fetched m p (at_all a.all), counted_fetched m (column_kind c.args.dtype.now c.args.id c.args.fields.now) c.args.size (column_fields c.args.children.now c.args.fields.now) p c.args.rows (counted_with (kind_of c.args.dtype.now) c.args.id (ids_of c.args.fields.now) c.args.size (fields_of c.args.children.now) c.requires.kind))

pub read_counted-returns-in_err-under-clause-parts : goal.read_counted-returns-in_err-under-clause-parts
read_counted-returns-in_err-under-clause-parts g t c = λ m d p a known holds.
    let k = column_kind c.args.dtype.now c.args.id c.args.fields.now in
    let fs = column_fields c.args.children.now c.args.fields.now in
    let q = batch_on c.in_ok-validity.ensures.keeps a.version (head_behind m p _ _ _ _ (c.in_ok-validity.ensures.takes m p (at_all a.all)) c.in_ok-validity.ensures.counts a.all.views) in
    err_from _ _ c.in_err-under.field-0.0 _ _ _ c.from_residual-in_err-under.ensures.0 c.from_residual-in_err-under.ensures.1 (λ x e. e)
    (too_many_refused m d k c.args.size fs p c.args.rows c.in_err-under.field-0.0 (counted_with (kind_of c.args.dtype.now) c.args.id (ids_of c.args.fields.now) c.args.size (fields_of c.args.children.now) c.requires.kind) (carried_with (kind_of c.args.dtype.now) c.args.id (ids_of c.args.fields.now) ∙ c.requires.held) (c.in_err-under.ensures.err m (suc p.node) q.all.nodes))

pub read_counted-returns-in_err-under-clause-shortened : goal.read_counted-returns-in_err-under-clause-shortened
read_counted-returns-in_err-under-clause-shortened g t c =
    head_shortened (column_kind c.args.dtype.now c.args.id c.args.fields.now) c.args.size (column_fields c.args.children.now c.args.fields.now) c.args.self.now.version _ _ _ _ _ _ (counted_with (kind_of c.args.dtype.now) c.args.id (ids_of c.args.fields.now) c.args.size (fields_of c.args.children.now) c.requires.kind) c.in_ok-validity.ensures.shortened c.in_ok-validity.ensures.buffers c.in_ok-validity.ensures.counts

pub read_counted-returns-in_err-under-clause-fetched : goal.read_counted-returns-in_err-under-clause-fetched
read_counted-returns-in_err-under-clause-fetched g t c = λ m p a.
    omega (arith, c.in_ok-validity.ensures.fetched m p (at_all a.all), counted_fetched m (column_kind c.args.dtype.now c.args.id c.args.fields.now) c.args.size (column_fields c.args.children.now c.args.fields.now) p c.args.rows (counted_with (kind_of c.args.dtype.now) c.args.id (ids_of c.args.fields.now) c.args.size (fields_of c.args.children.now) c.requires.kind))

pub read_counted-returns-in_err-values-clause-parts : goal.read_counted-returns-in_err-values-clause-parts
read_counted-returns-in_err-values-clause-parts g t c = λ m d p a known holds.
    let q = batch_on c.in_ok-validity.ensures.keeps a.version (head_behind m p _ _ _ _ (c.in_ok-validity.ensures.takes m p (at_all a.all)) c.in_ok-validity.ensures.counts a.all.views) in
    let fs = column_fields c.args.children.now c.args.fields.now in
    err_from _ _ c.in_err-values.field-0.0 _ _ _ c.from_residual-in_err-values.ensures.0 c.from_residual-in_err-values.ensures.1 (λ x e. e)
    (counted_children_refused m d (column_kind c.args.dtype.now c.args.id c.args.fields.now) c.args.size fs p c.args.rows c.in_err-values.field-0.0 (counted_with (kind_of c.args.dtype.now) c.args.id (ids_of c.args.fields.now) c.args.size (fields_of c.args.children.now) c.requires.kind)
    (subst (λ n. Refuses c.in_err-values.field-0.0 (place_faults m (inside 1 p) (behind m fs (inside 1 p)) ++ child_faults m d fs (inside 1 p) (λ q. n))) c.in_ok-under.ensures.rows (c.in_err-values.ensures.parts m d (inside 1 p) q (known_on c.in_ok-validity.ensures.keeps.buffers known) holds).err))

pub read_counted-returns-in_err-values-clause-shortened : goal.read_counted-returns-in_err-values-clause-shortened
read_counted-returns-in_err-values-clause-shortened g t c =
    counted_shortened (column_kind c.args.dtype.now c.args.id c.args.fields.now) c.args.size (column_fields c.args.children.now c.args.fields.now) c.args.self.now.version _ _ _ _ _ _ _ _ _ (counted_with (kind_of c.args.dtype.now) c.args.id (ids_of c.args.fields.now) c.args.size (fields_of c.args.children.now) c.requires.kind) c.in_ok-validity.ensures.shortened c.in_ok-validity.ensures.buffers c.in_ok-validity.ensures.counts (all_shortened_on c.in_ok-validity.ensures.keeps.version c.in_err-values.ensures.shortened)

pub read_counted-returns-in_err-values-clause-fetched : goal.read_counted-returns-in_err-values-clause-fetched
read_counted-returns-in_err-values-clause-fetched g t c = λ m p a.
    let q = batch_on c.in_ok-validity.ensures.keeps a.version (head_behind m p _ _ _ _ (c.in_ok-validity.ensures.takes m p (at_all a.all)) c.in_ok-validity.ensures.counts a.all.views) in
    let n = ap (λ n. columns_fetched m (column_fields c.args.children.now c.args.fields.now) (inside 1 p) (λ q. n)) c.in_ok-under.ensures.rows in
    omega (arith, c.in_ok-validity.ensures.fetched m p (at_all a.all), c.in_err-values.ensures.fetched m (inside 1 p) q, n, counted_fetched m (column_kind c.args.dtype.now c.args.id c.args.fields.now) c.args.size (column_fields c.args.children.now c.args.fields.now) p c.args.rows (counted_with (kind_of c.args.dtype.now) c.args.id (ids_of c.args.fields.now) c.args.size (fields_of c.args.children.now) c.requires.kind))

pub read_counted-make_counted-requires : goal.read_counted-make_counted-requires
read_counted-make_counted-requires g t c =
    let k = kind_of c.args.dtype.now in
    let fs = fields_of c.args.children.now in
    record {
      suits = counted_suits k c.args.size fs c.args.rows _ c.requires.kind c.requires.held;
      kinds = rw (counted_is k c.args.size fs c.requires.kind) c.in_ok-values.ensures.kinds;
      all = subst (λ n. are_all n (rows_each (forest_of c.in_ok-values.values.items)) ≡ true) c.in_ok-under.ensures.rows (all_same (column_fields c.args.children.now c.args.fields.now) _ _ _ _ _ _ c.in_ok-values.ensures.rows);
      size = counted_size k c.args.size fs c.requires.kind;
      one = counted_one k c.args.size fs _ c.requires.kind c.requires.held c.in_ok-values.ensures.kinds;
      sound = c.in_ok-values.ensures.sound;
      rows = c.in_ok-validity.ensures.rows;
    }

pub read_counted-returns-clause-takes : goal.read_counted-returns-clause-takes
read_counted-returns-clause-takes g t c = if_any c.make_counted.result _ (λ m p a.
    let q = batch_on c.in_ok-validity.ensures.keeps a.version (head_behind m p _ _ _ _ (c.in_ok-validity.ensures.takes m p (at_all a.all)) c.in_ok-validity.ensures.counts a.all.views) in
    subst (λ r. AllAt m r c.read_children.new.self.nodes.now.items c.read_children.new.self.buffers.queue.now.items c.read_children.new.self.variadic.now.items) (counted_after m (column_kind c.args.dtype.now c.args.id c.args.fields.now) c.args.size (column_fields c.args.children.now c.args.fields.now) p (counted_with (kind_of c.args.dtype.now) c.args.id (ids_of c.args.fields.now) c.args.size (fields_of c.args.children.now) c.requires.kind)) (c.in_ok-values.ensures.takes m (inside 1 p) q))

pub read_counted-returns-clause-parts : goal.read_counted-returns-clause-parts
read_counted-returns-clause-parts g t c = λ m d p a known holds.
    let k = column_kind c.args.dtype.now c.args.id c.args.fields.now in
    let l = kind_of c.args.dtype.now in
    let hs = held_in c.args.dictionaries.now in
    let s = c.args.size in
    let fs = column_fields c.args.children.now c.args.fields.now in
    let q = batch_on c.in_ok-validity.ensures.keeps a.version (head_behind m p _ _ _ _ (c.in_ok-validity.ensures.takes m p (at_all a.all)) c.in_ok-validity.ensures.counts a.all.views) in
    let v = (c.in_ok-validity.ensures.gives m p (at_all a.all) known.told).ok in
    let w = (c.in_ok-values.ensures.parts m d (inside 1 p) q (known_on c.in_ok-validity.ensures.keeps.buffers known) holds).ok in
    let n = c.in_ok-under.ensures.rows in
    made _ c.make_counted.result _ _ _ c.make_counted.ensures.parts c.make_counted.ensures.memory
    (counted_well m d k s fs p c.args.rows _ _ _ (counted_with (kind_of c.args.dtype.now) c.args.id (ids_of c.args.fields.now) c.args.size (fields_of c.args.children.now) c.requires.kind) (c.in_ok-values.ensures.takes m (inside 1 p) q) v.0 (subst (λ n. place_faults m (inside 1 p) (behind m fs (inside 1 p)) ++ child_faults m d fs (inside 1 p) (λ q. n) ≡ []) n w.0))
    (ap (λ x. nested (counted_head s (record { kind = l; rows = c.args.rows; validity = x })) (forest_of c.in_ok-values.values.items)) v.1 ∙ ap (nested (counted_head s (counted_read m l p c.args.rows))) (w.1 ∙ ap (λ n. forest_read m hs fs (inside 1 p) (λ q. n)) n) ∙ counted_parts m hs l k s fs p c.args.rows (counted_with (kind_of c.args.dtype.now) c.args.id (ids_of c.args.fields.now) c.args.size (fields_of c.args.children.now) c.requires.kind)
    ∙ ap (λ z. parts_under z m hs k p c.args.rows) (sym (plain_column c.args.dtype.now c.args.id c.args.fields.now)))

pub read_counted-returns-clause-bytes : goal.read_counted-returns-clause-bytes
read_counted-returns-clause-bytes g t c = if_any c.make_counted.result _ (λ m p a known.
    let fs = column_fields c.args.children.now c.args.fields.now in
    let q = batch_on c.in_ok-validity.ensures.keeps a.version (head_behind m p _ _ _ _ (c.in_ok-validity.ensures.takes m p (at_all a.all)) c.in_ok-validity.ensures.counts a.all.views) in
    counted_bytes m (column_kind c.args.dtype.now c.args.id c.args.fields.now) c.args.size fs p c.args.rows (counted_with (kind_of c.args.dtype.now) c.args.id (ids_of c.args.fields.now) c.args.size (fields_of c.args.children.now) c.requires.kind) (subst (λ n. AllHaveBytes m fs (inside 1 p) (λ q. n)) c.in_ok-under.ensures.rows (c.in_ok-values.ensures.bytes m (inside 1 p) q (known_on c.in_ok-validity.ensures.keeps.buffers known))))

pub read_counted-returns-clause-shortened : goal.read_counted-returns-clause-shortened
read_counted-returns-clause-shortened g t c =
    counted_shortened (column_kind c.args.dtype.now c.args.id c.args.fields.now) c.args.size (column_fields c.args.children.now c.args.fields.now) c.args.self.now.version _ _ _ _ _ _ _ _ _ (counted_with (kind_of c.args.dtype.now) c.args.id (ids_of c.args.fields.now) c.args.size (fields_of c.args.children.now) c.requires.kind) c.in_ok-validity.ensures.shortened c.in_ok-validity.ensures.buffers c.in_ok-validity.ensures.counts (all_shortened_on c.in_ok-validity.ensures.keeps.version c.in_ok-values.ensures.shortened)

pub read_counted-returns-clause-shape : goal.read_counted-returns-clause-shape
read_counted-returns-clause-shape g t c = if_ok c.make_counted.result _ _ c.make_counted.ensures.parts (λ a e.
    let shape = counted_shape c.args.size (kind_of c.args.dtype.now) c.args.rows _ in
    (ap kind_in e ∙ shape.0, ap rows_in e ∙ shape.1))

pub read_counted-returns-clause-fetched : goal.read_counted-returns-clause-fetched
read_counted-returns-clause-fetched g t c = λ m p a.
    let q = batch_on c.in_ok-validity.ensures.keeps a.version (head_behind m p _ _ _ _ (c.in_ok-validity.ensures.takes m p (at_all a.all)) c.in_ok-validity.ensures.counts a.all.views) in
    let n = ap (λ n. columns_fetched m (column_fields c.args.children.now c.args.fields.now) (inside 1 p) (λ q. n)) c.in_ok-under.ensures.rows in
    omega (arith, c.in_ok-validity.ensures.fetched m p (at_all a.all), c.in_ok-values.ensures.fetched m (inside 1 p) q, n, counted_fetched m (column_kind c.args.dtype.now c.args.id c.args.fields.now) c.args.size (column_fields c.args.children.now c.args.fields.now) p c.args.rows (counted_with (kind_of c.args.dtype.now) c.args.id (ids_of c.args.fields.now) c.args.size (fields_of c.args.children.now) c.requires.kind))

pub read_counted-returns-clause-sound : goal.read_counted-returns-clause-sound
read_counted-returns-clause-sound g t c = if_any c.make_counted.result _ (held_counted AreValuesOf (held_in c.args.dictionaries.now) (column_kind c.args.dtype.now c.args.id c.args.fields.now) c.args.size (column_fields c.args.children.now c.args.fields.now) (counted_with (kind_of c.args.dtype.now) c.args.id (ids_of c.args.fields.now) c.args.size (fields_of c.args.children.now) c.requires.kind) c.in_ok-values.ensures.whole)

-- ── unions ──

pub read_union-read_children-requires : goal.read_union-read_children-requires
read_union-read_children-requires g t c = λ κs h.
    let k = kind_of c.args.dtype.now in
    let fs = fields_of c.args.children.now in
    let z : kind_size k ≡ 1 + fields_size fs = omega (arith, union_tree k c.args.mode fs c.requires.kind) in
    let held = union_held HasKind (held_in c.args.dictionaries.now) (column_kind c.args.dtype.now c.args.id c.args.fields.now) c.args.mode (column_fields c.args.children.now c.args.fields.now) (union_with (kind_of c.args.dtype.now) c.args.id (ids_of c.args.fields.now) c.args.mode (fields_of c.args.children.now) c.requires.kind) c.requires.kinds in
    (search (rules, z), (search (rules, h), ((union_right k c.args.mode fs c.requires.kind c.requires.held).1, (held, readable_on c.in_ok-parts.ensures.keeps.buffers c.requires.readable))))

pub read_union-returns-in_err-parts-clause-parts : goal.read_union-returns-in_err-parts-clause-parts
read_union-returns-in_err-parts-clause-parts g t c = λ m d p a known holds.
    err_from _ _ c.in_err-parts.field-0.0 _ _ _ c.from_residual.ensures.0 c.from_residual.ensures.1 (λ x e. e)
    (union_parts_refused m d (column_kind c.args.dtype.now c.args.id c.args.fields.now) c.args.mode (column_fields c.args.children.now c.args.fields.now) p c.args.rows c.in_err-parts.field-0.0 (union_with (kind_of c.args.dtype.now) c.args.id (ids_of c.args.fields.now) c.args.mode (fields_of c.args.children.now) c.requires.kind) (c.in_err-parts.ensures.gives m p a known).err)

pub read_union-returns-in_err-parts-clause-shortened : goal.read_union-returns-in_err-parts-clause-shortened
read_union-returns-in_err-parts-clause-shortened g t c =
    union_top_shortened (column_kind c.args.dtype.now c.args.id c.args.fields.now) c.args.mode (column_fields c.args.children.now c.args.fields.now) c.args.self.now.version _ _ _ _ _ _ (union_with (kind_of c.args.dtype.now) c.args.id (ids_of c.args.fields.now) c.args.mode (fields_of c.args.children.now) c.requires.kind) c.in_err-parts.ensures.shortened c.in_err-parts.ensures.buffers c.in_err-parts.ensures.counts

pub read_union-returns-in_err-parts-clause-fetched : goal.read_union-returns-in_err-parts-clause-fetched
read_union-returns-in_err-parts-clause-fetched g t c = λ m p a.
    omega (arith, c.in_err-parts.ensures.fetched m p a, union_fetches m (column_kind c.args.dtype.now c.args.id c.args.fields.now) c.args.mode (column_fields c.args.children.now c.args.fields.now) p c.args.rows (union_with (kind_of c.args.dtype.now) c.args.id (ids_of c.args.fields.now) c.args.mode (fields_of c.args.children.now) c.requires.kind))

pub read_union-returns-in_err-values-clause-parts : goal.read_union-returns-in_err-values-clause-parts
read_union-returns-in_err-values-clause-parts g t c = λ m d p a known holds.
    let fs = column_fields c.args.children.now c.args.fields.now in
    let own = union_buffers m.version c.args.mode in
    let q = batch_on c.in_ok-parts.ensures.keeps a.version (top_behind m own p _ _ _ _ (c.in_ok-parts.ensures.takes m p a) c.in_ok-parts.ensures.counts a.all.views) in
    err_from _ _ c.in_err-values.field-0.0 _ _ _ c.from_residual-in_err-values.ensures.0 c.from_residual-in_err-values.ensures.1 (λ x e. e)
    (union_children_refused m d (column_kind c.args.dtype.now c.args.id c.args.fields.now) c.args.mode fs p c.args.rows c.in_err-values.field-0.0 (union_with (kind_of c.args.dtype.now) c.args.id (ids_of c.args.fields.now) c.args.mode (fields_of c.args.children.now) c.requires.kind)
    (subst (λ r. Refuses c.in_err-values.field-0.0 (place_faults m (inside own p) (behind m fs (inside own p)) ++ child_faults m d fs (inside own p) (rows_by r m))) c.children_rows-under.ensures (c.in_err-values.ensures.parts m d (inside own p) q (known_on c.in_ok-parts.ensures.keeps.buffers known) holds).err))

pub read_union-returns-in_err-values-clause-shortened : goal.read_union-returns-in_err-values-clause-shortened
read_union-returns-in_err-values-clause-shortened g t c =
    union_shortened (column_kind c.args.dtype.now c.args.id c.args.fields.now) c.args.mode (column_fields c.args.children.now c.args.fields.now) c.args.self.now.version _ _ _ _ _ _ _ _ _ (union_with (kind_of c.args.dtype.now) c.args.id (ids_of c.args.fields.now) c.args.mode (fields_of c.args.children.now) c.requires.kind) c.in_ok-parts.ensures.shortened c.in_ok-parts.ensures.buffers c.in_ok-parts.ensures.counts (all_shortened_on c.in_ok-parts.ensures.keeps.version c.in_err-values.ensures.shortened)

pub read_union-returns-in_err-values-clause-fetched : goal.read_union-returns-in_err-values-clause-fetched
read_union-returns-in_err-values-clause-fetched g t c = λ m p a.
    let fs = column_fields c.args.children.now c.args.fields.now in
    let own = union_buffers m.version c.args.mode in
    let q = batch_on c.in_ok-parts.ensures.keeps a.version (top_behind m own p _ _ _ _ (c.in_ok-parts.ensures.takes m p a) c.in_ok-parts.ensures.counts a.all.views) in
    let n = ap (λ r. columns_fetched m fs (inside own p) (rows_by r m)) c.children_rows-under.ensures in
    omega (arith, c.in_ok-parts.ensures.fetched m p a, c.in_err-values.ensures.fetched m (inside own p) q, n, union_fetches m (column_kind c.args.dtype.now c.args.id c.args.fields.now) c.args.mode fs p c.args.rows (union_with (kind_of c.args.dtype.now) c.args.id (ids_of c.args.fields.now) c.args.mode (fields_of c.args.children.now) c.requires.kind))

pub read_union-make_union-requires : goal.read_union-make_union-requires
read_union-make_union-requires g t c =
    let k = kind_of c.args.dtype.now in
    let fs = fields_of c.args.children.now in
    record {
      suits = union_suits k c.args.mode fs _ c.requires.kind c.requires.held c.in_ok-parts.ensures.mode;
      kinds = rw (union_is k c.args.mode fs c.requires.kind) c.in_ok-values.ensures.kinds;
      rows = union_rows c.args.mode (column_fields c.args.children.now c.args.fields.now) _ _ _ _ c.args.rows _ _ _ c.in_ok-parts.ensures.mode c.in_ok-parts.ensures.rows c.in_ok-parts.ensures.places (λ m p a. c.in_ok-values.ensures.rows m p a ∙ ap (λ r. rows_of_each m (column_fields c.args.children.now c.args.fields.now) p (rows_by r m)) c.children_rows-under.ensures);
      sound = c.in_ok-values.ensures.sound;
    }

pub read_union-returns-clause-takes : goal.read_union-returns-clause-takes
read_union-returns-clause-takes g t c = if_any c.make_union.result _ (λ m p a.
    let own = union_buffers m.version c.args.mode in
    let q = batch_on c.in_ok-parts.ensures.keeps a.version (top_behind m own p _ _ _ _ (c.in_ok-parts.ensures.takes m p a) c.in_ok-parts.ensures.counts a.all.views) in
    subst (λ r. AllAt m r c.read_children.new.self.nodes.now.items c.read_children.new.self.buffers.queue.now.items c.read_children.new.self.variadic.now.items) (union_after m (column_kind c.args.dtype.now c.args.id c.args.fields.now) c.args.mode (column_fields c.args.children.now c.args.fields.now) p (union_with (kind_of c.args.dtype.now) c.args.id (ids_of c.args.fields.now) c.args.mode (fields_of c.args.children.now) c.requires.kind)) (c.in_ok-values.ensures.takes m (inside own p) q))

pub read_union-returns-clause-parts : goal.read_union-returns-clause-parts
read_union-returns-clause-parts g t c = λ m d p a known holds.
    let fs = column_fields c.args.children.now c.args.fields.now in
    let own = union_buffers m.version c.args.mode in
    let q = batch_on c.in_ok-parts.ensures.keeps a.version (top_behind m own p _ _ _ _ (c.in_ok-parts.ensures.takes m p a) c.in_ok-parts.ensures.counts a.all.views) in
    let v = (c.in_ok-parts.ensures.gives m p a known).ok in
    let w = (c.in_ok-values.ensures.parts m d (inside own p) q (known_on c.in_ok-parts.ensures.keeps.buffers known) holds).ok in
    let n = c.children_rows-under.ensures in
    union_made c.make_union.result m d (held_in c.args.dictionaries.now) (kind_of c.args.dtype.now) (column_kind c.args.dtype.now c.args.id c.args.fields.now) c.args.mode fs p c.args.rows (union_top c.in_ok-parts.parts.types c.in_ok-parts.parts.offsets) (rows_each (forest_of c.in_ok-values.values.items)) (forest_of c.in_ok-values.values.items) _ _ _ (union_with (kind_of c.args.dtype.now) c.args.id (ids_of c.args.fields.now) c.args.mode (fields_of c.args.children.now) c.requires.kind) (carried_with (kind_of c.args.dtype.now) c.args.id (ids_of c.args.fields.now) ∙ c.requires.held) (sym (types_with (kind_of c.args.dtype.now) c.args.id (ids_of c.args.fields.now))) (plain_column c.args.dtype.now c.args.id c.args.fields.now)
    (c.in_ok-values.ensures.takes m (inside own p) q) v.1 (c.in_ok-values.ensures.rows m (inside own p) q ∙ ap (λ r. rows_of_each m fs (inside own p) (rows_by r m)) n) v.0
    (subst (λ r. place_faults m (inside own p) (behind m fs (inside own p)) ++ child_faults m d fs (inside own p) (rows_by r m) ≡ []) n w.0) (w.1 ∙ ap (λ r. forest_read m (held_in c.args.dictionaries.now) fs (inside own p) (rows_by r m)) n)
    c.make_union.ensures.parts c.make_union.ensures.places c.make_union.ensures.ids c.make_union.ensures.err

pub read_union-returns-clause-bytes : goal.read_union-returns-clause-bytes
read_union-returns-clause-bytes g t c = if_any c.make_union.result _ (λ m p a known.
    let fs = column_fields c.args.children.now c.args.fields.now in
    let own = union_buffers m.version c.args.mode in
    let q = batch_on c.in_ok-parts.ensures.keeps a.version (top_behind m own p _ _ _ _ (c.in_ok-parts.ensures.takes m p a) c.in_ok-parts.ensures.counts a.all.views) in
    union_bytes m (column_kind c.args.dtype.now c.args.id c.args.fields.now) c.args.mode fs p c.args.rows (union_with (kind_of c.args.dtype.now) c.args.id (ids_of c.args.fields.now) c.args.mode (fields_of c.args.children.now) c.requires.kind) (subst (λ r. AllHaveBytes m fs (inside own p) (rows_by r m)) c.children_rows-under.ensures (c.in_ok-values.ensures.bytes m (inside own p) q (known_on c.in_ok-parts.ensures.keeps.buffers known))))

pub read_union-returns-clause-shortened : goal.read_union-returns-clause-shortened
read_union-returns-clause-shortened g t c =
    union_shortened (column_kind c.args.dtype.now c.args.id c.args.fields.now) c.args.mode (column_fields c.args.children.now c.args.fields.now) c.args.self.now.version _ _ _ _ _ _ _ _ _ (union_with (kind_of c.args.dtype.now) c.args.id (ids_of c.args.fields.now) c.args.mode (fields_of c.args.children.now) c.requires.kind) c.in_ok-parts.ensures.shortened c.in_ok-parts.ensures.buffers c.in_ok-parts.ensures.counts (all_shortened_on c.in_ok-parts.ensures.keeps.version c.in_ok-values.ensures.shortened)

pub read_union-returns-clause-shape : goal.read_union-returns-clause-shape
read_union-returns-clause-shape g t c = if_ok c.make_union.result _ _ c.make_union.ensures.parts (λ a e. (ap kind_in e, ap rows_in e ∙ c.in_ok-parts.ensures.rows))

pub read_union-returns-clause-fetched : goal.read_union-returns-clause-fetched
read_union-returns-clause-fetched g t c = λ m p a.
    let fs = column_fields c.args.children.now c.args.fields.now in
    let own = union_buffers m.version c.args.mode in
    let q = batch_on c.in_ok-parts.ensures.keeps a.version (top_behind m own p _ _ _ _ (c.in_ok-parts.ensures.takes m p a) c.in_ok-parts.ensures.counts a.all.views) in
    let n = ap (λ r. columns_fetched m fs (inside own p) (rows_by r m)) c.children_rows-under.ensures in
    omega (arith, c.in_ok-parts.ensures.fetched m p a, c.in_ok-values.ensures.fetched m (inside own p) q, n, union_fetches m (column_kind c.args.dtype.now c.args.id c.args.fields.now) c.args.mode fs p c.args.rows (union_with (kind_of c.args.dtype.now) c.args.id (ids_of c.args.fields.now) c.args.mode (fields_of c.args.children.now) c.requires.kind))

pub read_union-returns-clause-sound : goal.read_union-returns-clause-sound
read_union-returns-clause-sound g t c = if_any c.make_union.result _ (held_union AreValuesOf (held_in c.args.dictionaries.now) (column_kind c.args.dtype.now c.args.id c.args.fields.now) c.args.mode (column_fields c.args.children.now c.args.fields.now) (union_with (kind_of c.args.dtype.now) c.args.id (ids_of c.args.fields.now) c.args.mode (fields_of c.args.children.now) c.requires.kind) c.in_ok-values.ensures.whole)

-- ── children ──

pub read_children-read_tree-requires : goal.read_children-read_tree-requires
read_children-read_tree-requires g t c = λ κs h.
    let cs = c.args.children.now in
    let i = c.loop-i.i in
    let x = get_or c.args.children.now c.loop-i.i c.index-children-i.result in
    let below : i < length cs = omega (arith, c.loop-i-test.true) in
    let z : kind_size (kind_of x.dtype) ≤ fields_size (fields_of cs) = child_size cs i x below (ap (get_or c.args.children.now c.loop-i.i) c.index-children-i.is) in
    let e = child_stands cs c.args.fields.now i x c.id_at.result c.fields_at.result.now below (ap (get_or c.args.children.now c.loop-i.i) c.index-children-i.is) c.id_at.ensures.id c.fields_at.ensures in
    let held = field_held HasKind (held_in c.args.dictionaries.now) (column_fields cs c.args.fields.now) i (child_as x (column_kind x.dtype c.id_at.result c.fields_at.result.now)) e c.loop-i.invariant.kinds_left in
    (search (rules, z), (search (rules, h), (child_carried cs i x below (ap (get_or c.args.children.now c.loop-i.i) c.index-children-i.is) c.requires.held, (held, readable_on c.loop-i.invariant.keeps.buffers c.requires.readable))))

pub read_children-returns-in_err-array-clause-parts : goal.read_children-returns-in_err-array-clause-parts
read_children-returns-in_err-array-clause-parts g t c = λ m d p a known holds.
    let fs = column_fields c.args.children.now c.args.fields.now in
    let i = c.loop-i.i in
    let x = get_or c.args.children.now c.loop-i.i c.index-children-i.result in
    let here = place_in m fs i p in
    let left = c.loop-i.invariant.queues m p a in
    let e = child_stands c.args.children.now c.args.fields.now i x c.id_at.result c.fields_at.result.now (omega (arith, c.loop-i-test.true)) (ap (get_or c.args.children.now c.loop-i.i) c.index-children-i.is) c.id_at.ensures.id c.fields_at.ensures in
    err_from _ _ c.in_err-array.field-0.0 _ _ _ c.from_residual.ensures.0 c.from_residual.ensures.1 (λ x e. e)
    (child_refused m d (held_in c.args.dictionaries.now) fs i c.rows_of_next-asked.result (rows_by c.args.rows m) p (all_parts_of c.loop-i.arrays.items) (child_as x (column_kind x.dtype c.id_at.result c.fields_at.result.now)) c.in_err-array.field-0.0 e (c.rows_of_next-asked.ensures m here left.nodes) (c.loop-i.invariant.done m d p a known holds)
    (c.in_err-array.ensures.parts m d here (batch_on c.loop-i.invariant.keeps a.version left) (known_on c.loop-i.invariant.keeps.buffers known) holds).err)

pub read_children-returns-in_err-array-clause-shortened : goal.read_children-returns-in_err-array-clause-shortened
read_children-returns-in_err-array-clause-shortened g t c =
    let x = get_or c.args.children.now c.loop-i.i c.index-children-i.result in
    let e = child_stands c.args.children.now c.args.fields.now c.loop-i.i x c.id_at.result c.fields_at.result.now (omega (arith, c.loop-i-test.true)) (ap (get_or c.args.children.now c.loop-i.i) c.index-children-i.is) c.id_at.ensures.id c.fields_at.ensures in
    children_until (column_fields c.args.children.now c.args.fields.now) c.loop-i.i (child_as x (column_kind x.dtype c.id_at.result c.fields_at.result.now)) c.args.self.now.version _ _ _ _ _ _ _ _ _ e c.loop-i.invariant.queues (shortened_on c.loop-i.invariant.keeps.version c.in_err-array.ensures.shortened)

pub read_children-returns-in_err-array-clause-fetched : goal.read_children-returns-in_err-array-clause-fetched
read_children-returns-in_err-array-clause-fetched g t c = λ m p a.
    let fs = column_fields c.args.children.now c.args.fields.now in
    let x = get_or c.args.children.now c.loop-i.i c.index-children-i.result in
    let e = child_stands c.args.children.now c.args.fields.now c.loop-i.i x c.id_at.result c.fields_at.result.now (omega (arith, c.loop-i-test.true)) (ap (get_or c.args.children.now c.loop-i.i) c.index-children-i.is) c.id_at.ensures.id c.fields_at.ensures in
    let q = place_in m fs c.loop-i.i p in
    let left = c.loop-i.invariant.queues m p a in
    let here = c.read_tree.ensures.fetched m q (batch_on c.loop-i.invariant.keeps a.version left) in
    let asked = ap (fetched_at_most m (column_kind x.dtype c.id_at.result c.fields_at.result.now) q) (c.rows_of_next-asked.ensures m q left.nodes) in
    let rest = left_fetched m fs c.loop-i.i (rows_by c.args.rows m) (child_as x (column_kind x.dtype c.id_at.result c.fields_at.result.now)) p e in
    let before = c.loop-i.invariant.fetched m p a in
    omega (arith, here, asked, rest, before)

pub read_children-returns-in_err-push-clause-shortened : goal.read_children-returns-in_err-push-clause-shortened
read_children-returns-in_err-push-clause-shortened g t c =
    let x = get_or c.args.children.now c.loop-i.i c.index-children-i.result in
    let e = child_stands c.args.children.now c.args.fields.now c.loop-i.i x c.id_at.result c.fields_at.result.now (omega (arith, c.loop-i-test.true)) (ap (get_or c.args.children.now c.loop-i.i) c.index-children-i.is) c.id_at.ensures.id c.fields_at.ensures in
    children_until (column_fields c.args.children.now c.args.fields.now) c.loop-i.i (child_as x (column_kind x.dtype c.id_at.result c.fields_at.result.now)) c.args.self.now.version _ _ _ _ _ _ _ _ _ e c.loop-i.invariant.queues (shortened_on c.loop-i.invariant.keeps.version c.in_ok-array.ensures.shortened)

pub read_children-returns-in_err-push-clause-fetched : goal.read_children-returns-in_err-push-clause-fetched
read_children-returns-in_err-push-clause-fetched g t c = λ m p a.
    let fs = column_fields c.args.children.now c.args.fields.now in
    let x = get_or c.args.children.now c.loop-i.i c.index-children-i.result in
    let e = child_stands c.args.children.now c.args.fields.now c.loop-i.i x c.id_at.result c.fields_at.result.now (omega (arith, c.loop-i-test.true)) (ap (get_or c.args.children.now c.loop-i.i) c.index-children-i.is) c.id_at.ensures.id c.fields_at.ensures in
    let q = place_in m fs c.loop-i.i p in
    let left = c.loop-i.invariant.queues m p a in
    let here = c.read_tree.ensures.fetched m q (batch_on c.loop-i.invariant.keeps a.version left) in
    let asked = ap (fetched_at_most m (column_kind x.dtype c.id_at.result c.fields_at.result.now) q) (c.rows_of_next-asked.ensures m q left.nodes) in
    let rest = left_fetched m fs c.loop-i.i (rows_by c.args.rows m) (child_as x (column_kind x.dtype c.id_at.result c.fields_at.result.now)) p e in
    let before = c.loop-i.invariant.fetched m p a in
    omega (arith, here, asked, rest, before)

pub read_children-loop-i-init : goal.read_children-loop-i-init
read_children-loop-i-init g t c =
    let fs = column_fields c.args.children.now c.args.fields.now in
    let h = held_in c.args.dictionaries.now in
    let z : all_parts_of c.new-arrays.result.items ≡ [] = ap all_parts_of c.new-arrays.ensures.items in
    record {
      queues = λ m p a. subst (λ q. AllAt m q c.args.self.now.nodes.now.items c.args.self.now.buffers.queue.now.items c.args.self.now.variadic.now.items) (sym (first_place_in m fs p)) a.all;
      done = λ m d p a known holds. subst (λ ps. ChildrenDone m d h fs 0 (rows_by c.args.rows m) p ps) (sym z) (none_children m d h fs (rows_by c.args.rows m) p);
      bytes = λ m p a known. none_bytes m fs (rows_by c.args.rows m) p;
      kinds_left = c.requires.kinds;
      whole = λ v. v;
      kinds = subst (λ ps. KindsDone c.args.children.now 0 ps) (sym z) (λ ks f. f);
      rows = λ m p a. subst (λ ps. RowsDone m fs 0 (rows_by c.args.rows m) p ps) (sym z) (no_rows_done m fs (rows_by c.args.rows m) p);
      sound = subst (λ ps. fault_each (forest ps) ≡ None) (sym z) refl;
      within = omega arith;
      keeps = search rules;
      faults_stay = refl;
      fetched = λ m p a. let e = ap (λ q. columns_fetched m fs q (rows_by c.args.rows m)) (first_place_in m fs p) in omega (arith, e);
    }

pub read_children-loop-i-preserved : goal.read_children-loop-i-preserved
read_children-loop-i-preserved g t c =
    let cs = c.args.children.now in
    let fs = column_fields cs c.args.fields.now in
    let h = held_in c.args.dictionaries.now in
    let i = c.loop-i.i in
    let y = get_or c.args.children.now c.loop-i.i c.index-children-i.result in
    let x = child_as y (column_kind y.dtype c.id_at.result c.fields_at.result.now) in
    let array = c.in_ok-array.array in
    let ps = all_parts_of c.loop-i.arrays.items in
    let below : i < length cs = omega (arith, c.loop-i-test.true) in
    let e : StandsIn fs i x = child_stands cs c.args.fields.now i y c.id_at.result c.fields_at.result.now below (ap (get_or c.args.children.now c.loop-i.i) c.index-children-i.is) c.id_at.ensures.id c.fields_at.ensures in
    let n : suc i ≡ i + 1 = omega arith in
    let p : c.push.new.self.items ≡ c.loop-i.arrays.items ++ array ∷ [] = search rules in
    let z : all_parts_of c.push.new.self.items ≡ ps ++ parts_of array ∷ [] = ap all_parts_of p ∙ map-append parts_of c.loop-i.arrays.items (array ∷ []) in
    let on : (m : RecordBatch) (q : Place) → BatchAt c.args.self.now.version m q c.args.self.now.nodes.now.items c.args.self.now.buffers.queue.now.items c.args.self.now.variadic.now.items → BatchAt c.loop-i.self.version m (place_in m fs i q) c.loop-i.self.nodes.now.items c.loop-i.self.buffers.queue.now.items c.loop-i.self.variadic.now.items =
    λ m q a. batch_on c.loop-i.invariant.keeps a.version (c.loop-i.invariant.queues m q a) in
    record {
      queues = λ m q a. subst (λ r. AllAt m r c.read_tree.new.self.nodes.now.items c.read_tree.new.self.buffers.queue.now.items c.read_tree.new.self.variadic.now.items) (sym (ap (λ j. place_in m fs j q) (sym n) ∙ next_in m fs i x q e)) (c.in_ok-array.ensures.takes m _ (on m q a));
      done = λ m d q a known holds.
          let here = place_in m fs i q in
          let k = (c.in_ok-array.ensures.parts m d here (on m q a) (known_on c.loop-i.invariant.keeps.buffers known) holds).ok in
          subst (λ ys. ChildrenDone m d h fs (i + 1) (rows_by c.args.rows m) q ys) (sym z) (subst (λ j. ChildrenDone m d h fs j (rows_by c.args.rows m) q (ps ++ parts_of array ∷ [])) n
          (next_child m d h fs i c.rows_of_next-asked.result (rows_by c.args.rows m) q ps x (parts_of array) e (c.rows_of_next-asked.ensures m here (on m q a).all.nodes) k.0 k.1 (c.loop-i.invariant.done m d q a known holds)));
      bytes = λ m q a known.
          let here = place_in m fs i q in
          subst (λ j. BytesDone m fs j (rows_by c.args.rows m) q) n (next_bytes m fs i c.rows_of_next-asked.result (rows_by c.args.rows m) q x e (c.rows_of_next-asked.ensures m here (on m q a).all.nodes) (c.in_ok-array.ensures.bytes m here (on m q a) (known_on c.loop-i.invariant.keeps.buffers known)) (c.loop-i.invariant.bytes m q a known));
      kinds_left = subst (λ j. AllHeldIn HasKind h (dropped j fs)) n (rest_held HasKind h fs i x e c.loop-i.invariant.kinds_left);
      whole = subst (λ j. HeldDone AreValuesOf h fs j) n (next_held AreValuesOf h fs i x e c.in_ok-array.ensures.sound c.loop-i.invariant.whole);
      kinds = subst (λ ys. KindsDone cs (i + 1) ys) (sym z) (next_kind cs i ps y (parts_of array) below (ap (get_or c.args.children.now c.loop-i.i) c.index-children-i.is) c.in_ok-array.ensures.shape.0 c.loop-i.invariant.kinds);
      rows = λ m q a.
          let here = place_in m fs i q in
          subst (λ ys. RowsDone m fs (i + 1) (rows_by c.args.rows m) q ys) (sym z) (subst (λ j. RowsDone m fs j (rows_by c.args.rows m) q (ps ++ parts_of array ∷ [])) n (next_rows_done m fs i c.rows_of_next-asked.result (rows_by c.args.rows m) q ps x (parts_of array) e (c.rows_of_next-asked.ensures m here (on m q a).all.nodes) c.in_ok-array.ensures.shape.1 (c.loop-i.invariant.rows m q a)));
      sound = subst (λ ys. fault_each (forest ys) ≡ None) (sym z) (next_sound ps (parts_of array) c.loop-i.invariant.sound c.len-held.ensures.sound);
      within = omega (arith, below);
      keeps = queues_then c.loop-i.invariant.keeps c.read_tree.ensures.keeps;
      faults_stay = c.in_ok-array.ensures.faults_stay ∙ c.loop-i.invariant.faults_stay;
      fetched = λ m q a.
          let r = place_in m fs i q in
          let here = c.read_tree.ensures.fetched m r (on m q a) in
          let asked = ap (fetched_at_most m x.kind r) (c.rows_of_next-asked.ensures m r (on m q a).all.nodes) in
          let rest = left_fetched m fs i (rows_by c.args.rows m) x q e ∙ ap (λ j. fetched_at_most m x.kind r (rows_by c.args.rows m r) + columns_fetched m (dropped j fs) (place_in m fs j q) (rows_by c.args.rows m)) n in
          let before = c.loop-i.invariant.fetched m q a in
          omega (arith, here, asked, rest, before);
    }

pub read_children-returns-clause-takes : goal.read_children-returns-clause-takes
read_children-returns-clause-takes g t c = λ m p a.
    let w = width_by child_of c.args.children.now c.args.fields.now in
    subst (λ r. AllAt m r c.loop-i.self.nodes.now.items c.loop-i.self.buffers.queue.now.items c.loop-i.self.variadic.now.items) (last_in m (column_fields c.args.children.now c.args.fields.now) c.loop-i.i p (omega (arith, w)) (omega (arith, w, c.loop-i.invariant.within))) (c.loop-i.invariant.queues m p a)

pub read_children-returns-clause-parts : goal.read_children-returns-clause-parts
read_children-returns-clause-parts g t c = λ m d p a known holds.
    let w = width_by child_of c.args.children.now c.args.fields.now in
    record { ok = all_children m d (held_in c.args.dictionaries.now) (column_fields c.args.children.now c.args.fields.now) c.loop-i.i (rows_by c.args.rows m) p (all_parts_of c.loop-i.arrays.items) _ _ _ (omega (arith, w)) (omega (arith, w, c.loop-i.invariant.within)) (c.loop-i.invariant.queues m p a) (c.loop-i.invariant.done m d p a known holds); err = tt }

pub read_children-returns-clause-bytes : goal.read_children-returns-clause-bytes
read_children-returns-clause-bytes g t c = λ m p a known.
    let w = width_by child_of c.args.children.now c.args.fields.now in
    all_bytes m (column_fields c.args.children.now c.args.fields.now) c.loop-i.i (rows_by c.args.rows m) p (omega (arith, w)) (c.loop-i.invariant.bytes m p a known)

pub read_children-returns-clause-whole : goal.read_children-returns-clause-whole
read_children-returns-clause-whole g t c =
    let w = width_by child_of c.args.children.now c.args.fields.now in
    c.loop-i.invariant.whole (subst (AllHeldIn AreValuesOf (held_in c.args.dictionaries.now)) (sym (dropped_end (column_fields c.args.children.now c.args.fields.now) c.loop-i.i (omega (arith, w)))) tt)

pub read_children-returns-clause-shortened : goal.read_children-returns-clause-shortened
read_children-returns-clause-shortened g t c =
    let w = width_by child_of c.args.children.now c.args.fields.now in
    children_taken (column_fields c.args.children.now c.args.fields.now) c.loop-i.i c.args.self.now.version _ _ _ _ _ _ (omega (arith, w, c.loop-i.invariant.within)) c.loop-i.invariant.queues

pub read_children-returns-clause-kinds : goal.read_children-returns-clause-kinds
read_children-returns-clause-kinds g t c = all_kinds c.args.children.now c.loop-i.i (all_parts_of c.loop-i.arrays.items) (omega arith) c.loop-i.invariant.kinds

pub read_children-returns-clause-rows : goal.read_children-returns-clause-rows
read_children-returns-clause-rows g t c = λ m p a.
    let w = width_by child_of c.args.children.now c.args.fields.now in
    all_rows_done m (column_fields c.args.children.now c.args.fields.now) c.loop-i.i (rows_by c.args.rows m) p (all_parts_of c.loop-i.arrays.items) (omega (arith, w)) (c.loop-i.invariant.rows m p a)
