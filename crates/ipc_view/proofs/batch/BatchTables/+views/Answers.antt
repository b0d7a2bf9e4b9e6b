use Rattle.std.proofs.Common.{◌≡◌, suc, ◌+◌, ◌≤◌, ◌<◌, [], sym, ap, subst, ◌∙◌, arith, length, get_or, refl}
use Rattle.std.specs.Prelude.{slice_get}
use Rattle.arrow_spec.specs.Readings.{Refuses}
use Rattle.arrow_spec.specs.Kinds.{«list»}
use Rattle.arrow_spec.specs.Counts.{Place, inside}
use Rattle.arrow_spec.specs.Faults.{child_faults, node_causes}
use Rattle.arrow_types.specs.KindOf.{are_stated, child_of, kind_of, fields_of}
use Rattle.arrow_types.specs.KindOf.{ids_of as types_of}
use Rattle.arrow_types.specs.Physical.{under_extensions}
use Rattle.ipc_fields.specs.IpcFields.{ids_of}
use Rattle.ipc_read.specs.CountedArrays.{counted_kind, counted_rows}
use Rattle.ipc_read.specs.Held.{column_fields, column_kind}
use Rattle.ipc_read.specs.Lists.{as_lists}
use Rattle.ipc_read.proofs.ColumnIds.{counted_with, list_with}
use Rattle.ipc_read.proofs.LeftFields.{child_as, child_stands, width_by}
use Rattle.ipc_read.proofs.Nested.{child_size, counted_tree, fields_size, kind_size}
use Rattle.view_types.specs.Sound.{IsSound}
use Rattle.view_types.specs.Tops.{top_in}
use Rattle.view_types.specs.Views.{Top, array, is_keys, offsets_by, rows_each, views}
use Rattle.ipc_view.specs.declared.batch.ChildRows.TheVariants.{Same}
use Rattle.ipc_view.specs.Built.{batch_of, place_of}
use Rattle.ipc_view.specs.Lent.{AreLentOf, IsLentOf}
use Rattle.ipc_view.specs.Nested.{AreSeen, IsSeen, nested_top, rows_by, seen_faults}
use Rattle.ipc_view.specs.Unions.{AreTyped, child_rows, union_causes, union_of}
use Rattle.ipc_view.proofs.Answered.{err_from}
use Rattle.ipc_view.proofs.HeldViews.{some_told}
use Rattle.ipc_view.proofs.LentViews.{lent_more}
use Rattle.ipc_view.proofs.Children.{ChildrenDone, all_done, next_refused, none_done, one_done}
use Rattle.ipc_view.proofs.NestedCells.{counted_sound, lists_sound}
use Rattle.ipc_view.proofs.NestedFaults.{counted_child, counted_node, counted_over, counted_validity, list_child, list_node, list_top}
use Rattle.ipc_view.proofs.NestedSeen.{counted_done, list_done}
use Rattle.ipc_view.proofs.SameArrays.{lists_same, seen_by, under_same}
use Rattle.ipc_view.proofs.ShownKinds.{child_shown_kind, column_width, counted_keys, counted_seen, list_seen, lists_tree, one_with}
use Rattle.ipc_view.proofs.UnionCells.{union_done, union_sound, union_well, views_many}
use Rattle.ipc_view.proofs.UnionFaults.{union_child_refused, union_node, union_rows_refused, union_top_refused}
use Rattle.ipc_view.proofs.UnionKinds.{union_many, union_seen, union_tree, unions_with}
use Rattle.ipc_view.proofs.batch.BatchTables.+views.Goals as goal

-- ── any kind ──

pub view-counted-requires : goal.view-counted-requires
view-counted-requires t c =
    let k = kind_of c.args.dtype.now in
    let z : kind_size k ≡ suc (fields_size (fields_of c.in-Some.children.now)) = counted_tree k c.in-Some.size (fields_of c.in-Some.children.now) c.in-Some.ensures.columns in
    let s = counted_seen k c.in-Some.size (fields_of c.in-Some.children.now) c.in-Some.ensures.columns c.requires.shown in
    (omega (arith, z), (c.requires.place, s))

pub view-lists-requires : goal.view-lists-requires
view-lists-requires t c =
    let k = kind_of c.args.dtype.now in
    let o = offsets_by c.in-Some-list_child.is_large in
    let fs = fields_of c.in-Some-list_child.child.now in
    let z : kind_size k ≡ suc (fields_size fs) = lists_tree k o fs c.in-Some-list_child.ensures.child in
    (omega (arith, z), (c.requires.place, list_seen k o fs c.in-Some-list_child.ensures.child c.requires.shown))

pub view-returns-in-Some-clause-seen : goal.view-returns-in-Some-clause-seen
view-returns-in-Some-clause-seen t c =
    let k = column_kind c.args.dtype.now c.args.id c.args.fields.now in
    seen_by c.args.self.now c.counted.result k (under_extensions k) (counted_kind c.in-Some.size (column_fields c.in-Some.children.now c.args.fields.now)) c.args.place c.args.rows (under_same k)
    (counted_with (kind_of c.args.dtype.now) c.args.id (ids_of c.args.fields.now) c.in-Some.size (fields_of c.in-Some.children.now) c.in-Some.ensures.columns) c.counted.ensures.seen

pub view-returns-in-Some-list_child-clause-seen : goal.view-returns-in-Some-list_child-clause-seen
view-returns-in-Some-list_child-clause-seen t c =
    let k = column_kind c.args.dtype.now c.args.id c.args.fields.now in
    let o = offsets_by c.in-Some-list_child.is_large in
    seen_by c.args.self.now c.lists.result k (as_lists k) («list» o (column_fields c.in-Some-list_child.child.now c.args.fields.now)) c.args.place c.args.rows (lists_same k)
    (list_with (kind_of c.args.dtype.now) c.args.id (ids_of c.args.fields.now) o (fields_of c.in-Some-list_child.child.now) c.in-Some-list_child.ensures.child) c.lists.ensures.seen

pub view-unions-requires : goal.view-unions-requires
view-unions-requires t c =
    let k = kind_of c.args.dtype.now in
    let u = c.in-Some-union_fields.union in
    let z : kind_size k ≡ suc (fields_size (fields_of u.children.now)) = union_tree k u (fields_of u.children.now) c.in-Some-union_fields.ensures.union in
    (omega (arith, z), (c.requires.place, union_seen k u c.in-Some-union_fields.ensures.union c.requires.shown))

pub view-returns-in-Some-union_fields-clause-seen : goal.view-returns-in-Some-union_fields-clause-seen
view-returns-in-Some-union_fields-clause-seen t c =
    let k = column_kind c.args.dtype.now c.args.id c.args.fields.now in
    let u = c.in-Some-union_fields.union in
    seen_by c.args.self.now c.unions.result k (under_extensions k) (union_of u (column_fields u.children.now c.args.fields.now)) c.args.place c.args.rows (under_same k)
    (unions_with (kind_of c.args.dtype.now) c.args.id (ids_of c.args.fields.now) u (fields_of u.children.now) c.in-Some-union_fields.ensures.union) c.unions.ensures.seen

pub view-returns-in-None-union_fields-clause-seen : goal.view-returns-in-None-union_fields-clause-seen
view-returns-in-None-union_fields-clause-seen t c = c.childless.ensures.seen c.args.fields.now

-- ── structs and lists of one size ──

pub counted-returns-in_err-node-clause-seen : goal.counted-returns-in_err-node-clause-seen
counted-returns-in_err-node-clause-seen t c = λ d shows. err_from c.from_residual.result c.in_err-node.field-0.0 _ _ c.from_residual.ensures.0 c.from_residual.ensures.1
    (counted_node (batch_of c.args.self.now) d c.args.size (column_fields c.args.children.now c.args.fields.now) (place_of c.args.place) c.args.rows c.in_err-node.field-0.0 c.in_err-node.ensures.gives.err)

pub counted-returns-in_err-validity-clause-seen : goal.counted-returns-in_err-validity-clause-seen
counted-returns-in_err-validity-clause-seen t c = λ d shows. err_from c.from_residual-in_err-validity.result c.in_err-validity.field-0.0 _ _ c.from_residual-in_err-validity.ensures.0 c.from_residual-in_err-validity.ensures.1
    (counted_validity (batch_of c.args.self.now) d c.args.size (column_fields c.args.children.now c.args.fields.now) (place_of c.args.place) c.args.rows c.in_err-validity.field-0.0 c.in_err-validity.ensures.gives.err)

-- the refusal of items that are too many
pub counted-returns-in_default-clause-seen : goal.counted-returns-in_default-clause-seen
counted-returns-in_default-clause-seen t c = λ d shows.
    let m = batch_of c.args.self.now in
    let fs = column_fields c.args.children.now c.args.fields.now in
    let n = counted_rows c.args.size c.args.rows in
    let at : c.inside-first.result.node ≡ suc c.args.place.node = ap (λ (x : Place). x.node) c.inside-first.ensures.place in
    record {
      ok = tt;
      err = counted_over m d c.args.size fs (place_of c.args.place) c.args.rows c.refuse_rows.result (one_with c.args.size fs (fields_of c.args.children.now) (column_width c.args.children.now c.args.fields.now) c.requires.one) c.in_ok-node.ensures.gives.ok.1.1 c.in_default.ensures.none
          (subst (λ i. Refuses c.refuse_rows.result (node_causes (slice_get m.nodes i) n)) at (c.refuse_rows.ensures.refuses n c.in_default.ensures.none));
    }

pub counted-returns-in_err-views-clause-seen : goal.counted-returns-in_err-views-clause-seen
counted-returns-in_err-views-clause-seen t c = λ d shows.
    let m = batch_of c.args.self.now in
    err_from c.from_residual-in_err-views.result c.in_err-views.field-0.0 _ _ c.from_residual-in_err-views.ensures.0 c.from_residual-in_err-views.ensures.1
    (counted_child m d c.args.size (column_fields c.args.children.now c.args.fields.now) (place_of c.args.place) c.args.rows c.in-Some.under c.in_err-views.field-0.0 c.in-Some.ensures.some
    (subst (λ x. Refuses c.in_err-views.field-0.0 (child_faults m d (column_fields c.args.children.now c.args.fields.now) x (λ q. c.in-Some.under))) c.inside-first.ensures.place (c.in_err-views.ensures.seen d shows).err))

pub counted-new-requires : goal.counted-new-requires
counted-new-requires t c =
    let t = c.args.self.now in
    let told = some_told t.dictionaries.now in
    let vs = c.in_ok-views.views.items in
    let e = c.nested_parts-parts.ensures ∙ ap (λ l. nested_top t.input.now t.is_big_endian l c.args.rows c.in_ok-validity.validity (record { at = 0; length = 0 })) c.counted_layout.ensures in
    record {
      keys = ap (λ (x : Top). is_keys x.layout) e ∙ counted_keys c.args.size;
      sound = subst (λ (x : Top). IsSound x (views vs)) (sym e) (counted_sound (batch_of t) told.messages c.args.size (column_fields c.args.children.now c.args.fields.now) (place_of c.inside-first.result) c.args.rows c.in-Some.under t.input.now t.is_big_endian c.in_ok-validity.validity (record { at = 0; length = 0 }) (views vs)
          c.in-Some.ensures.some c.in-Some.ensures.few (one_with c.args.size (column_fields c.args.children.now c.args.fields.now) (fields_of c.args.children.now) (column_width c.args.children.now c.args.fields.now) c.requires.one) c.in_ok-validity.ensures.gives.ok.1.1 (c.in_ok-views.ensures.seen told.messages told.shows).ok.1.children);
    }

pub counted-returns-clause-seen : goal.counted-returns-clause-seen
counted-returns-clause-seen t c = λ d shows.
    let t = c.args.self.now in
    let m = batch_of t in
    let p = place_of c.args.place in
    let fs = column_fields c.args.children.now c.args.fields.now in
    let vs = c.in_ok-views.views.items in
    let q = place_of c.in_ok-views.next in
    let under = c.in-Some.under in
    let v = c.in_ok-validity.ensures.gives.ok in
    let k = (c.in_ok-views.ensures.seen d shows).ok in
    let here = c.inside-first.ensures.place in
    let e = c.nested_parts-parts.ensures ∙ ap (λ l. nested_top t.input.now t.is_big_endian l c.args.rows c.in_ok-validity.validity (record { at = 0; length = 0 })) c.counted_layout.ensures in
    let done = counted_done m d c.args.size fs p c.args.rows under t.input.now t.is_big_endian c.in_ok-validity.validity (record { at = 0; length = 0 }) vs q c.in-Some.ensures.some c.in_ok-node.ensures.gives.ok.0 v.0 v.1.0
    (subst (λ x. child_faults m d fs x (λ r. under) ≡ []) here k.0) (subst (λ x. AreSeen m d fs x (Same under) vs q) here k.1) in
    record { ok = (done.0, subst (λ w. IsSeen m d (counted_kind c.args.size fs) p c.args.rows w q) (sym (c.new.ensures ∙ ap (λ x. array x (views vs)) e)) done.1); err = tt }

pub counted-returns-clause-lent : goal.counted-returns-clause-lent
counted-returns-clause-lent t c = λ holds.
    let t = c.args.self.now in
    let vs = c.in_ok-views.views.items in
    let e = c.nested_parts-parts.ensures ∙ ap (λ l. nested_top t.input.now t.is_big_endian l c.args.rows c.in_ok-validity.validity (record { at = 0; length = 0 })) c.counted_layout.ensures in
    subst (IsLentOf t.input.now) (sym (c.new.ensures ∙ ap (λ x. array x (views vs)) e)) (refl, c.in_ok-views.ensures.lent holds)

-- ── lists ──

pub lists-returns-in_err-node-clause-seen : goal.lists-returns-in_err-node-clause-seen
lists-returns-in_err-node-clause-seen t c = λ d shows. err_from c.from_residual.result c.in_err-node.field-0.0 _ _ c.from_residual.ensures.0 c.from_residual.ensures.1
    (list_node (batch_of c.args.self.now) d (offsets_by c.args.is_large) (column_fields c.args.child.now c.args.fields.now) (place_of c.args.place) c.args.rows c.in_err-node.field-0.0 c.in_err-node.ensures.gives.err)

pub lists-returns-in_err-parts-clause-seen : goal.lists-returns-in_err-parts-clause-seen
lists-returns-in_err-parts-clause-seen t c = λ d shows. err_from c.from_residual-in_err-parts.result c.in_err-parts.field-0.0 _ _ c.from_residual-in_err-parts.ensures.0 c.from_residual-in_err-parts.ensures.1
    (list_top (batch_of c.args.self.now) d (offsets_by c.args.is_large) (column_fields c.args.child.now c.args.fields.now) (place_of c.args.place) c.args.rows c.in_err-parts.field-0.0 c.in_err-parts.ensures.gives.err)

pub lists-returns-in_err-views-clause-seen : goal.lists-returns-in_err-views-clause-seen
lists-returns-in_err-views-clause-seen t c = λ d shows.
    let m = batch_of c.args.self.now in
    let l = c.in_ok-parts.ensures.gives.ok in
    err_from c.from_residual-in_err-views.result c.in_err-views.field-0.0 _ _ c.from_residual-in_err-views.ensures.0 c.from_residual-in_err-views.ensures.1
    (list_child m d (offsets_by c.args.is_large) (column_fields c.args.child.now c.args.fields.now) (place_of c.args.place) c.args.rows c.in_ok-parts.last c.in_err-views.field-0.0 l.1.last_is l.0
    (subst (λ x. Refuses c.in_err-views.field-0.0 (child_faults m d (column_fields c.args.child.now c.args.fields.now) x (λ q. c.in_ok-parts.last))) c.inside.ensures.place (c.in_err-views.ensures.seen d shows).err))

pub lists-new-requires : goal.lists-new-requires
lists-new-requires t c =
    let m = batch_of c.args.self.now in
    let told = some_told c.args.self.now.dictionaries.now in
    let l = c.in_ok-parts.ensures.gives.ok.1 in
    let fs = column_fields c.args.child.now c.args.fields.now in
    record {
      keys = ap is_keys l.layout_is;
      sound = lists_sound m told.messages c.args.is_large fs (place_of c.args.place) (place_of c.inside.result) c.args.rows c.in_ok-parts.last (top_in c.in_ok-parts.parts) (views c.in_ok-views.views.items) (column_width c.args.child.now c.args.fields.now ∙ c.requires.one) l (c.in_ok-views.ensures.seen told.messages told.shows).ok.1.children;
    }

pub lists-returns-clause-seen : goal.lists-returns-clause-seen
lists-returns-clause-seen t c = λ d shows.
    let m = batch_of c.args.self.now in
    let p = place_of c.args.place in
    let fs = column_fields c.args.child.now c.args.fields.now in
    let vs = c.in_ok-views.views.items in
    let q = place_of c.in_ok-views.next in
    let last = c.in_ok-parts.last in
    let l = c.in_ok-parts.ensures.gives.ok in
    let k = (c.in_ok-views.ensures.seen d shows).ok in
    let here = c.inside.ensures.place in
    let done = list_done m d c.args.is_large fs p c.args.rows last (top_in c.in_ok-parts.parts) vs q c.in_ok-node.ensures.gives.ok.0 l.0 l.1
    (subst (λ x. child_faults m d fs x (λ r. last) ≡ []) here k.0) (subst (λ x. AreSeen m d fs x (Same last) vs q) here k.1) in
    record { ok = (done.0, subst (λ w. IsSeen m d («list» (offsets_by c.args.is_large) fs) p c.args.rows w q) (sym c.new.ensures) done.1); err = tt }

pub lists-returns-clause-lent : goal.lists-returns-clause-lent
lists-returns-clause-lent t c = λ holds. subst (IsLentOf c.args.self.now.input.now) (sym c.new.ensures) (c.in_ok-parts.ensures.input, c.in_ok-views.ensures.lent holds)

-- ── unions ──

pub unions-returns-in_err-node-clause-seen : goal.unions-returns-in_err-node-clause-seen
unions-returns-in_err-node-clause-seen t c = λ d shows. err_from c.from_residual.result c.in_err-node.field-0.0 _ _ c.from_residual.ensures.0 c.from_residual.ensures.1
    (union_node (batch_of c.args.self.now) d (union_of c.args.union.now (column_fields c.args.union.now.children.now c.args.fields.now)) (place_of c.args.place) c.args.rows c.in_err-node.field-0.0 c.in_err-node.ensures.gives.err)

pub unions-returns-in_err-parts-clause-seen : goal.unions-returns-in_err-parts-clause-seen
unions-returns-in_err-parts-clause-seen t c = λ d shows.
    let u = c.args.union.now in
    err_from c.from_residual-in_err-parts.result c.in_err-parts.field-0.0 _ _ c.from_residual-in_err-parts.ensures.0 c.from_residual-in_err-parts.ensures.1
    (union_top_refused (batch_of c.args.self.now) d u.mode (are_stated u.ids.now) (types_of u.ids.now (length u.children.now)) (column_fields u.children.now c.args.fields.now) (place_of c.args.place) c.args.rows c.in_err-parts.field-0.0 c.in_err-parts.ensures.gives.err)

pub unions-returns-in_err-views-clause-seen : goal.unions-returns-in_err-views-clause-seen
unions-returns-in_err-views-clause-seen t c = λ d shows.
    let m = batch_of c.args.self.now in
    let u = c.args.union.now in
    let fs = column_fields u.children.now c.args.fields.now in
    let here = c.inside-first.ensures.place ∙ ap (λ n. inside n (place_of c.args.place)) c.union_buffers.ensures.count in
    err_from c.from_residual-in_err-views.result c.in_err-views.field-0.0 _ _ c.from_residual-in_err-views.ensures.0 c.from_residual-in_err-views.ensures.1
    (union_child_refused m d u.mode (are_stated u.ids.now) (types_of u.ids.now (length u.children.now)) fs (place_of c.args.place) c.args.rows c.in_err-views.field-0.0
    (subst (λ x. Refuses c.in_err-views.field-0.0 (child_faults m d fs x (rows_by (child_rows u.mode c.args.rows) m))) here
    (subst (λ r. Refuses c.in_err-views.field-0.0 (child_faults m d fs (place_of c.inside-first.result) (rows_by r m))) c.child_rows-under.ensures (c.in_err-views.ensures.seen d shows).err)))

pub unions-check_unions-requires : goal.unions-check_unions-requires
unions-check_unions-requires t c =
    let m = batch_of c.args.self.now in
    let u = c.args.union.now in
    let fs = column_fields u.children.now c.args.fields.now in
    let told = some_told c.args.self.now.dictionaries.now in
    let shows = c.in_ok-parts.ensures.gives.ok.1 in
    let seen = (c.in_ok-views.ensures.seen told.messages told.shows).ok.1 in
    record {
      types = shows.stand;
      places = shows.have_places;
      many = ap length (shows.ids_are ∙ c.in_ok-ids.ensures) ∙ union_many u c.args.fields.now c.requires.shown
          ∙ sym (ap length c.as_slice.ensures.value ∙ views_many m told.messages fs (place_of c.inside-first.result) (rows_by c.child_rows-under.result m) c.in_ok-views.views.items seen.children);
    }

pub unions-returns-in_err-check_unions-clause-seen : goal.unions-returns-in_err-check_unions-clause-seen
unions-returns-in_err-check_unions-clause-seen t c = λ d shows.
    let m = batch_of c.args.self.now in
    let u = c.args.union.now in
    let fs = column_fields u.children.now c.args.fields.now in
    let here = c.inside-first.ensures.place ∙ ap (λ n. inside n (place_of c.args.place)) c.union_buffers.ensures.count in
    let top = c.in_ok-parts.ensures.gives.ok in
    let seen = (c.in_ok-views.ensures.seen d shows).ok in
    let w = union_well m d u.mode c.in_ok-ids.ids.items (types_of u.ids.now (length u.children.now)) fs (place_of c.args.place) (place_of c.inside-first.result) c.args.rows c.child_rows-under.result (top_in c.in_ok-parts.parts) c.in_ok-views.views.items (place_of c.in_ok-views.next)
    c.in_ok-ids.ensures here c.child_rows-under.ensures top.0 top.1 (union_many u c.args.fields.now c.requires.shown) seen.0 seen.1 in
    err_from c.from_residual-in_err-check_unions.result c.in_err-check_unions.field-0.0 _ _ c.from_residual-in_err-check_unions.ensures.0 c.from_residual-in_err-check_unions.ensures.1
    (union_rows_refused m d u.mode (are_stated u.ids.now) (types_of u.ids.now (length u.children.now)) fs (place_of c.args.place) c.args.rows (top_in c.in_ok-parts.parts) (views c.in_ok-views.views.items) c.in_err-check_unions.field-0.0 w
    (subst (λ vs. Refuses c.in_err-check_unions.field-0.0 (union_causes (top_in c.in_ok-parts.parts) u.mode (rows_each (views vs)))) c.as_slice.ensures.value c.in_err-check_unions.ensures.gives.err))

pub unions-new-requires : goal.unions-new-requires
unions-new-requires t c =
    let m = batch_of c.args.self.now in
    let u = c.args.union.now in
    let fs = column_fields u.children.now c.args.fields.now in
    let told = some_told c.args.self.now.dictionaries.now in
    let here = c.inside-first.ensures.place ∙ ap (λ n. inside n (place_of c.args.place)) c.union_buffers.ensures.count in
    let top = c.in_ok-parts.ensures.gives.ok in
    let seen = (c.in_ok-views.ensures.seen told.messages told.shows).ok in
    let ids = types_of u.ids.now (length u.children.now) in
    let w = union_well m told.messages u.mode c.in_ok-ids.ids.items ids fs (place_of c.args.place) (place_of c.inside-first.result) c.args.rows c.child_rows-under.result (top_in c.in_ok-parts.parts) c.in_ok-views.views.items (place_of c.in_ok-views.next)
    c.in_ok-ids.ensures here c.child_rows-under.ensures top.0 top.1 (union_many u c.args.fields.now c.requires.shown) seen.0 seen.1 in
    record {
      keys = ap is_keys top.1.layout_is;
      sound = union_sound m told.messages u.mode ids fs (place_of c.args.place) c.args.rows (top_in c.in_ok-parts.parts) (views c.in_ok-views.views.items) w
          (subst (λ vs. AreTyped (top_in c.in_ok-parts.parts) u.mode (rows_each (views vs))) c.as_slice.ensures.value c.in_ok-check_unions.ensures.gives.ok.1);
    }

pub unions-returns-clause-seen : goal.unions-returns-clause-seen
unions-returns-clause-seen t c = λ d shows.
    let m = batch_of c.args.self.now in
    let u = c.args.union.now in
    let p = place_of c.args.place in
    let fs = column_fields u.children.now c.args.fields.now in
    let vs = c.in_ok-views.views.items in
    let q = place_of c.in_ok-views.next in
    let here = c.inside-first.ensures.place ∙ ap (λ n. inside n p) c.union_buffers.ensures.count in
    let top = c.in_ok-parts.ensures.gives.ok in
    let seen = (c.in_ok-views.ensures.seen d shows).ok in
    let ids = types_of u.ids.now (length u.children.now) in
    let w = union_well m d u.mode c.in_ok-ids.ids.items ids fs p (place_of c.inside-first.result) c.args.rows c.child_rows-under.result (top_in c.in_ok-parts.parts) vs q c.in_ok-ids.ensures here c.child_rows-under.ensures top.0 top.1 (union_many u c.args.fields.now c.requires.shown) seen.0 seen.1 in
    let fits = c.in_ok-check_unions.ensures.gives.ok in
    let same = c.as_slice.ensures.value in
    let under = subst (λ r. AreSeen m d fs (place_of c.inside-first.result) r vs q) c.child_rows-under.ensures seen.1 in
    let done = union_done m d u.mode (are_stated u.ids.now) ids fs p c.args.rows (top_in c.in_ok-parts.parts) vs q c.in_ok-node.ensures.gives.ok.0 w
    (subst (λ xs. AreTyped (top_in c.in_ok-parts.parts) u.mode (rows_each (views xs))) same fits.1)
    (subst (λ xs. union_causes (top_in c.in_ok-parts.parts) u.mode (rows_each (views xs)) ≡ []) same fits.0)
    (subst (λ x. AreSeen m d fs x (child_rows u.mode c.args.rows) vs q) here under) in
    record { ok = (done.0, subst (λ v. IsSeen m d (union_of u fs) p c.args.rows v q) (sym c.new.ensures) done.1); err = tt }

-- ── children ──

pub children-view-requires : goal.children-view-requires
children-view-requires t c =
    let cs = c.args.children.now in
    let i = c.loop-i.i in
    let x = get_or c.args.children.now c.loop-i.i c.index-children-i.result in
    let below : i < length cs = omega (arith, c.loop-i-test.true) in
    let z : kind_size (kind_of x.dtype) ≤ fields_size (fields_of cs) = child_size cs i x below (ap (get_or c.args.children.now c.loop-i.i) c.index-children-i.is) in
    (omega (arith, z), (c.loop-i.invariant.place, child_shown_kind cs i x below (ap (get_or c.args.children.now c.loop-i.i) c.index-children-i.is) c.requires.shown))

pub children-loop-i-init : goal.children-loop-i-init
children-loop-i-init t c = record {
  done = λ d shows. subst (λ vs. ChildrenDone (batch_of c.args.self.now) d (column_fields c.args.children.now c.args.fields.now) (place_of c.args.place) c.args.rows 0 vs (place_of c.args.place)) (sym c.new-views.ensures.items)
      (none_done (batch_of c.args.self.now) d (column_fields c.args.children.now c.args.fields.now) (place_of c.args.place) c.args.rows c.requires.place.views);
  place = c.requires.place;
  within = omega arith;
  lent = λ holds. subst (λ vs. AreLentOf c.args.self.now.input.now (views vs)) (sym c.new-views.ensures.items) tt;
}

pub children-returns-in_err-view-clause-seen : goal.children-returns-in_err-view-clause-seen
children-returns-in_err-view-clause-seen t c = λ d shows.
    let m = batch_of c.args.self.now in
    let fs = column_fields c.args.children.now c.args.fields.now in
    let i = c.loop-i.i in
    let y = get_or c.args.children.now c.loop-i.i c.index-children-i.result in
    let x = child_as y (column_kind y.dtype c.id_at.result c.fields_at.result.now) in
    let e = child_stands c.args.children.now c.args.fields.now i y c.id_at.result c.fields_at.result.now (omega (arith, c.loop-i-test.true)) (ap (get_or c.args.children.now c.loop-i.i) c.index-children-i.is) c.id_at.ensures.id c.fields_at.ensures in
    err_from c.from_residual.result c.in_err-view.field-0.0 _ _ c.from_residual.ensures.0 c.from_residual.ensures.1
    (next_refused m d fs (place_of c.args.place) c.args.rows i c.loop-i.views.items (place_of c.loop-i.next) x c.in_err-view.field-0.0 (c.loop-i.invariant.done d shows) e
    (subst (λ n. Refuses c.in_err-view.field-0.0 (seen_faults m d x.kind (place_of c.loop-i.next) n)) c.child_count-asked.ensures (c.in_err-view.ensures.seen d shows).err))

pub children-loop-i-preserved : goal.children-loop-i-preserved
children-loop-i-preserved t c =
    let m = batch_of c.args.self.now in
    let fs = column_fields c.args.children.now c.args.fields.now in
    let i = c.loop-i.i in
    let y = get_or c.args.children.now c.loop-i.i c.index-children-i.result in
    let x = child_as y (column_kind y.dtype c.id_at.result c.fields_at.result.now) in
    let e = child_stands c.args.children.now c.args.fields.now i y c.id_at.result c.fields_at.result.now (omega (arith, c.loop-i-test.true)) (ap (get_or c.args.children.now c.loop-i.i) c.index-children-i.is) c.id_at.ensures.id c.fields_at.ensures in
    record {
      done = λ d shows.
          let s = (c.in_ok-view.ensures.seen d shows).ok in
          subst (λ vs. ChildrenDone m d fs (place_of c.args.place) c.args.rows (i + 1) vs (place_of c.in_ok-view.behind)) (sym c.in_ok-push.ensures.items)
          (one_done m d fs (place_of c.args.place) c.args.rows i c.loop-i.views.items (place_of c.loop-i.next) (place_of c.in_ok-view.behind) x c.in_ok-view.view (c.loop-i.invariant.done d shows) e
          (subst (λ n. seen_faults m d x.kind (place_of c.loop-i.next) n ≡ []) c.child_count-asked.ensures s.0)
          (subst (λ n. IsSeen m d x.kind (place_of c.loop-i.next) n c.in_ok-view.view (place_of c.in_ok-view.behind)) c.child_count-asked.ensures s.1));
      place = c.in_ok-view.ensures.place;
      within = omega (arith, c.loop-i-test.true);
      lent = λ holds. subst (λ vs. AreLentOf c.args.self.now.input.now (views vs)) (sym c.in_ok-push.ensures.items) (lent_more c.args.self.now.input.now c.loop-i.views.items c.in_ok-view.view (c.loop-i.invariant.lent holds) (c.in_ok-view.ensures.lent holds));
    }

pub children-returns-clause-seen : goal.children-returns-clause-seen
children-returns-clause-seen t c = λ d shows.
    let w = width_by child_of c.args.children.now c.args.fields.now in
    record { ok = all_done (batch_of c.args.self.now) d (column_fields c.args.children.now c.args.fields.now) (place_of c.args.place) c.args.rows c.loop-i.i c.loop-i.views.items (place_of c.loop-i.next) (c.loop-i.invariant.done d shows) (omega (arith, w)) (omega (arith, w, c.loop-i.invariant.within)); err = tt }

pub children-returns-clause-place : goal.children-returns-clause-place
children-returns-clause-place t c = c.loop-i.invariant.place
