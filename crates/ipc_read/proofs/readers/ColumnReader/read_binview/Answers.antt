use Rattle.std.proofs.Common.{◌+◌, suc, refl, sym, arith, ◌∙◌}
use Rattle.arrow_types.specs.KindOf.{kind_of}
use Rattle.arrow_spec.specs.Faults.{validity_faults}
use Rattle.ipc_read.specs.Queues.{short_of}
use Rattle.ipc_read.proofs.Refusals.{err_from, none_of_both}
use Rattle.ipc_read.proofs.Counted.{left_next}
use Rattle.ipc_read.proofs.ReaderSteps.{told_on, if_ok, if_err}
use Rattle.ipc_read.proofs.Arrays.{if_any}
use Rattle.ipc_read.proofs.ViewArrays.{view_array, WasRead, node_refused, count_refused, order_refused, validity_refused, views_refused, data_refused, make_refused, view_made, view_shape, view_next, view_fetched}
use Rattle.arrow_spec.specs.Counts.{first_place}
use Rattle.ipc_read.proofs.Shortened.{none_taken, two_taken, only_counts, from_first, view_shortened}
use Rattle.ipc_read.proofs.readers.ColumnReader.read_binview.Goals as goal

pub returns-in_err-node-clause-gives : goal.returns-in_err-node-clause-gives
returns-in_err-node-clause-gives g c = λ m p a t.
    let f = view_array g.V.ViewType.IS_TEXT m (kind_of c.args.dtype.now) p c.args.rows c.requires.kind in
    err_from _ _ c.in_err-node.field-0.0 _ _ _ c.from_residual.ensures.0 c.from_residual.ensures.1 (λ x e. e)
    (node_refused g.V.ViewType.IS_TEXT m (kind_of c.args.dtype.now) p c.args.rows c.in_err-node.field-0.0 f (c.in_err-node.ensures.err m p a.nodes))

pub returns-in_err-count-clause-gives : goal.returns-in_err-count-clause-gives
returns-in_err-count-clause-gives g c = λ m p a t.
    let f = view_array g.V.ViewType.IS_TEXT m (kind_of c.args.dtype.now) p c.args.rows c.requires.kind in
    err_from _ _ c.in_err-count.field-0.0 _ _ _ c.from_residual-in_err-count.ensures.0 c.from_residual-in_err-count.ensures.1 (λ x e. e)
    (count_refused g.V.ViewType.IS_TEXT m (kind_of c.args.dtype.now) p c.args.rows c.in_err-count.field-0.0 f (c.in_err-count.ensures.gives m p a.views).err)

pub returns-then-is_wrong_order-clause-gives : goal.returns-then-is_wrong_order-clause-gives
returns-then-is_wrong_order-clause-gives g c = λ m p a t.
    let f = view_array g.V.ViewType.IS_TEXT m (kind_of c.args.dtype.now) p c.args.rows c.requires.kind in
    record { ok = tt; err = order_refused g.V.ViewType.IS_TEXT m (kind_of c.args.dtype.now) p c.args.rows c.args.self.now.buffers.is_little_endian f t.order (sym c.is_wrong_order.ensures ∙ c.if-is_wrong_order.true) }

pub returns-in_err-validity-clause-gives : goal.returns-in_err-validity-clause-gives
returns-in_err-validity-clause-gives g c = λ m p a t.
    let f = view_array g.V.ViewType.IS_TEXT m (kind_of c.args.dtype.now) p c.args.rows c.requires.kind in
    let q = c.in_ok-node.ensures.queue m p a.nodes in
    err_from _ _ c.in_err-validity.field-0.0 _ _ _ c.from_residual-in_err-validity.ensures.0 c.from_residual-in_err-validity.ensures.1 (λ x e. e)
    (validity_refused g.V.ViewType.IS_TEXT m (kind_of c.args.dtype.now) p c.args.rows c.in_err-validity.field-0.0 f (c.in_err-validity.ensures.gives m p a.buffers q.0 t.told).err)

pub returns-in_err-views-clause-gives : goal.returns-in_err-views-clause-gives
returns-in_err-views-clause-gives g c = λ m p a t.
    let f = view_array g.V.ViewType.IS_TEXT m (kind_of c.args.dtype.now) p c.args.rows c.requires.kind in
    let q = c.in_ok-node.ensures.queue m p a.nodes in
    let n = (c.in_ok-count.ensures.gives m p a.views).ok in
    let b = left_next m.buffers (suc p.buffer) (p.buffer + 1) _ (omega arith) (c.in_ok-validity.ensures.takes m p.buffer a.buffers) in
    err_from _ _ c.in_err-views.field-0.0 _ _ _ c.from_residual-in_err-views.ensures.0 c.from_residual-in_err-views.ensures.1 (λ x e. e)
    (views_refused g.V.ViewType.IS_TEXT m (kind_of c.args.dtype.now) p c.args.rows c.in_err-views.field-0.0 f (c.in_err-views.ensures.gives m (p.buffer + 1) b (told_on c.in_ok-validity.ensures.keeps _ t.told)).err)

pub returns-in_err-data-clause-gives : goal.returns-in_err-data-clause-gives
returns-in_err-data-clause-gives g c = λ m p a t.
    let f = view_array g.V.ViewType.IS_TEXT m (kind_of c.args.dtype.now) p c.args.rows c.requires.kind in
    let q = c.in_ok-node.ensures.queue m p a.nodes in
    let n = (c.in_ok-count.ensures.gives m p a.views).ok in
    let b = left_next m.buffers (suc p.buffer) (p.buffer + 1) _ (omega arith) (c.in_ok-validity.ensures.takes m p.buffer a.buffers) in
    let d = left_next m.buffers (suc (p.buffer + 1)) (p.buffer + 2) _ (omega arith) (c.in_ok-views.ensures.takes m (p.buffer + 1) b) in
    err_from _ _ c.in_err-data.field-0.0 _ _ _ c.from_residual-in_err-data.ensures.0 c.from_residual-in_err-data.ensures.1 (λ x e. e)
    (data_refused g.V.ViewType.IS_TEXT m (kind_of c.args.dtype.now) p c.args.rows c.in_ok-count.count c.in_err-data.field-0.0 f n.0 n.1 (c.in_err-data.ensures.gives m (p.buffer + 2) d (told_on c.in_ok-views.ensures.keeps _ (told_on c.in_ok-validity.ensures.keeps _ t.told))).err)

pub returns-clause-takes : goal.returns-clause-takes
returns-clause-takes g c = if_any c.make_view.result _ (λ m p a.
    let f = view_array g.V.ViewType.IS_TEXT m (kind_of c.args.dtype.now) p c.args.rows c.requires.kind in
    let q = c.in_ok-node.ensures.queue m p a.nodes in
    let n = (c.in_ok-count.ensures.gives m p a.views).ok in
    let b = left_next m.buffers (suc p.buffer) (p.buffer + 1) _ (omega arith) (c.in_ok-validity.ensures.takes m p.buffer a.buffers) in
    let d = left_next m.buffers (suc (p.buffer + 1)) (p.buffer + 2) _ (omega arith) (c.in_ok-views.ensures.takes m (p.buffer + 1) b) in
    view_next g.V.ViewType.IS_TEXT m (kind_of c.args.dtype.now) p c.args.rows c.in_ok-count.count _ _ _ f n.1 q.1 (c.in_ok-data.ensures.takes m (p.buffer + 2) d) (c.in_ok-count.ensures.queue m p.view a.views))

pub returns-clause-gives : goal.returns-clause-gives
returns-clause-gives g c = λ m p a t.
    let f = view_array g.V.ViewType.IS_TEXT m (kind_of c.args.dtype.now) p c.args.rows c.requires.kind in
    let q = c.in_ok-node.ensures.queue m p a.nodes in
    let n = (c.in_ok-count.ensures.gives m p a.views).ok in
    let b = left_next m.buffers (suc p.buffer) (p.buffer + 1) _ (omega arith) (c.in_ok-validity.ensures.takes m p.buffer a.buffers) in
    let d = left_next m.buffers (suc (p.buffer + 1)) (p.buffer + 2) _ (omega arith) (c.in_ok-views.ensures.takes m (p.buffer + 1) b) in
    let v = (c.in_ok-validity.ensures.gives m p a.buffers q.0 t.told).ok in
    let w = (c.in_ok-views.ensures.gives m (p.buffer + 1) b (told_on c.in_ok-validity.ensures.keeps _ t.told)).ok in
    let u = (c.in_ok-data.ensures.gives m (p.buffer + 2) d (told_on c.in_ok-views.ensures.keeps _ (told_on c.in_ok-validity.ensures.keeps _ t.told))).ok in
    let x = none_of_both (short_of m.buffers p.buffer) (validity_faults m p c.args.rows) v.0 in
    let y = none_of_both (short_of m.buffers (p.buffer + 1)) _ w.0 in
    let r : WasRead m p c.args.rows c.in_ok-count.count c.args.self.now.buffers.is_little_endian (record { kind = kind_of c.args.dtype.now; views = c.in_ok-views.views; buffers = c.in_ok-data.«data».items; validity = c.in_ok-validity.validity }) = record { order = t.order; is_little = sym c.is_wrong_order.ensures ∙ c.if-is_wrong_order.false; counts = n.0; is_count = n.1; validity = x.1; views = y.1; buffers = u.0; is_views = w.1; is_buffers = u.1; is_validity = v.1 } in
    view_made g.V.ViewType.IS_TEXT m (kind_of c.args.dtype.now) p c.args.rows c.in_ok-count.count c.args.self.now.buffers.is_little_endian _ _ (record { kind = kind_of c.args.dtype.now; views = c.in_ok-views.views; buffers = c.in_ok-data.«data».items; validity = c.in_ok-validity.validity }) c.make_view.result f q.1 (c.in_ok-data.ensures.takes m (p.buffer + 2) d) (c.in_ok-node.ensures.fine m p a.nodes) refl r
    c.make_view.ensures.parts c.make_view.ensures.sound
    (if_err c.make_view.result _ _ c.make_view.ensures.err (λ e h. make_refused g.V.ViewType.IS_TEXT m (kind_of c.args.dtype.now) p c.args.rows c.in_ok-count.count c.args.self.now.buffers.is_little_endian (record { kind = kind_of c.args.dtype.now; views = c.in_ok-views.views; buffers = c.in_ok-data.«data».items; validity = c.in_ok-validity.validity }) e f refl r h))

pub returns-in_err-validity-clause-fetched : goal.returns-in_err-validity-clause-fetched
returns-in_err-validity-clause-fetched g c = λ m p a.
    let f = view_array g.V.ViewType.IS_TEXT m (kind_of c.args.dtype.now) p c.args.rows c.requires.kind in
    let q = c.in_ok-node.ensures.queue m p a.nodes in
    let n = (c.in_ok-count.ensures.gives m p a.views).ok in
    let s = view_fetched g.V.ViewType.IS_TEXT m (kind_of c.args.dtype.now) p c.args.rows c.in_ok-count.count f n.1 in
    omega (arith, s, c.in_err-validity.ensures.fetched m p a.buffers q.0)

pub returns-in_err-views-clause-fetched : goal.returns-in_err-views-clause-fetched
returns-in_err-views-clause-fetched g c = λ m p a.
    let f = view_array g.V.ViewType.IS_TEXT m (kind_of c.args.dtype.now) p c.args.rows c.requires.kind in
    let q = c.in_ok-node.ensures.queue m p a.nodes in
    let n = (c.in_ok-count.ensures.gives m p a.views).ok in
    let b = left_next m.buffers (suc p.buffer) (p.buffer + 1) _ (omega arith) (c.in_ok-validity.ensures.takes m p.buffer a.buffers) in
    let s = view_fetched g.V.ViewType.IS_TEXT m (kind_of c.args.dtype.now) p c.args.rows c.in_ok-count.count f n.1 in
    omega (arith, s, c.in_ok-validity.ensures.fetched m p a.buffers q.0, c.in_err-views.ensures.fetched m (p.buffer + 1) b)

pub returns-in_err-data-clause-fetched : goal.returns-in_err-data-clause-fetched
returns-in_err-data-clause-fetched g c = λ m p a.
    let f = view_array g.V.ViewType.IS_TEXT m (kind_of c.args.dtype.now) p c.args.rows c.requires.kind in
    let q = c.in_ok-node.ensures.queue m p a.nodes in
    let n = (c.in_ok-count.ensures.gives m p a.views).ok in
    let b = left_next m.buffers (suc p.buffer) (p.buffer + 1) _ (omega arith) (c.in_ok-validity.ensures.takes m p.buffer a.buffers) in
    let d = left_next m.buffers (suc (p.buffer + 1)) (p.buffer + 2) _ (omega arith) (c.in_ok-views.ensures.takes m (p.buffer + 1) b) in
    let s = view_fetched g.V.ViewType.IS_TEXT m (kind_of c.args.dtype.now) p c.args.rows c.in_ok-count.count f n.1 in
    omega (arith, s, c.in_ok-validity.ensures.fetched m p a.buffers q.0, c.in_ok-views.ensures.fetched m (p.buffer + 1) b, c.in_err-data.ensures.fetched m (p.buffer + 2) d)

pub returns-clause-fetched : goal.returns-clause-fetched
returns-clause-fetched g c = λ m p a.
    let f = view_array g.V.ViewType.IS_TEXT m (kind_of c.args.dtype.now) p c.args.rows c.requires.kind in
    let q = c.in_ok-node.ensures.queue m p a.nodes in
    let n = (c.in_ok-count.ensures.gives m p a.views).ok in
    let b = left_next m.buffers (suc p.buffer) (p.buffer + 1) _ (omega arith) (c.in_ok-validity.ensures.takes m p.buffer a.buffers) in
    let d = left_next m.buffers (suc (p.buffer + 1)) (p.buffer + 2) _ (omega arith) (c.in_ok-views.ensures.takes m (p.buffer + 1) b) in
    let s = view_fetched g.V.ViewType.IS_TEXT m (kind_of c.args.dtype.now) p c.args.rows c.in_ok-count.count f n.1 in
    omega (arith, s, c.in_ok-validity.ensures.fetched m p a.buffers q.0, c.in_ok-views.ensures.fetched m (p.buffer + 1) b, c.in_ok-data.ensures.fetched m (p.buffer + 2) d)

pub returns-in_err-node-clause-shortened : goal.returns-in_err-node-clause-shortened
returns-in_err-node-clause-shortened g c = λ version.
    let f = view_array g.V.ViewType.IS_TEXT (only_counts version c.args.self.now.variadic.now.items) (kind_of c.args.dtype.now) first_place c.args.rows c.requires.kind in
    view_shortened version 0 (omega arith) f c.in_err-node.ensures.shortened (none_taken 0 _) (none_taken 1 _)

pub returns-in_err-count-clause-shortened : goal.returns-in_err-count-clause-shortened
returns-in_err-count-clause-shortened g c = λ version.
    let f = view_array g.V.ViewType.IS_TEXT (only_counts version c.args.self.now.variadic.now.items) (kind_of c.args.dtype.now) first_place c.args.rows c.requires.kind in
    view_shortened version 0 (omega arith) f c.in_ok-node.ensures.shortened (none_taken 0 _) c.in_err-count.ensures.shortened

pub returns-then-is_wrong_order-clause-shortened : goal.returns-then-is_wrong_order-clause-shortened
returns-then-is_wrong_order-clause-shortened g c = λ version.
    let f = view_array g.V.ViewType.IS_TEXT (only_counts version c.args.self.now.variadic.now.items) (kind_of c.args.dtype.now) first_place c.args.rows c.requires.kind in
    view_shortened version 0 (omega arith) f c.in_ok-node.ensures.shortened (none_taken 0 _) c.in_ok-count.ensures.shortened

pub returns-in_err-validity-clause-shortened : goal.returns-in_err-validity-clause-shortened
returns-in_err-validity-clause-shortened g c = λ version.
    let f = view_array g.V.ViewType.IS_TEXT (only_counts version c.args.self.now.variadic.now.items) (kind_of c.args.dtype.now) first_place c.args.rows c.requires.kind in
    view_shortened version 1 (omega arith) f c.in_ok-node.ensures.shortened c.in_err-validity.ensures.shortened c.in_ok-count.ensures.shortened

pub returns-in_err-views-clause-shortened : goal.returns-in_err-views-clause-shortened
returns-in_err-views-clause-shortened g c = λ version.
    let f = view_array g.V.ViewType.IS_TEXT (only_counts version c.args.self.now.variadic.now.items) (kind_of c.args.dtype.now) first_place c.args.rows c.requires.kind in
    view_shortened version 2 (omega arith) f c.in_ok-node.ensures.shortened (two_taken c.in_ok-validity.ensures.shortened c.in_err-views.ensures.shortened) c.in_ok-count.ensures.shortened

pub returns-in_err-data-clause-shortened : goal.returns-in_err-data-clause-shortened
returns-in_err-data-clause-shortened g c = λ version.
    let f = view_array g.V.ViewType.IS_TEXT (only_counts version c.args.self.now.variadic.now.items) (kind_of c.args.dtype.now) first_place c.args.rows c.requires.kind in
    let n = (c.in_ok-count.ensures.gives (only_counts version c.args.self.now.variadic.now.items) first_place (from_first c.args.self.now.variadic.now.items)).ok.1 in
    view_shortened version (2 + c.in_ok-count.count) (omega (arith, n)) f c.in_ok-node.ensures.shortened (two_taken (two_taken c.in_ok-validity.ensures.shortened c.in_ok-views.ensures.shortened) c.in_err-data.ensures.shortened) c.in_ok-count.ensures.shortened

pub returns-clause-shortened : goal.returns-clause-shortened
returns-clause-shortened g c = λ version.
    let f = view_array g.V.ViewType.IS_TEXT (only_counts version c.args.self.now.variadic.now.items) (kind_of c.args.dtype.now) first_place c.args.rows c.requires.kind in
    let n = (c.in_ok-count.ensures.gives (only_counts version c.args.self.now.variadic.now.items) first_place (from_first c.args.self.now.variadic.now.items)).ok.1 in
    view_shortened version (2 + c.in_ok-count.count) (omega (arith, n)) f c.in_ok-node.ensures.shortened (two_taken (two_taken c.in_ok-validity.ensures.shortened c.in_ok-views.ensures.shortened) c.in_ok-data.ensures.shortened) c.in_ok-count.ensures.shortened

pub returns-clause-shape : goal.returns-clause-shape
returns-clause-shape g c = if_ok c.make_view.result _ _ c.make_view.ensures.parts (λ x e. view_shape (kind_of c.args.dtype.now) x _ _ _ c.args.rows e c.in_ok-views.ensures.rows)
