use Rattle.std.proofs.Common.{suc, arith}
use Rattle.arrow_spec.specs.Arrays.{types_buffer}
use Rattle.ipc_read.proofs.Refusals.{err_from, refuses_left}
use Rattle.ipc_read.proofs.ReaderSteps.{known_on}
use Rattle.ipc_read.proofs.Shortened.{none_taken, two_taken, taken_more, taken_then}
use Rattle.ipc_read.proofs.UnionParts.{top_many, parts_left, types_refused, places_refused, validity_refused, parts_well, tops_same, top_fetched}
use Rattle.ipc_read.proofs.readers.ColumnReader.read_union_parts.Goals as goal

pub returns-in_err-node-clause-gives : goal.returns-in_err-node-clause-gives
returns-in_err-node-clause-gives g c = λ m p a known. err_from _ _ c.in_err-node.field-0.0 _ _ _ c.from_residual.ensures.0 c.from_residual.ensures.1 (λ x e. e) (refuses_left _ _ _ (c.in_err-node.ensures.err m p a.all.nodes))

pub returns-in_err-node-clause-buffers : goal.returns-in_err-node-clause-buffers
returns-in_err-node-clause-buffers g c = none_taken _ _

pub returns-in_err-pass_union_validity-clause-gives : goal.returns-in_err-pass_union_validity-clause-gives
returns-in_err-pass_union_validity-clause-gives g c = λ m p a known.
    err_from _ _ c.in_err-pass_union_validity.field-0.0 _ _ _ c.from_residual-in_err-pass_union_validity.ensures.0 c.from_residual-in_err-pass_union_validity.ensures.1 (λ x e. e)
    (validity_refused m c.args.mode p c.args.rows _ (c.in_err-pass_union_validity.ensures.gives m p a.version a.all.buffers (c.in_ok-node.ensures.queue m p a.all.nodes).0).err)

pub returns-in_err-pass_union_validity-clause-buffers : goal.returns-in_err-pass_union_validity-clause-buffers
returns-in_err-pass_union_validity-clause-buffers g c = taken_more c.in_err-pass_union_validity.ensures.shortened (omega (arith, top_many c.args.self.now.version c.args.mode))

pub returns-in_err-types-clause-gives : goal.returns-in_err-types-clause-gives
returns-in_err-types-clause-gives g c = λ m p a known.
    let q = c.in_ok-pass_union_validity.ensures.takes m p a.version a.all.buffers in
    err_from _ _ c.in_err-types.field-0.0 _ _ _ c.from_residual-in_err-types.ensures.0 c.from_residual-in_err-types.ensures.1 (λ x e. e)
    (types_refused m c.args.mode p c.args.rows _ (c.in_err-types.ensures.gives m (types_buffer m p) q known).err)

pub returns-in_err-types-clause-buffers : goal.returns-in_err-types-clause-buffers
returns-in_err-types-clause-buffers g c = taken_then c.in_ok-pass_union_validity.ensures.shortened c.in_err-types.ensures.shortened (omega (arith, top_many c.args.self.now.version c.args.mode))

pub returns-in_err-types-clause-fetched : goal.returns-in_err-types-clause-fetched
returns-in_err-types-clause-fetched g c = λ m p a.
    let q = c.in_ok-pass_union_validity.ensures.takes m p a.version a.all.buffers in
    omega (arith, c.in_err-types.ensures.fetched m (types_buffer m p) q, top_fetched m c.args.mode p c.args.rows)

pub returns-in_err-offsets-clause-gives : goal.returns-in_err-offsets-clause-gives
returns-in_err-offsets-clause-gives g c = λ m p a known.
    let q = c.in_ok-pass_union_validity.ensures.takes m p a.version a.all.buffers in
    let r = c.in_ok-types.ensures.takes m (types_buffer m p) q in
    err_from _ _ c.in_err-offsets.field-0.0 _ _ _ c.from_residual-in_err-offsets.ensures.0 c.from_residual-in_err-offsets.ensures.1 (λ x e. e)
    (places_refused m c.args.mode p c.args.rows _ (c.in_err-offsets.ensures.gives m (suc (types_buffer m p)) r (known_on c.in_ok-types.ensures.keeps known)).err)

pub returns-in_err-offsets-clause-buffers : goal.returns-in_err-offsets-clause-buffers
returns-in_err-offsets-clause-buffers g c = taken_then (two_taken c.in_ok-pass_union_validity.ensures.shortened c.in_ok-types.ensures.shortened) c.in_err-offsets.ensures.shortened (omega (arith, top_many c.args.self.now.version c.args.mode))

pub returns-in_err-offsets-clause-fetched : goal.returns-in_err-offsets-clause-fetched
returns-in_err-offsets-clause-fetched g c = λ m p a.
    let q = c.in_ok-pass_union_validity.ensures.takes m p a.version a.all.buffers in
    let r = c.in_ok-types.ensures.takes m (types_buffer m p) q in
    omega (arith, c.in_ok-types.ensures.fetched m (types_buffer m p) q, c.in_err-offsets.ensures.fetched m (suc (types_buffer m p)) r, top_fetched m c.args.mode p c.args.rows)

pub returns-clause-takes : goal.returns-clause-takes
returns-clause-takes g c = λ m p a.
    let q = c.in_ok-pass_union_validity.ensures.takes m p a.version a.all.buffers in
    let r = c.in_ok-types.ensures.takes m (types_buffer m p) q in
    ((c.in_ok-node.ensures.queue m p a.all.nodes).1, parts_left m p c.args.mode _ (c.in_ok-offsets.ensures.takes m (suc (types_buffer m p)) r))

pub returns-clause-gives : goal.returns-clause-gives
returns-clause-gives g c = λ m p a known.
    let q = c.in_ok-pass_union_validity.ensures.takes m p a.version a.all.buffers in
    let r = c.in_ok-types.ensures.takes m (types_buffer m p) q in
    let v = (c.in_ok-pass_union_validity.ensures.gives m p a.version a.all.buffers (c.in_ok-node.ensures.queue m p a.all.nodes).0).ok in
    let t = (c.in_ok-types.ensures.gives m (types_buffer m p) q known).ok in
    let o = (c.in_ok-offsets.ensures.gives m (suc (types_buffer m p)) r (known_on c.in_ok-types.ensures.keeps known)).ok in
    record { ok = (parts_well m c.args.mode p c.args.rows (c.in_ok-node.ensures.fine m p a.all.nodes) v.0 t.0 o.0, tops_same t.1 o.1); err = tt }

pub returns-clause-buffers : goal.returns-clause-buffers
returns-clause-buffers g c = taken_then (two_taken c.in_ok-pass_union_validity.ensures.shortened c.in_ok-types.ensures.shortened) c.in_ok-offsets.ensures.shortened (omega (arith, top_many c.args.self.now.version c.args.mode))

pub returns-clause-fetched : goal.returns-clause-fetched
returns-clause-fetched g c = λ m p a.
    let q = c.in_ok-pass_union_validity.ensures.takes m p a.version a.all.buffers in
    let r = c.in_ok-types.ensures.takes m (types_buffer m p) q in
    omega (arith, c.in_ok-types.ensures.fetched m (types_buffer m p) q, c.in_ok-offsets.ensures.fetched m (suc (types_buffer m p)) r, top_fetched m c.args.mode p c.args.rows)
