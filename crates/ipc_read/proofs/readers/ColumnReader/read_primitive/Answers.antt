use Rattle.std.proofs.Common.{◌+◌, arith}
use Rattle.arrow_types.specs.KindOf.{kind_of}
use Rattle.arrow_spec.specs.Counts.{first_place}
use Rattle.ipc_read.proofs.Refusals.{err_from}
use Rattle.ipc_read.proofs.Arrays.{if_any}
use Rattle.ipc_read.proofs.ReaderSteps.{known_on, made, if_ok}
use Rattle.ipc_read.proofs.LeafArrays.{leaf_primitive, bytes_of_numbers, shape_of, head_refused, values_refused, leaf_fine, leaf_next, leaf_fetched, leaf_same}
use Rattle.ipc_read.proofs.Shortened.{taken_more, taken_then, leaf_shortened, only_counts}
use Rattle.ipc_read.proofs.readers.ColumnReader.read_primitive.Goals as goal

pub returns-in_err-validity-clause-gives : goal.returns-in_err-validity-clause-gives
returns-in_err-validity-clause-gives g c = λ m p a t.
    let f = leaf_primitive m (kind_of c.args.dtype.now) p c.args.rows g.T.NativeType.WIDTH g.T.NativeType.PRIMITIVE c.requires.kind g.met.T.NativeType.sized g.met.T.NativeType.above in
    err_from _ _ c.in_err-validity.field-0.0 _ _ _ c.from_residual.ensures.0 c.from_residual.ensures.1 (λ x e. e)
    (head_refused m (kind_of c.args.dtype.now) p c.args.rows _ c.in_err-validity.field-0.0 f (c.in_err-validity.ensures.gives m p a t.told).err)

pub returns-in_err-values-clause-gives : goal.returns-in_err-values-clause-gives
returns-in_err-values-clause-gives g c = λ m p a t.
    let f = leaf_primitive m (kind_of c.args.dtype.now) p c.args.rows g.T.NativeType.WIDTH g.T.NativeType.PRIMITIVE c.requires.kind g.met.T.NativeType.sized g.met.T.NativeType.above in
    let q = c.in_ok-validity.ensures.takes m p a in
    err_from _ _ c.in_err-values.field-0.0 _ _ _ c.from_residual-in_err-values.ensures.0 c.from_residual-in_err-values.ensures.1 (λ x e. e)
    (values_refused m (kind_of c.args.dtype.now) p c.args.rows _ c.in_err-values.field-0.0 f (c.in_err-values.ensures.gives m (p.buffer + 1) q.1 (known_on c.in_ok-validity.ensures.keeps.buffers t)).err)

pub returns-clause-takes : goal.returns-clause-takes
returns-clause-takes g c = if_any c.make_primitive.result _ (λ m p a.
    let q = c.in_ok-validity.ensures.takes m p a in
    leaf_next m (kind_of c.args.dtype.now) p c.args.rows _ _ _ (leaf_primitive m (kind_of c.args.dtype.now) p c.args.rows g.T.NativeType.WIDTH g.T.NativeType.PRIMITIVE c.requires.kind g.met.T.NativeType.sized g.met.T.NativeType.above) a.within q.0 (c.in_ok-values.ensures.takes m (p.buffer + 1) q.1))

pub returns-clause-shape : goal.returns-clause-shape
returns-clause-shape g c = if_ok c.make_primitive.result _ _ c.make_primitive.ensures.parts (λ a e. shape_of (kind_of c.args.dtype.now) a _ _ c.args.rows e c.in_ok-values.ensures.rows)

pub returns-clause-gives : goal.returns-clause-gives
returns-clause-gives g c = λ m p a t.
    let f = leaf_primitive m (kind_of c.args.dtype.now) p c.args.rows g.T.NativeType.WIDTH g.T.NativeType.PRIMITIVE c.requires.kind g.met.T.NativeType.sized g.met.T.NativeType.above in
    let q = c.in_ok-validity.ensures.takes m p a in
    let v = (c.in_ok-validity.ensures.gives m p a t.told).ok in
    let w = (c.in_ok-values.ensures.gives m (p.buffer + 1) q.1 (known_on c.in_ok-validity.ensures.keeps.buffers t)).ok in
    made _ c.make_primitive.result _ _ _ c.make_primitive.ensures.parts c.make_primitive.ensures.memory
    (leaf_fine m (kind_of c.args.dtype.now) p c.args.rows _ _ _ f a.within q.0 (c.in_ok-values.ensures.takes m (p.buffer + 1) q.1) v.0 w.0)
    (leaf_same (kind_of c.args.dtype.now) _ _ _ _ w.1 v.1)

pub returns-in_err-validity-clause-fetched : goal.returns-in_err-validity-clause-fetched
returns-in_err-validity-clause-fetched g c = λ m p a.
    let z = leaf_fetched m (kind_of c.args.dtype.now) p c.args.rows _ (leaf_primitive m (kind_of c.args.dtype.now) p c.args.rows g.T.NativeType.WIDTH g.T.NativeType.PRIMITIVE c.requires.kind g.met.T.NativeType.sized g.met.T.NativeType.above) in
    omega (arith, z, c.in_err-validity.ensures.fetched m p a)

pub returns-in_err-values-clause-fetched : goal.returns-in_err-values-clause-fetched
returns-in_err-values-clause-fetched g c = λ m p a.
    let q = c.in_ok-validity.ensures.takes m p a in
    let z = leaf_fetched m (kind_of c.args.dtype.now) p c.args.rows _ (leaf_primitive m (kind_of c.args.dtype.now) p c.args.rows g.T.NativeType.WIDTH g.T.NativeType.PRIMITIVE c.requires.kind g.met.T.NativeType.sized g.met.T.NativeType.above) in
    omega (arith, z, c.in_ok-validity.ensures.fetched m p a, c.in_err-values.ensures.fetched m (p.buffer + 1) q.1)

pub returns-clause-fetched : goal.returns-clause-fetched
returns-clause-fetched g c = λ m p a.
    let q = c.in_ok-validity.ensures.takes m p a in
    let z = leaf_fetched m (kind_of c.args.dtype.now) p c.args.rows _ (leaf_primitive m (kind_of c.args.dtype.now) p c.args.rows g.T.NativeType.WIDTH g.T.NativeType.PRIMITIVE c.requires.kind g.met.T.NativeType.sized g.met.T.NativeType.above) in
    omega (arith, z, c.in_ok-validity.ensures.fetched m p a, c.in_ok-values.ensures.fetched m (p.buffer + 1) q.1)

pub returns-in_err-validity-clause-shortened : goal.returns-in_err-validity-clause-shortened
returns-in_err-validity-clause-shortened g c = λ version vs. leaf_shortened version vs (leaf_primitive (only_counts version vs) (kind_of c.args.dtype.now) first_place c.args.rows g.T.NativeType.WIDTH g.T.NativeType.PRIMITIVE c.requires.kind g.met.T.NativeType.sized g.met.T.NativeType.above) c.in_err-validity.ensures.shortened (taken_more c.in_err-validity.ensures.buffers (omega arith))

pub returns-in_err-values-clause-shortened : goal.returns-in_err-values-clause-shortened
returns-in_err-values-clause-shortened g c = λ version vs. leaf_shortened version vs (leaf_primitive (only_counts version vs) (kind_of c.args.dtype.now) first_place c.args.rows g.T.NativeType.WIDTH g.T.NativeType.PRIMITIVE c.requires.kind g.met.T.NativeType.sized g.met.T.NativeType.above) c.in_ok-validity.ensures.shortened (taken_then c.in_ok-validity.ensures.buffers c.in_err-values.ensures.shortened (omega arith))

pub returns-clause-shortened : goal.returns-clause-shortened
returns-clause-shortened g c = λ version vs. leaf_shortened version vs (leaf_primitive (only_counts version vs) (kind_of c.args.dtype.now) first_place c.args.rows g.T.NativeType.WIDTH g.T.NativeType.PRIMITIVE c.requires.kind g.met.T.NativeType.sized g.met.T.NativeType.above) c.in_ok-validity.ensures.shortened (taken_then c.in_ok-validity.ensures.buffers c.in_ok-values.ensures.shortened (omega arith))

pub returns-clause-bytes : goal.returns-clause-bytes
returns-clause-bytes g c = if_any c.make_primitive.result _ (λ m p a t.
    let q = c.in_ok-validity.ensures.takes m p a in
    bytes_of_numbers m (kind_of c.args.dtype.now) p c.args.rows g.T.NativeType.WIDTH g.T.NativeType.PRIMITIVE c.requires.kind g.met.T.NativeType.sized (c.in_ok-values.ensures.bytes m (p.buffer + 1) q.1 (known_on c.in_ok-validity.ensures.keeps.buffers t)))
