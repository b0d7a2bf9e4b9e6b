use Rattle.std.proofs.Common.{◌+◌, ◌*◌, ap, arith, ◌∙◌}
use Rattle.arrow_types.specs.KindOf.{kind_of}
use Rattle.arrow_spec.specs.Counts.{first_place}
use Rattle.ipc_read_laws.specs.PartsRead.{bytes_of_rows}
use Rattle.ipc_read.proofs.Refusals.{err_from}
use Rattle.ipc_read.proofs.Arrays.{if_any}
use Rattle.ipc_read.proofs.ReaderSteps.{told_on, made, if_ok}
use Rattle.ipc_read.proofs.LeafArrays.{leaf_fixed_of, fixed_shape, head_refused, values_refused, leaf_fine, leaf_next, leaf_fetched, leaf_same}
use Rattle.ipc_read.proofs.Shortened.{taken_more, taken_then, leaf_shortened, only_counts}
use Rattle.ipc_read.proofs.readers.ColumnReader.read_fixed_size_binary.Goals as goal

pub returns-in_err-validity-clause-gives : goal.returns-in_err-validity-clause-gives
returns-in_err-validity-clause-gives g c = λ m p a t.
    let f = leaf_fixed_of m (kind_of c.args.dtype.now) p c.args.rows c.binary_size-size.result c.requires.kind c.binary_size-size.ensures in
    err_from _ _ c.in_err-validity.field-0.0 _ _ _ c.from_residual.ensures.0 c.from_residual.ensures.1 (λ x e. e)
    (head_refused m (kind_of c.args.dtype.now) p c.args.rows _ c.in_err-validity.field-0.0 f (c.in_err-validity.ensures.gives m p a t.told).err)

pub returns-in_err-values-clause-gives : goal.returns-in_err-values-clause-gives
returns-in_err-values-clause-gives g c = λ m p a t.
    let f = leaf_fixed_of m (kind_of c.args.dtype.now) p c.args.rows c.binary_size-size.result c.requires.kind c.binary_size-size.ensures in
    let q = c.in_ok-validity.ensures.takes m p a in
    err_from _ _ c.in_err-values.field-0.0 _ _ _ c.from_residual-in_err-values.ensures.0 c.from_residual-in_err-values.ensures.1 (λ x e. e)
    (values_refused m (kind_of c.args.dtype.now) p c.args.rows _ c.in_err-values.field-0.0 f (c.in_err-values.ensures.gives m (p.buffer + 1) q.1 (told_on c.in_ok-validity.ensures.keeps.buffers _ t.told)).err)

pub returns-clause-takes : goal.returns-clause-takes
returns-clause-takes g c = if_any c.make_fixed.result _ (λ m p a.
    let q = c.in_ok-validity.ensures.takes m p a in
    leaf_next m (kind_of c.args.dtype.now) p c.args.rows _ _ _ (leaf_fixed_of m (kind_of c.args.dtype.now) p c.args.rows c.binary_size-size.result c.requires.kind c.binary_size-size.ensures) a.within q.0 (c.in_ok-values.ensures.takes m (p.buffer + 1) q.1))

pub returns-clause-shape : goal.returns-clause-shape
returns-clause-shape g c = if_ok c.make_fixed.result _ _ c.make_fixed.ensures.parts (λ a e. fixed_shape (kind_of c.args.dtype.now) a _ _ c.args.rows c.requires.kind e (c.in_ok-values.ensures.rows ∙ ap (λ n. n * c.args.rows) c.binary_size-size.ensures))

pub returns-clause-gives : goal.returns-clause-gives
returns-clause-gives g c = λ m p a t.
    let f = leaf_fixed_of m (kind_of c.args.dtype.now) p c.args.rows c.binary_size-size.result c.requires.kind c.binary_size-size.ensures in
    let q = c.in_ok-validity.ensures.takes m p a in
    let v = (c.in_ok-validity.ensures.gives m p a t.told).ok in
    let w = (c.in_ok-values.ensures.gives m (p.buffer + 1) q.1 (told_on c.in_ok-validity.ensures.keeps.buffers _ t.told)).ok in
    made _ c.make_fixed.result _ _ _ c.make_fixed.ensures.parts c.make_fixed.ensures.memory
    (leaf_fine m (kind_of c.args.dtype.now) p c.args.rows _ _ _ f a.within q.0 (c.in_ok-values.ensures.takes m (p.buffer + 1) q.1) v.0 w.0)
    (leaf_same (kind_of c.args.dtype.now) _ _ _ _ (w.1 ∙ ap (λ n. bytes_of_rows m n (p.buffer + 1) c.args.rows) c.binary_size-size.ensures) v.1)

pub returns-in_err-validity-clause-fetched : goal.returns-in_err-validity-clause-fetched
returns-in_err-validity-clause-fetched g c = λ m p a.
    let z = leaf_fetched m (kind_of c.args.dtype.now) p c.args.rows _ (leaf_fixed_of m (kind_of c.args.dtype.now) p c.args.rows c.binary_size-size.result c.requires.kind c.binary_size-size.ensures) in
    omega (arith, z, c.in_err-validity.ensures.fetched m p a)

pub returns-in_err-values-clause-fetched : goal.returns-in_err-values-clause-fetched
returns-in_err-values-clause-fetched g c = λ m p a.
    let q = c.in_ok-validity.ensures.takes m p a in
    let z = leaf_fetched m (kind_of c.args.dtype.now) p c.args.rows _ (leaf_fixed_of m (kind_of c.args.dtype.now) p c.args.rows c.binary_size-size.result c.requires.kind c.binary_size-size.ensures) in
    omega (arith, z, c.in_ok-validity.ensures.fetched m p a, c.in_err-values.ensures.fetched m (p.buffer + 1) q.1)

pub returns-clause-fetched : goal.returns-clause-fetched
returns-clause-fetched g c = λ m p a.
    let q = c.in_ok-validity.ensures.takes m p a in
    let z = leaf_fetched m (kind_of c.args.dtype.now) p c.args.rows _ (leaf_fixed_of m (kind_of c.args.dtype.now) p c.args.rows c.binary_size-size.result c.requires.kind c.binary_size-size.ensures) in
    omega (arith, z, c.in_ok-validity.ensures.fetched m p a, c.in_ok-values.ensures.fetched m (p.buffer + 1) q.1)

pub returns-in_err-validity-clause-shortened : goal.returns-in_err-validity-clause-shortened
returns-in_err-validity-clause-shortened g c = λ version vs. leaf_shortened version vs (leaf_fixed_of (only_counts version vs) (kind_of c.args.dtype.now) first_place c.args.rows c.binary_size-size.result c.requires.kind c.binary_size-size.ensures) c.in_err-validity.ensures.shortened (taken_more c.in_err-validity.ensures.buffers (omega arith))

pub returns-in_err-values-clause-shortened : goal.returns-in_err-values-clause-shortened
returns-in_err-values-clause-shortened g c = λ version vs. leaf_shortened version vs (leaf_fixed_of (only_counts version vs) (kind_of c.args.dtype.now) first_place c.args.rows c.binary_size-size.result c.requires.kind c.binary_size-size.ensures) c.in_ok-validity.ensures.shortened (taken_then c.in_ok-validity.ensures.buffers c.in_err-values.ensures.shortened (omega arith))

pub returns-clause-shortened : goal.returns-clause-shortened
returns-clause-shortened g c = λ version vs. leaf_shortened version vs (leaf_fixed_of (only_counts version vs) (kind_of c.args.dtype.now) first_place c.args.rows c.binary_size-size.result c.requires.kind c.binary_size-size.ensures) c.in_ok-validity.ensures.shortened (taken_then c.in_ok-validity.ensures.buffers c.in_ok-values.ensures.shortened (omega arith))
