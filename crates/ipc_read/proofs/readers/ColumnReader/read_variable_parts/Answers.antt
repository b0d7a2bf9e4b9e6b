use Rattle.std.proofs.Common.{◌+◌, suc, arith}
use Rattle.ipc_read.proofs.Refusals.{err_from, refuses_left, refuses_right, both_none}
use Rattle.ipc_read.proofs.Counted.{left_next}
use Rattle.ipc_read.proofs.ReaderSteps.{told_on, known_on, parts_same}
use Rattle.ipc_read.proofs.Shortened.{taken_more, taken_then, two_taken}
use Rattle.ipc_read.proofs.readers.ColumnReader.read_variable_parts.Goals as goal

pub returns-in_err-validity-clause-gives : goal.returns-in_err-validity-clause-gives
returns-in_err-validity-clause-gives g c = λ m p a t. err_from _ _ c.in_err-validity.field-0.0 _ _ _ c.from_residual.ensures.0 c.from_residual.ensures.1 (λ x e. e) (refuses_left _ _ _ (c.in_err-validity.ensures.gives m p a t.told).err)

pub returns-in_err-offsets-clause-gives : goal.returns-in_err-offsets-clause-gives
returns-in_err-offsets-clause-gives g c = λ m p a t.
    let q = c.in_ok-validity.ensures.takes m p a in
    err_from _ _ c.in_err-offsets.field-0.0 _ _ _ c.from_residual-in_err-offsets.ensures.0 c.from_residual-in_err-offsets.ensures.1 (λ x e. e)
    (refuses_right _ _ _ (refuses_left _ _ _ (c.in_err-offsets.ensures.gives m (p.buffer + 1) q.1 (known_on c.in_ok-validity.ensures.keeps.buffers t)).err))

pub returns-in_err-values-clause-gives : goal.returns-in_err-values-clause-gives
returns-in_err-values-clause-gives g c = λ m p a t.
    let q = c.in_ok-validity.ensures.takes m p a in
    let d = left_next m.buffers (suc (p.buffer + 1)) (p.buffer + 2) _ (omega arith) (c.in_ok-offsets.ensures.takes m (p.buffer + 1) q.1) in
    err_from _ _ c.in_err-values.field-0.0 _ _ _ c.from_residual-in_err-values.ensures.0 c.from_residual-in_err-values.ensures.1 (λ x e. e)
    (refuses_right _ _ _ (refuses_right _ _ _ (c.in_err-values.ensures.gives m (p.buffer + 2) d (told_on c.in_ok-offsets.ensures.keeps _ (told_on c.in_ok-validity.ensures.keeps.buffers _ t.told))).err))

pub returns-clause-takes : goal.returns-clause-takes
returns-clause-takes g c = λ m p a.
    let q = c.in_ok-validity.ensures.takes m p a in
    let d = left_next m.buffers (suc (p.buffer + 1)) (p.buffer + 2) _ (omega arith) (c.in_ok-offsets.ensures.takes m (p.buffer + 1) q.1) in
    (q.0, left_next m.buffers (suc (p.buffer + 2)) (p.buffer + 3) _ (omega arith) (c.in_ok-values.ensures.takes m (p.buffer + 2) d))

pub returns-clause-gives : goal.returns-clause-gives
returns-clause-gives g c = λ m p a t.
    let q = c.in_ok-validity.ensures.takes m p a in
    let d = left_next m.buffers (suc (p.buffer + 1)) (p.buffer + 2) _ (omega arith) (c.in_ok-offsets.ensures.takes m (p.buffer + 1) q.1) in
    let v = (c.in_ok-validity.ensures.gives m p a t.told).ok in
    let w = (c.in_ok-offsets.ensures.gives m (p.buffer + 1) q.1 (known_on c.in_ok-validity.ensures.keeps.buffers t)).ok in
    let u = (c.in_ok-values.ensures.gives m (p.buffer + 2) d (told_on c.in_ok-offsets.ensures.keeps _ (told_on c.in_ok-validity.ensures.keeps.buffers _ t.told))).ok in
    record { ok = (both_none _ _ v.0 (both_none _ _ w.0 u.0), parts_same w.1 u.1 v.1); err = tt }

pub returns-in_err-offsets-clause-fetched : goal.returns-in_err-offsets-clause-fetched
returns-in_err-offsets-clause-fetched g c = λ m p a.
    let q = c.in_ok-validity.ensures.takes m p a in
    omega (arith, c.in_ok-validity.ensures.fetched m p a, c.in_err-offsets.ensures.fetched m (p.buffer + 1) q.1)

pub returns-in_err-validity-clause-fetched : goal.returns-in_err-validity-clause-fetched
returns-in_err-validity-clause-fetched g c = λ m p a. omega (arith, c.in_err-validity.ensures.fetched m p a)

pub returns-in_err-values-clause-fetched : goal.returns-in_err-values-clause-fetched
returns-in_err-values-clause-fetched g c = λ m p a.
    let q = c.in_ok-validity.ensures.takes m p a in
    let d = left_next m.buffers (suc (p.buffer + 1)) (p.buffer + 2) _ (omega arith) (c.in_ok-offsets.ensures.takes m (p.buffer + 1) q.1) in
    omega (arith, c.in_ok-validity.ensures.fetched m p a, c.in_ok-offsets.ensures.fetched m (p.buffer + 1) q.1, c.in_err-values.ensures.fetched m (p.buffer + 2) d)

pub returns-clause-fetched : goal.returns-clause-fetched
returns-clause-fetched g c = λ m p a.
    let q = c.in_ok-validity.ensures.takes m p a in
    let d = left_next m.buffers (suc (p.buffer + 1)) (p.buffer + 2) _ (omega arith) (c.in_ok-offsets.ensures.takes m (p.buffer + 1) q.1) in
    omega (arith, c.in_ok-validity.ensures.fetched m p a, c.in_ok-offsets.ensures.fetched m (p.buffer + 1) q.1, c.in_ok-values.ensures.fetched m (p.buffer + 2) d)

pub returns-in_err-validity-clause-buffers : goal.returns-in_err-validity-clause-buffers
returns-in_err-validity-clause-buffers g c = taken_more c.in_err-validity.ensures.buffers (omega arith)

pub returns-in_err-offsets-clause-buffers : goal.returns-in_err-offsets-clause-buffers
returns-in_err-offsets-clause-buffers g c = taken_then c.in_ok-validity.ensures.buffers c.in_err-offsets.ensures.shortened (omega arith)

pub returns-in_err-values-clause-buffers : goal.returns-in_err-values-clause-buffers
returns-in_err-values-clause-buffers g c = taken_then (two_taken c.in_ok-validity.ensures.buffers c.in_ok-offsets.ensures.shortened) c.in_err-values.ensures.shortened (omega arith)

pub returns-clause-buffers : goal.returns-clause-buffers
returns-clause-buffers g c = taken_then (two_taken c.in_ok-validity.ensures.buffers c.in_ok-offsets.ensures.shortened) c.in_ok-values.ensures.shortened (omega arith)
