use Rattle.std.proofs.Common.{◌+◌, suc, arith}
use Rattle.arrow_types.specs.Numbers.{offsets_by}
use Rattle.ipc_read.proofs.Refusals.{err_from, refuses_left}
use Rattle.ipc_read.proofs.Counted.{left_next}
use Rattle.ipc_read.proofs.ReaderSteps.{known_on}
use Rattle.ipc_read.proofs.Shortened.{taken_more, taken_then}
use Rattle.ipc_read.proofs.ListParts.{rise_to_last, offsets_refused, offsets_well, offsets_bad_refused, top_same, no_rows}
use Rattle.ipc_read.proofs.readers.ColumnReader.read_list_parts.Goals as goal

pub returns-in_err-validity-clause-gives : goal.returns-in_err-validity-clause-gives
returns-in_err-validity-clause-gives g c = λ m p a t. err_from _ _ c.in_err-validity.field-0.0 _ _ _ c.from_residual.ensures.0 c.from_residual.ensures.1 (λ x e. e) (refuses_left _ _ _ (c.in_err-validity.ensures.gives m p a t.told).err)

pub returns-in_err-validity-clause-buffers : goal.returns-in_err-validity-clause-buffers
returns-in_err-validity-clause-buffers g c = taken_more c.in_err-validity.ensures.buffers (omega arith)

pub returns-in_err-validity-clause-fetched : goal.returns-in_err-validity-clause-fetched
returns-in_err-validity-clause-fetched g c = λ m p a. omega (arith, c.in_err-validity.ensures.fetched m p a)

pub returns-in_err-offsets-clause-gives : goal.returns-in_err-offsets-clause-gives
returns-in_err-offsets-clause-gives g c = λ m p a t.
    let q = c.in_ok-validity.ensures.takes m p a in
    err_from _ _ c.in_err-offsets.field-0.0 _ _ _ c.from_residual-in_err-offsets.ensures.0 c.from_residual-in_err-offsets.ensures.1 (λ x e. e)
    (offsets_refused m p c.args.rows (offsets_by c.args.is_large) c.in_err-offsets.field-0.0 (c.in_err-offsets.ensures.gives m (p.buffer + 1) q.1 (known_on c.in_ok-validity.ensures.keeps.buffers t)).err)

pub returns-in_err-offsets-clause-buffers : goal.returns-in_err-offsets-clause-buffers
returns-in_err-offsets-clause-buffers g c = taken_then c.in_ok-validity.ensures.buffers c.in_err-offsets.ensures.shortened (omega arith)

pub returns-in_err-offsets-clause-fetched : goal.returns-in_err-offsets-clause-fetched
returns-in_err-offsets-clause-fetched g c = λ m p a.
    let q = c.in_ok-validity.ensures.takes m p a in
    omega (arith, c.in_ok-validity.ensures.fetched m p a, c.in_err-offsets.ensures.fetched m (p.buffer + 1) q.1)

pub returns-in-Some-clause-takes : goal.returns-in-Some-clause-takes
returns-in-Some-clause-takes g c = λ m p a.
    let q = c.in_ok-validity.ensures.takes m p a in
    (q.0, left_next m.buffers (suc (p.buffer + 1)) (p.buffer + 2) _ (omega arith) (c.in_ok-offsets.ensures.takes m (p.buffer + 1) q.1))

pub returns-in-Some-clause-gives : goal.returns-in-Some-clause-gives
returns-in-Some-clause-gives g c = λ m p a t.
    let q = c.in_ok-validity.ensures.takes m p a in
    let v = (c.in_ok-validity.ensures.gives m p a t.told).ok in
    let w = (c.in_ok-offsets.ensures.gives m (p.buffer + 1) q.1 (known_on c.in_ok-validity.ensures.keeps.buffers t)).ok in
    record { ok = (offsets_well m p c.args.rows (offsets_by c.args.is_large) _ _ w.1 (c.next_end-most.ensures m (suc p.node) q.0) c.in-Some.ensures.some.1 v.0 w.0, top_same w.1 v.1); err = tt }

pub returns-in-Some-clause-buffers : goal.returns-in-Some-clause-buffers
returns-in-Some-clause-buffers g c = taken_then c.in_ok-validity.ensures.buffers c.in_ok-offsets.ensures.shortened (omega arith)

pub returns-in-Some-clause-rise : goal.returns-in-Some-clause-rise
returns-in-Some-clause-rise g c = rise_to_last _ c.args.rows _ _ c.in_ok-offsets.ensures.rows c.in-Some.ensures.some.0 c.in-Some.ensures.some.1

pub returns-in-Some-clause-fetched : goal.returns-in-Some-clause-fetched
returns-in-Some-clause-fetched g c = λ m p a.
    let q = c.in_ok-validity.ensures.takes m p a in
    omega (arith, c.in_ok-validity.ensures.fetched m p a, c.in_ok-offsets.ensures.fetched m (p.buffer + 1) q.1)

pub returns-in-None-clause-gives : goal.returns-in-None-clause-gives
returns-in-None-clause-gives g c = λ m p a t.
    let q = c.in_ok-validity.ensures.takes m p a in
    let w = (c.in_ok-offsets.ensures.gives m (p.buffer + 1) q.1 (known_on c.in_ok-validity.ensures.keeps.buffers t)).ok in
    record { ok = tt; err = offsets_bad_refused m p c.args.rows (offsets_by c.args.is_large) _ _ w.1 (c.next_end-most.ensures m (suc p.node) q.0) c.in-None.ensures.none w.0 }

pub returns-in-None-clause-buffers : goal.returns-in-None-clause-buffers
returns-in-None-clause-buffers g c = taken_then c.in_ok-validity.ensures.buffers c.in_ok-offsets.ensures.shortened (omega arith)

pub returns-in-None-clause-fetched : goal.returns-in-None-clause-fetched
returns-in-None-clause-fetched g c = λ m p a.
    let q = c.in_ok-validity.ensures.takes m p a in
    omega (arith, c.in_ok-validity.ensures.fetched m p a, c.in_ok-offsets.ensures.fetched m (p.buffer + 1) q.1)

pub returns-in-Some-clause-none : goal.returns-in-Some-clause-none
returns-in-Some-clause-none g c = no_rows _ c.args.rows _ c.in-Some.ensures.some.0 c.in_ok-offsets.ensures.none
