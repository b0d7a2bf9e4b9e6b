use Rattle.std.proofs.Common.{◌≡◌, ◌*◌, ◌≤◌, ap, arith}
use Rattle.arrow_spec.specs.Counts.{magnitude}
use Rattle.arrow_spec.specs.Arrays.{range_of}
use Rattle.ipc_read.specs.declared.body.Body.{Body}
use Rattle.ipc_read.proofs.Refusals.{err_from}
use Rattle.ipc_read.proofs.Parts.{numbers_refused, numbers_short, numbers_enough}
use Rattle.ipc_read.proofs.buffers.items_part.Goals as goal

pub returns-in_err-part-clause-gives : goal.returns-in_err-part-clause-gives
returns-in_err-part-clause-gives c = λ m i l s.
    err_from _ _ c.in_err-part.field-0.0 _ _ _ c.from_residual.ensures.0 c.from_residual.ensures.1 (λ f e. e) (numbers_refused m i c.args.width c.args.rows c.in_err-part.field-0.0 (c.in_err-part.ensures.gives m i l s).err)

pub returns-then-part-size-clause-gives : goal.returns-then-part-size-clause-gives
returns-then-part-size-clause-gives c = λ m i l s.
    let k = (c.in_ok-part.ensures.gives m i l s).ok in
    let n : c.in_ok-part.part.length ≡ magnitude (range_of m i).length = ap (λ (x : Body). x.length) k.1 in
    record { ok = tt; err = numbers_short m i c.args.width c.args.rows c.in_ok-part.part.length k.0 n (omega arith) }

pub returns-clause-gives : goal.returns-clause-gives
returns-clause-gives c = λ m i l s.
    let k = (c.in_ok-part.ensures.gives m i l s).ok in
    let n : c.in_ok-part.part.length ≡ magnitude (range_of m i).length = ap (λ (x : Body). x.length) k.1 in
    let enough : c.args.width * c.args.rows ≤ magnitude (range_of m i).length = omega (arith, n) in
    record { ok = (numbers_enough m i c.args.width c.args.rows k.0 enough, ap (λ (x : Body). x.offset) k.1); err = tt }

pub returns-clause-enough : goal.returns-clause-enough
returns-clause-enough c = λ m i l.
    let n : c.in_ok-part.part.length ≡ magnitude (range_of m i).length = ap (λ (x : Body). x.length) (c.in_ok-part.ensures.place m i l) in
    omega (arith, n)
