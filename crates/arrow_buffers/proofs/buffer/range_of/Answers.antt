use Rattle.arrow_buffers.proofs.buffer.range_of.Goals as goal

pub returns-clause-small : goal.returns-clause-small
returns-clause-small c = λ i. (c.type_inv.bytes i).fits
