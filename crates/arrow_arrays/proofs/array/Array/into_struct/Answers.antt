use Rattle.arrow_arrays.proofs.array.Array.into_struct.Goals as goal

pub returns-in_default-clause-other : goal.returns-in_default-clause-other
returns-in_default-clause-other c = c.in_default.not-Struct
