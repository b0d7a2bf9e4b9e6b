use Rattle.std.specs.Int.{w8, w32}
use Rattle.ipc_write_arrays.proofs.Adding.{if_ok}
use Rattle.ipc_write_arrays.proofs.Fitting.{signed_reads}
use Rattle.ipc_write_arrays.proofs.trees.add_union_top.Goals as goal

pub returns-in-None-clause-fit : goal.returns-in-None-clause-fit
returns-in-None-clause-fit c = rw c.in-None.is (c.in_ok-add_part.ensures.fit (signed_reads w8)).each

pub returns-in-Some-clause-fit : goal.returns-in-Some-clause-fit
returns-in-Some-clause-fit c =
    rw c.in-Some.is (if_ok c.add_part-in-Some.result (λ h. ((c.in_ok-add_part.ensures.fit (signed_reads w8)).each, (h (signed_reads w32)).each)) c.add_part-in-Some.ensures.fit)
