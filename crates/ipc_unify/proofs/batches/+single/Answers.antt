use Rattle.std.proofs.Common.{◌≡◌, ◌∙◌, ◌+◌, ◌*◌, ◌<◌, ◌≤◌, length, take, sym, ap, subst, arith, rules}
use Rattle.std.proofs.lemmas.List.{take_all}
use Rattle.arrow_arrays.specs.Parts.{tree_size, trees_size}
use Rattle.arrow_arrays.specs.PartsOf.{forest_of, parts_of}
use Rattle.arrow_arrays.proofs.Forests.{size_at}
use Rattle.laws_unify.specs.Single.{AreSingle, IsSingle}
use Rattle.ipc_unify.proofs.Singles.{next_single}
use Rattle.ipc_unify.proofs.batches.+single.Goals as goal

pub know_each_single-know_single-requires : goal.know_each_single-know_single-requires
know_each_single-know_single-requires t c =
    let xs = c.args.arrays.now in
    let x = c.array-item.result in
    let m = size_at xs c.loop-array.array-index x c.loop-array-test.true in
    let s = ap (λ y. tree_size (parts_of y)) c.array-item.is in
    let below : 2 * tree_size (parts_of x) < 2 * trees_size (forest_of xs) + 1 = omega (arith, m, s) in
    search (rules, below)

pub know_each_single-loop-array-preserved : goal.know_each_single-loop-array-preserved
know_each_single-loop-array-preserved t c = next_single c.args.arrays.now c.loop-array.array-index c.array-item.result c.loop-array-test.true c.array-item.is c.loop-array.invariant c.know_single.ensures

pub know_each_single-returns : goal.know_each_single-returns
know_each_single-returns t c = subst (λ xs. AreSingle (forest_of xs)) (take_all c.loop-array.array-index c.args.arrays.now (omega (arith, c.loop-array-test.false))) c.loop-array.invariant
