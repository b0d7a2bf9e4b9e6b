use Rattle.std.proofs.Common.{◌≡◌, ◌+◌, ◌∙◌, ap, take, get_or, arith}
use Rattle.std.proofs.lemmas.List.{take_all}
use Rattle.std.specs.List.{sum}
use Rattle.arrow_arrays.specs.Parts.{rows_in, rows_each}
use Rattle.arrow_arrays.specs.PartsOf.{parts_of, forest_of}
use Rattle.arrow_arrays.proofs.KeyRows.{one_more_counted}
use Rattle.arrow_arrays.proofs.UnionPlaces.{rows_under_at, length-rows_each}
use Rattle.arrow_arrays.proofs.dictionary.place_in.Goals as goal

pub returns-then-rest-held-clause-within : goal.returns-then-rest-held-clause-within
returns-then-rest-held-clause-within c =
    let x = c.index-parts-i.result in
    let i = c.loop-i.i in
    let xs = c.args.parts.now in
    let r : rows_in (parts_of x) ≡ get_or (rows_each (forest_of xs)) i 0 = ap (λ y. rows_in (parts_of y)) c.index-parts-i.is ∙ rows_under_at xs i x c.loop-i-test.true in
    omega (arith, c.len-held.ensures.rows)

pub loop-i-preserved : goal.loop-i-preserved
loop-i-preserved c =
    let x = c.index-parts-i.result in
    let i = c.loop-i.i in
    let xs = c.args.parts.now in
    let m : sum (take (i + 1) (rows_each (forest_of xs))) ≡ sum (take i (rows_each (forest_of xs))) + rows_in (parts_of x) = one_more_counted xs i x c.loop-i-test.true c.index-parts-i.is in
    omega (arith, c.len-held.ensures.rows)

pub unreachable-requires : goal.unreachable-requires
unreachable-requires c =
    let i = c.loop-i.i in
    let xs = c.args.parts.now in
    let all : sum (take i (rows_each (forest_of xs))) ≡ sum (rows_each (forest_of xs)) = ap sum (take_all i (rows_each (forest_of xs)) (omega (arith, length-rows_each xs))) in
    omega arith
