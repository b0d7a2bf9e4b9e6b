use Rattle.std.proofs.Common.{map, get_or, arith}
use Rattle.std.proofs.lemmas.List.{length-map}
use Rattle.arrow_buffers.specs.Variable.{variable_rows}
use Rattle.arrow_buffers.proofs.Rising.{some_offset}
use Rattle.array_filter.proofs.RunLaws.{next_run, no_run, run_here}
use Rattle.array_filter.proofs.RunSteps.{begins_low, begun_next, taken_next}
use Rattle.array_filter.proofs.offsets.offsets_of_runs.Goals as goal

pub place_in-start-requires-clause-below : goal.place_in-start-requires-clause-below
place_in-start-requires-clause-below g c = omega (arith, some_offset (map g.O.Offset.number c.args.offsets.now) c.args.limit c.requires.rise, length-map c.args.offsets.now g.O.Offset.number)

pub push_ends-requires-clause-within : goal.push_ends-requires-clause-within
push_ends-requires-clause-within g c =
    let os = map g.O.Offset.number c.args.offsets.now in
    let k = c.loop-run.run-index in
    let n = next_run c.args.runs.now (get_or c.args.runs.now k no_run) c.loop-run.invariant.begun.low k (variable_rows os) c.loop-run.invariant.begun.left c.loop-run-test.true (run_here c.args.runs.now k no_run c.loop-run-test.true) in
    omega (arith, n.within, some_offset os c.args.limit c.requires.rise, length-map c.args.offsets.now g.O.Offset.number)

pub push_ends-requires-clause-low : goal.push_ends-requires-clause-low
push_ends-requires-clause-low g c =
    let k = c.loop-run.run-index in
    begins_low (map g.O.Offset.number c.args.offsets.now) c.args.limit c.requires.rise c.args.runs.now k c.loop-run.begin (get_or c.args.runs.now k no_run) c.loop-run.invariant.begun c.loop-run-test.true (run_here c.args.runs.now k no_run c.loop-run-test.true)

pub places_of_run-from-requires-clause-within : goal.places_of_run-from-requires-clause-within
places_of_run-from-requires-clause-within g c =
    let os = map g.O.Offset.number c.args.offsets.now in
    let k = c.loop-run.run-index in
    let n = next_run c.args.runs.now (get_or c.args.runs.now k no_run) c.loop-run.invariant.begun.low k (variable_rows os) c.loop-run.invariant.begun.left c.loop-run-test.true (run_here c.args.runs.now k no_run c.loop-run-test.true) in
    omega (arith, n.within, some_offset os c.args.limit c.requires.rise, length-map c.args.offsets.now g.O.Offset.number)

pub overflow_add-begin : goal.overflow_add-begin
overflow_add-begin g c =
    let k = c.loop-run.run-index in
    let low = begins_low (map g.O.Offset.number c.args.offsets.now) c.args.limit c.requires.rise c.args.runs.now k c.loop-run.begin (get_or c.args.runs.now k no_run) c.loop-run.invariant.begun c.loop-run-test.true (run_here c.args.runs.now k no_run c.loop-run-test.true) in
    omega (arith, low, c.places_of_run-from.ensures.from, c.places_of_run-from.ensures.ordered, c.places_of_run-from.ensures.within, c.ranges.limit.fits)

pub loop-run-preserved : goal.loop-run-preserved
loop-run-preserved g c =
    let os = map g.O.Offset.number c.args.offsets.now in
    let runs = c.args.runs.now in
    let k = c.loop-run.run-index in
    let r = get_or runs k no_run in
    let here = run_here runs k no_run c.loop-run-test.true in
    record {
      offsets = taken_next os c.args.limit c.requires.rise runs k c.loop-run.begin r c.loop-run.invariant.begun (map g.O.Offset.number c.loop-run.ends.items) (map g.O.Offset.number c.push_ends.new.ends.items) c.loop-run-test.true here c.loop-run.invariant.offsets c.in_ok-push_ends.ensures;
      begun = begun_next os c.args.limit c.requires.rise runs k c.loop-run.begin c.places_of_run-from.result.0 c.places_of_run-from.result.1 r c.loop-run.invariant.begun c.loop-run-test.true here c.places_of_run-from.ensures.from c.places_of_run-from.ensures.to;
    }
