use Rattle.std.proofs.Common.{map, get_or, arith}
use Rattle.std.proofs.lemmas.List.{length-map}
use Rattle.arrow_buffers.specs.Variable.{variable_rows}
use Rattle.arrow_buffers.proofs.Rising.{some_offset}
use Rattle.array_filter.proofs.RunLaws.{next_run, no_run, run_here}
use Rattle.array_filter.proofs.RunSteps.{led_climb, led_items, led_next}
use Rattle.array_filter.proofs.offsets.items_of_runs.Goals as goal

pub places_of_run-from-requires-clause-within : goal.places_of_run-from-requires-clause-within
places_of_run-from-requires-clause-within g c =
    let os = map g.O.Offset.number c.args.offsets.now in
    let k = c.loop-run.run-index in
    let n = next_run c.args.runs.now (get_or c.args.runs.now k no_run) c.loop-run.invariant.led.low k (variable_rows os) c.loop-run.invariant.led.left c.loop-run-test.true (run_here c.args.runs.now k no_run c.loop-run-test.true) in
    omega (arith, n.within, some_offset os c.args.limit c.requires.rise, length-map c.args.offsets.now g.O.Offset.number)

pub loop-run-preserved : goal.loop-run-preserved
loop-run-preserved g c =
    let os = map g.O.Offset.number c.args.offsets.now in
    let runs = c.args.runs.now in
    let k = c.loop-run.run-index in
    let r = get_or runs k no_run in
    let here = run_here runs k no_run c.loop-run-test.true in
    let s = c.loop-run.invariant.led in
    record {
      items = led_items os c.args.limit c.requires.rise runs c.loop-run.items.items c.push.new.self.items k c.places_of_run-from.result.0 c.places_of_run-from.result.1 r s c.loop-run-test.true here c.places_of_run-from.ensures.from c.places_of_run-from.ensures.to c.in_ok-push.ensures.items c.loop-run.invariant.items;
      led = led_next os c.args.limit c.requires.rise runs c.loop-run.items.items c.push.new.self.items k c.places_of_run-from.result.0 c.places_of_run-from.result.1 r s c.loop-run-test.true here c.places_of_run-from.ensures.from c.places_of_run-from.ensures.to c.in_ok-push.ensures.items;
    }

pub returns-clause-climb : goal.returns-clause-climb
returns-clause-climb g c = led_climb (map g.O.Offset.number c.args.offsets.now) c.args.limit c.requires.rise c.args.runs.now c.loop-run.items.items c.loop-run.run-index c.loop-run.invariant.led
