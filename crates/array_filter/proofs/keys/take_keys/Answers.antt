use Rattle.std.proofs.Common.{ap}
use Rattle.arrow_arrays.specs.KeysOf.{keys_in}
use Rattle.array_filter.specs.Runs.{rows_in_runs}
use Rattle.array_filter.proofs.Made.{keys_taken}
use Rattle.array_filter.proofs.keys.take_keys.Goals as goal

pub returns-in-Ok-take_primitive-5-clause-keys : goal.returns-in-Ok-take_primitive-5-clause-keys
returns-in-Ok-take_primitive-5-clause-keys c = keys_taken (rows_in_runs c.args.runs.now) c.in-UInt8.keys c.in-Ok-take_primitive-5.taken (keys_in c.args.keys.now) c.in-Ok-take_primitive-5.ensures (ap keys_in c.in-UInt8.is)

pub returns-in-Ok-take_primitive-6-clause-keys : goal.returns-in-Ok-take_primitive-6-clause-keys
returns-in-Ok-take_primitive-6-clause-keys c = keys_taken (rows_in_runs c.args.runs.now) c.in-UInt16.keys c.in-Ok-take_primitive-6.taken (keys_in c.args.keys.now) c.in-Ok-take_primitive-6.ensures (ap keys_in c.in-UInt16.is)

pub returns-in-Ok-take_primitive-7-clause-keys : goal.returns-in-Ok-take_primitive-7-clause-keys
returns-in-Ok-take_primitive-7-clause-keys c = keys_taken (rows_in_runs c.args.runs.now) c.in-UInt32.keys c.in-Ok-take_primitive-7.taken (keys_in c.args.keys.now) c.in-Ok-take_primitive-7.ensures (ap keys_in c.in-UInt32.is)

pub returns-in-Ok-take_primitive-8-clause-keys : goal.returns-in-Ok-take_primitive-8-clause-keys
returns-in-Ok-take_primitive-8-clause-keys c = keys_taken (rows_in_runs c.args.runs.now) c.in-UInt64.keys c.in-Ok-take_primitive-8.taken (keys_in c.args.keys.now) c.in-Ok-take_primitive-8.ensures (ap keys_in c.in-UInt64.is)
