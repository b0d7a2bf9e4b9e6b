use Rattle.std.proofs.Common.{◌∙◌, None, ap}
use Rattle.std.specs.Rc.{rc_value}
use Rattle.arrow_spec.specs.Files.{lengths_sum}
use Rattle.ipc_files.specs.Below.{header_of, held_in}
use Rattle.ipc_streams.specs.Starts.{stream_schema}
use Rattle.ipc_streams.proofs.StreamSchemas.{field_count, held_columns, may_read}
use Rattle.ipc_streams.proofs.TakenCalls.{values_told}
use Rattle.ipc_flight.proofs.Steps.{rows_read}
use Rattle.ipc_flight.proofs.Fields.{all_shown}
use Rattle.ipc_flight.proofs.consumer.FlightConsumer.read_rows.Goals as goal

pub read_record_batch-requires-clause-columns : goal.read_record_batch-requires-clause-columns
read_record_batch-requires-clause-columns c = may_read c.args.self.now.metadata None c.args.self.now.readable

pub read_record_batch-requires-clause-fields : goal.read_record_batch-requires-clause-fields
read_record_batch-requires-clause-fields c = field_count c.args.self.now.metadata c.args.self.now.readable

pub read_record_batch-requires-clause-kinds : goal.read_record_batch-requires-clause-kinds
read_record_batch-requires-clause-kinds c = held_columns c.args.self.now.metadata (held_in c.args.self.now.dictionaries) c.args.self.now.readable (values_told (stream_schema c.args.self.now.metadata) (held_in c.args.self.now.dictionaries) c.args.self.now.values)

pub returns-clause-gives : goal.returns-clause-gives
returns-clause-gives c = λ d holds floats.
    rows_read c.args.self.now.metadata d c.read_record_batch.result c.args.message.now.version (header_of c.args.message.now.header) c.place-place.result c.in_ok-most.most _ c.args.body.bytes.items c.place-place.ensures.place (c.in_ok-most.ensures.sum ∙ ap lengths_sum c.deref.ensures.value) floats (c.read_record_batch.ensures.gives d holds)

pub returns-clause-schema : goal.returns-clause-schema
returns-clause-schema c = all_shown (rc_value c.args.self.now.metadata.schema) c.read_record_batch.result c.read_record_batch.ensures.schema c.read_record_batch.ensures.kinds
