use Rattle.std.proofs.Common.{◌∙◌, ap, rules, w64}
use Rattle.std.proofs.Math.Logic.{∥∥₁_map}
use Rattle.std.proofs.lemmas.Int.{to_z-of_z}
use Rattle.arrow_spec.specs.Files.{lengths_sum}
use Rattle.ipc_files.specs.Below.{held_in}
use Rattle.ipc_streams.specs.Starts.{stream_schema}
use Rattle.ipc_streams.proofs.ReadBatches.{values_kept}
use Rattle.ipc_streams.proofs.StreamSchemas.{field_count, held_values, may_read_values}
use Rattle.ipc_streams.proofs.TakenCalls.{values_told}
use Rattle.ipc_flight.proofs.Steps.{values_added}
use Rattle.ipc_flight.proofs.consumer.FlightConsumer.read_values.Goals as goal

pub read_dictionary_batch-requires-clause-fields : goal.read_dictionary_batch-requires-clause-fields
read_dictionary_batch-requires-clause-fields c = field_count c.args.self.now.metadata c.args.self.now.readable

pub read_dictionary_batch-requires-clause-columns : goal.read_dictionary_batch-requires-clause-columns
read_dictionary_batch-requires-clause-columns c = may_read_values c.args.self.now.metadata _ c.args.self.now.readable

pub read_dictionary_batch-requires-clause-kinds : goal.read_dictionary_batch-requires-clause-kinds
read_dictionary_batch-requires-clause-kinds c = held_values c.args.self.now.metadata _ _ c.args.self.now.readable (values_told (stream_schema c.args.self.now.metadata) (held_in c.args.self.now.dictionaries) c.args.self.now.values)

pub returns-clause-adds : goal.returns-clause-adds
returns-clause-adds c = λ d holds.
    values_added c.args.self.now.metadata d (held_in c.read_dictionary_batch.new.dictionaries) c.read_dictionary_batch.result c.args.message.now _ c.place-place.result c.in_ok-most.most c.args.body.bytes.items (to_z-of_z w64 c.args.message.now.id (search rules)) c.place-place.ensures.place (c.in_ok-most.ensures.sum ∙ ap lengths_sum c.deref.ensures.value) (c.read_dictionary_batch.ensures.adds d holds)

pub invariant_of-self : goal.invariant_of-self
invariant_of-self c = record {
  readable = c.args.self.now.readable;
  values = ∥∥₁_map c.args.self.now.values (λ w. values_kept (stream_schema c.args.self.now.metadata).fields _ _ _ c.read_dictionary_batch.result w c.read_dictionary_batch.ensures.kind c.read_dictionary_batch.ensures.others c.read_dictionary_batch.ensures.refused);
}
