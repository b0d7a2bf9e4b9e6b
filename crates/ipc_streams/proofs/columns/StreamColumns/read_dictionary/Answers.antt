use Rattle.std.proofs.Common.{ap, rules, w64}
use Rattle.std.proofs.lemmas.Int.{to_z-of_z}
use Rattle.ipc_files.specs.Below.{held_in, Body}
use Rattle.ipc_streams.specs.Starts.{stream_schema}
use Rattle.ipc_streams.proofs.ReadArrays.{dictionary_held}
use Rattle.ipc_streams.proofs.ReadBatches.{dictionary_added, values_kept}
use Rattle.ipc_streams.proofs.StreamSchemas.{field_count, held_values, may_read_values}
use Rattle.ipc_streams.proofs.columns.StreamColumns.read_dictionary.Goals as goal

pub read_dictionary_batch-requires-clause-fields : goal.read_dictionary_batch-requires-clause-fields
read_dictionary_batch-requires-clause-fields c = field_count c.args.self.now.metadata c.args.self.now.readable

pub read_dictionary_batch-requires-clause-columns : goal.read_dictionary_batch-requires-clause-columns
read_dictionary_batch-requires-clause-columns c = may_read_values c.args.self.now.metadata _ c.args.self.now.readable

pub read_dictionary_batch-requires-clause-kinds : goal.read_dictionary_batch-requires-clause-kinds
read_dictionary_batch-requires-clause-kinds c = held_values c.args.self.now.metadata _ _ c.args.self.now.readable c.requires.values

pub returns-clause-adds : goal.returns-clause-adds
returns-clause-adds c = λ d holds.
    dictionary_added c.args.self.now.metadata d (held_in c.read_dictionary_batch.new.dictionaries) c.read_dictionary_batch.result c.args.message.now _ c.place-place.result c.place-place.result.length c.args.body.bytes.items
    (to_z-of_z w64 c.args.message.now.id (search rules)) (record { whole = c.place-place.ensures.place; most = ap (λ (b : Body). b.length) c.place-place.ensures.place }) (c.read_dictionary_batch.ensures.adds d holds)

pub returns-clause-values : goal.returns-clause-values
returns-clause-values c =
    values_kept (stream_schema c.args.self.now.metadata).fields _ _ _ c.read_dictionary_batch.result c.requires.values c.read_dictionary_batch.ensures.kind c.read_dictionary_batch.ensures.others c.read_dictionary_batch.ensures.refused

pub returns-clause-held : goal.returns-clause-held
returns-clause-held c = λ d holds.
    let one = to_z-of_z w64 c.args.message.now.id (search rules) in
    let place = c.place-place.ensures.place in
    dictionary_held c.args.self.now.metadata d (held_in c.args.dictionaries.now) (held_in c.read_dictionary_batch.new.dictionaries) c.read_dictionary_batch.result c.args.message.now _ c.place-place.result c.args.body.bytes.items one place
    c.read_dictionary_batch.ensures.part c.read_dictionary_batch.ensures.others holds
    (dictionary_added c.args.self.now.metadata d (held_in c.read_dictionary_batch.new.dictionaries) c.read_dictionary_batch.result c.args.message.now _ c.place-place.result c.place-place.result.length c.args.body.bytes.items
    one (record { whole = place; most = ap (λ (b : Body). b.length) place }) (c.read_dictionary_batch.ensures.adds d holds))
