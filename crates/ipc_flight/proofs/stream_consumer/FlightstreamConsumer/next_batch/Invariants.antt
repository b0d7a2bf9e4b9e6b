use Rattle.std.proofs.Common.{◌≡◌}
use Rattle.std.specs.Iterator.{IsFinite, size}
use Rattle.arrow_spec.specs.Arrays.{Dictionaries}
use Rattle.ipc_files.specs.Below.{HoldsCells, held_in}
use Rattle.ipc_streams.specs.Starts.{stream_schema}
use Rattle.ipc_flight.proofs.ItemRuns.{Passed}
use Rattle.ipc_flight.proofs.stream_consumer.FlightstreamConsumer.next_batch.Given as goal

abbrev pub invariant-messages : goal.invariant-messages
invariant-messages g l = record {
  passed : (d : Dictionaries) → HoldsCells d (held_in l.fn.self.consumer.dictionaries) → Passed g.I.Iterator.next_gives (stream_schema l.fn.self.consumer.metadata) l.fn.self.messages l.self.messages d (held_in l.self.consumer.dictionaries);
  metadata : l.self.consumer.metadata ≡ l.fn.self.consumer.metadata;
  can : g.I.Iterator.can_next l.self.messages;
  finite : IsFinite (g.I.Iterator.remaining l.self.messages);
}

abbrev pub decreases-messages : goal.decreases-messages
decreases-messages g l = size (g.I.Iterator.remaining l.self.messages)
