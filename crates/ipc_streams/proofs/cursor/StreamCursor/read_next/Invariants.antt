use Rattle.std.proofs.Common.{◌≡◌}
use Rattle.arrow_spec.specs.Arrays.{Dictionaries}
use Rattle.arrow_spec.specs.Streams.{Reader}
use Rattle.ipc_files.specs.Below.{HoldsCells, held_in}
use Rattle.ipc_streams.specs.Nexts.{KeepsColumns}
use Rattle.ipc_streams.specs.Readers.{IsReader}
use Rattle.ipc_streams.proofs.NextBatches.{Reached}
use Rattle.ipc_streams.proofs.cursor.StreamCursor.read_next.Given as goal

abbrev pub invariant-messages : goal.invariant-messages
invariant-messages g l = record {
  reached : (s : Reader) (d : Dictionaries) → IsReader l.fn.self.columns s → HoldsCells d (held_in l.fn.self.dictionaries) → Reached (g.F.Feed.rest l.fn.feed) s d (held_in l.fn.self.dictionaries) (g.F.Feed.rest l.feed) (held_in l.self.dictionaries) l.left;
  kept : KeepsColumns g.F.Feed.rest g.F.Feed.faults g.F.Feed.references l.fn.feed l.feed l.fn.self l.self;
  faults_stay : g.F.Feed.faults l.feed ≡ g.F.Feed.faults l.fn.feed;
}

abbrev pub decreases-messages : goal.decreases-messages
decreases-messages g l = l.left
