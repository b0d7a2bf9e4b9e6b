use Rattle.std.proofs.Common.{◌≡◌}
use Rattle.ipc_streams.specs.Feeds.{FeedKept}
use Rattle.ipc_append.proofs.WholeSteps.{AreFront}
use Rattle.ipc_append.proofs.whole.read_rest.Given as goal

abbrev pub invariant-loop : goal.invariant-loop
invariant-loop g l = AreFront (g.F.Feed.rest l.fn.reader.feed) (g.F.Feed.rest l.reader.feed) l.fn.reader.cursor l.reader.cursor l.batches.items
    × FeedKept g.F.Feed.faults g.F.Feed.references l.fn.reader.feed l.reader.feed
    × (g.F.Feed.faults l.reader.feed ≡ g.F.Feed.faults l.fn.reader.feed)
