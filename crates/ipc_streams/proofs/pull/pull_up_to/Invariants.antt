use Rattle.std.proofs.Common.{◌≤◌, ◌-◌, length, ◌≡◌}
use Rattle.std.specs.Io.KnownBytes.{Consumes}
use Rattle.ipc_streams.specs.Feeds.{FeedKept}
use Rattle.ipc_streams.proofs.pull.pull_up_to.Given as goal

abbrev pub invariant-pieces : goal.invariant-pieces
invariant-pieces g l = record {
  pulled : Consumes (g.F.Feed.rest l.fn.feed) (g.F.Feed.rest l.feed) l.bytes.items;
  short : length l.bytes.items ≤ l.count;
  kept : FeedKept g.F.Feed.faults g.F.Feed.references l.fn.feed l.feed;
  faults_stay : g.F.Feed.faults l.feed ≡ g.F.Feed.faults l.fn.feed;
}

abbrev pub decreases-pieces : goal.decreases-pieces
decreases-pieces g l = l.count - length l.bytes.items
