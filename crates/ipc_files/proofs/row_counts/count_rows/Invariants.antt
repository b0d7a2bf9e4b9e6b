use Rattle.std.proofs.Common.{◌^◌, ◌<◌, ◌≡◌}
use Rattle.ipc_io.specs.Outside.{SourceKept}
use Rattle.ipc_files.proofs.BlockRows.{CountedUpTo}
use Rattle.ipc_files.proofs.row_counts.count_rows.Given as goal

abbrev pub invariant-loop-block : goal.invariant-loop-block
invariant-loop-block g l = record {
  counted : CountedUpTo (g.S.Source.content l.fn.source) l.blocks l.block-index l.total (g.S.Source.fetched l.fn.source) (g.S.Source.fetched l.source);
  few : l.total < 2 ^ 63;
  kept : SourceKept g.S.Source.content g.S.Source.faults g.S.Source.references l.fn.source l.source;
  faults_stay : g.S.Source.faults l.source ≡ g.S.Source.faults l.fn.source;
}
