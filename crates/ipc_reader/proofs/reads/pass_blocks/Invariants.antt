use Rattle.std.proofs.Common.{◌≡◌}
use Rattle.ipc_io.specs.Outside.{SourceKept}
use Rattle.ipc_reader.proofs.PassedBlocks.{PassedUpTo}
use Rattle.ipc_reader.proofs.reads.pass_blocks.Given as goal

abbrev pub invariant-loop-block : goal.invariant-loop-block
invariant-loop-block g l = record {
  at : l.place.block ≡ l.block-index;
  passed : PassedUpTo (g.S.Source.content l.fn.source) l.blocks l.offset l.place (g.S.Source.fetched l.fn.source) (g.S.Source.fetched l.source);
  kept : SourceKept g.S.Source.content g.S.Source.faults g.S.Source.references l.fn.source l.source;
  faults_stay : g.S.Source.faults l.source ≡ g.S.Source.faults l.fn.source;
}
