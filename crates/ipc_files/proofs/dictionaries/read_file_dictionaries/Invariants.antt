use Rattle.std.proofs.Common.{drop, ◌≡◌}
use Rattle.std.specs.Prelude.{map}
use Rattle.ipc_io.specs.Outside.{SourceKept}
use Rattle.ipc_read.specs.Held.{held_in}
use Rattle.ipc_files.specs.FileBlocks.{file_block}
use Rattle.ipc_files.specs.FileDictionaries.{HoldsUses}
use Rattle.ipc_files.specs.FileViews.{meta_view}
use Rattle.ipc_files.proofs.FetchedDictionaries.{CostSoFar}
use Rattle.ipc_files.proofs.FileDictionaries.{GivenSoFar, HeldSoFar}
use Rattle.ipc_files.proofs.dictionaries.read_file_dictionaries.Given as goal

abbrev pub invariant-loop-block : goal.invariant-loop-block
invariant-loop-block g l = record {
  read : HeldSoFar (g.S.Source.content l.fn.source) (meta_view l.metadata) (drop l.block-index (map file_block l.metadata.dictionaries.items)) (held_in l.dictionaries);
  given : GivenSoFar (g.S.Source.content l.fn.source) (meta_view l.metadata) l.metadata.dictionaries.items (drop l.block-index l.metadata.dictionaries.items) (held_in l.dictionaries);
  uses : HoldsUses (meta_view l.metadata) (held_in l.dictionaries);
  cost : CostSoFar (g.S.Source.content l.fn.source) (meta_view l.metadata) (drop l.block-index (map file_block l.metadata.dictionaries.items)) (g.S.Source.fetched l.fn.source) (g.S.Source.fetched l.source);
  kept : SourceKept g.S.Source.content g.S.Source.faults g.S.Source.references l.fn.source l.source;
  faults_stay : g.S.Source.faults l.source ≡ g.S.Source.faults l.fn.source;
}
