use Rattle.std.proofs.Common.{drop}
use Rattle.ipc_files.specs.FileViews.{meta_view}
use Rattle.ipc_view.specs.Dictionaries.{shown_in}
use Rattle.ipc_view.specs.Lent.{HoldsLent}
use Rattle.ipc_mmap.proofs.FileDictionaries.{SoFar}
use Rattle.ipc_mmap.proofs.dictionaries.mmap_dictionaries_checked.Given as goal

abbrev pub invariant-loop-block : goal.invariant-loop-block
invariant-loop-block l = record {
  so : SoFar l.bytes (meta_view l.metadata) l.metadata.dictionaries.items (drop l.block-index l.metadata.dictionaries.items) (shown_in l.dictionaries);
  lent : HoldsLent l.bytes (shown_in l.dictionaries);
}
