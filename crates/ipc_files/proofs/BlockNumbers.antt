-- The blocks of a file by their numbers.
use Rattle.std.proofs.Common.{◌≡◌, ℕ, ◌<◌, List, length, get_or, Some, ap, ◌∙◌, subst, map, option_map, slice_get}
use Rattle.std.proofs.lemmas.Option.{slice_get-get_or, slice_get-map}
use Rattle.arrow_spec.specs.declared.message.Block.{Block}
use Rattle.ipc_files.specs.FileBlocks.{file_block}

-- ── as the loop has them ──

-- a block at its place, by the items that the loop goes over
pub at_index : (blocks items : List Block) (i : ℕ) (d : Block) → items ≡ blocks → i < length items → slice_get (map file_block blocks) i ≡ Some (file_block (get_or items i d))
at_index blocks items i d same h = subst (λ l. slice_get (map file_block l) i ≡ Some (file_block (get_or items i d))) same (slice_get-map file_block items i ∙ ap (option_map file_block) (slice_get-get_or items i d h))
