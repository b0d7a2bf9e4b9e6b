-- The message of a block, which is read once for all that is read of the block.
use Rattle.std.specs.Prelude.{◌≡◌, ℕ, List, Option, Ok, IfSome}
use Rattle.arrow_spec.specs.declared.message.Block.{Block}
use Rattle.ipc_files.specs.FileBlocks.{PairedMessage, block_by, block_record, file_block}

-- it is the message of a block, none of whose numbers is negative
abbrev pub IsMessage : Option (List ℕ) → Block → PairedMessage → Type 0
IsMessage content block m = IfSome content (λ b. (block_by block ≡ Ok (file_block block)) × (block_record b (file_block block) ≡ Ok m))
