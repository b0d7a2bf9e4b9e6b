-- How many bytes are fetched of a file at most.
use Rattle.std.specs.Prelude.{◌≡◌, ℕ, ◌+◌, ◌≤◌, List, take, drop, length, ⊤, Option, Ok, Err, None, Some, option_map}
use Rattle.arrow_spec.specs.Readings.{Reading, meaning}
use Rattle.arrow_spec.specs.Arrays.{Dictionaries}
use Rattle.arrow_spec.specs.Files.{FileBlock, Meta, Request, TableBatch, batch_of, footer_of, to_read}
use Rattle.arrow_spec.specs.Messages.{prefix_of}
use Rattle.arrow_spec.specs.Needed.{lengths, or_nothing}
use Rattle.laws_files.specs.Fetched.{batch_fetched}
use Rattle.ipc_files.specs.Blocks.{asked_under}
use Rattle.ipc_files.specs.FileBlocks.{PairedMessage, block_metadata, block_record, message_metadata}

-- a prefix with the metadata behind it
abbrev pub both_of : Reading (ℕ × ℕ) → ℕ
both_of (Ok p) = p.0 + p.1
both_of (Err es) = 0

-- the prefix and the metadata of a block's message
abbrev pub message_cost : List ℕ → FileBlock → ℕ
message_cost b block = both_of (prefix_of (block_metadata b block))

-- what is fetched of a block's message and of the buffers that are looked at, where rows are left to be read
abbrev pub block_cost : List ℕ → Meta → Request → FileBlock → Option ℕ → ℕ
block_cost b meta r block left = lengths (or_nothing (option_map (λ x. x.0) (meaning (batch_fetched b meta r block left))))

-- ── what a count of fetched bytes has risen by, where bytes are told ──

-- of a message in so many bytes from a place on, at most its prefix
abbrev pub FrontFetched : Option (List ℕ) → ℕ → ℕ → ℕ → ℕ → Type 0
FrontFetched None at size fetched fetched' = ⊤
FrontFetched (Some b) at size fetched fetched' = (p : ℕ × ℕ) → prefix_of (take size (drop at b)) ≡ Ok p → fetched' ≤ fetched + p.0

-- of a block whose metadata stands, at most its prefix and its metadata
abbrev pub MetadataFetched : Option (List ℕ) → FileBlock → ℕ → ℕ → Type 0
MetadataFetched None block fetched fetched' = ⊤
MetadataFetched (Some b) block fetched fetched' = (bytes : List ℕ) → message_metadata b block ≡ Ok bytes → fetched' ≤ fetched + message_cost b block

-- of a block's message, at most its prefix and its metadata
abbrev pub MessageFetched : Option (List ℕ) → FileBlock → ℕ → ℕ → Type 0
MessageFetched None block fetched fetched' = ⊤
MessageFetched (Some b) block fetched fetched' = (m : PairedMessage) → block_record b block ≡ Ok m → fetched' ≤ fetched + message_cost b block

-- of a block that means a batch under any dictionaries, at most what it costs
abbrev pub BlockFetched : Option (List ℕ) → Meta → Request → FileBlock → Option ℕ → ℕ → ℕ → Type 0
BlockFetched None meta r block left fetched fetched' = ⊤
BlockFetched (Some b) meta r block left fetched fetched' =
    (d : Dictionaries) (x : TableBatch) → batch_of to_read b (asked_under b meta d r) block left ≡ Ok x → fetched' ≤ fetched + block_cost b meta r block left

-- of a footer, at most the end of the file and its own length
abbrev pub FooterFetched : Option (List ℕ) → ℕ → ℕ → Type 0
FooterFetched None fetched fetched' = ⊤
FooterFetched (Some b) fetched fetched' = (f : List ℕ) → footer_of b ≡ Ok f → fetched' ≤ fetched + 10 + length f
