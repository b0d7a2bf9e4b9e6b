-- How many bytes are fetched of the blocks of a file that are walked, and of a whole file, at most.
use Rattle.std.specs.Prelude.{◌≡◌, ℕ, zero, suc, ◌+◌, ◌≤◌, List, length, take, ⊤, Option, Ok, None, Some, IsSome, true}
use Rattle.arrow_spec.specs.Arrays.{Dictionaries}
use Rattle.arrow_spec.specs.Files.{Meta, Request, TableBatch, to_read}
use Rattle.arrow_spec.specs.Meaning.{file_table}
use Rattle.arrow_spec.specs.Needed.{lengths}
use Rattle.laws_files.specs.Fetched.{fetched as ranges_fetched}
use Rattle.laws_transcode.specs.Files.{HasRead}
use Rattle.ipc_reader.specs.Below.{dictionaries_cost}
use Rattle.laws_walk.specs.Places.{Walking, asked_walked, meta_walked}
use Rattle.laws_walk.specs.Walks.{Walk, blocks_walked, walk_cost}

-- what is fetched of the first blocks of a file, and of its dictionaries before the first
abbrev pub cost_up_to : List ℕ → Meta → Walk → Dictionaries → ℕ → ℕ
cost_up_to b meta w d zero = 0
cost_up_to b meta w d (suc n) = dictionaries_cost b meta meta.dictionaries + walk_cost b meta w d (take (suc n) meta.blocks) w.limit

-- of a file all of whose blocks can be read, no more is fetched between two of its blocks than those between them cost
abbrev pub FetchesBlocks : Walking → ℕ → ℕ → ℕ → ℕ → Type 0
FetchesBlocks x from to fetched fetched' = (d : Dictionaries) (xs : List TableBatch) → HasRead x.bytes (meta_walked x) d
    → blocks_walked to_read x.bytes x.walk (asked_walked x d) true (meta_walked x).blocks x.walk.limit ≡ Ok xs
    → fetched' + cost_up_to x.bytes (meta_walked x) x.walk d from ≤ fetched + cost_up_to x.bytes (meta_walked x) x.walk d to

-- up to a block of it
pub record FetchesTo (x : Walking) (from to fetched fetched' : ℕ) : Type 0 where
  pub within : to ≤ length (meta_walked x).blocks
  pub blocks : FetchesBlocks x from to fetched fetched'

-- no more than its dictionaries and its blocks cost
pub record FetchesSome (x : Walking) (fetched fetched' : ℕ) : Type 0 where
  pub to : ℕ
  pub within : to ≤ length (meta_walked x).blocks
  pub blocks : FetchesBlocks x 0 to fetched fetched'

-- of a file that means a table under a request, at most the ranges that the request fetches
abbrev pub FileFetched : Option (List ℕ) → Request → ℕ → ℕ → Type 0
FileFetched None r fetched fetched' = ⊤
FileFetched (Some b) r fetched fetched' = IsSome (file_table b r) → fetched' ≤ fetched + lengths (ranges_fetched b r)
