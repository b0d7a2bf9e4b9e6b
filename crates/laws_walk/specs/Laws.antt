-- What holds of files whose blocks are walked. Each statement is the contract of a public function without a body (src/lib.rt).
use Rattle.std.specs.Prelude.{◌≡◌, ℕ, List, Option}
use Rattle.arrow_spec.specs.Files.{Purpose, Request, file_reading}
use Rattle.laws_walk.specs.Walks.{walk_reading, within}

-- Within a request a walk gives what the file means.
abbrev pub WalkIsFile : Type 0
WalkIsFile = (purpose : Purpose) (b : List ℕ) (r : Request) (j : Option ℕ) → walk_reading purpose b (within r) j ≡ file_reading purpose b r j
