-- What is asked of a file.
use Rattle.std.specs.Prelude.{ℕ, List, Option}
use Rattle.arrow_spec.specs.Files.{Request}

abbrev pub asked : Option (List ℕ) → Option ℕ → Request
asked columns limit = record { columns = columns; limit = limit }
