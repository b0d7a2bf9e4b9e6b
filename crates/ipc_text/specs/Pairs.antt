-- One pair's line.
use Rattle.std.specs.Prelude.{ℕ, List, ◌++◌, codes}
use Rattle.arrow_spec.specs.SchemaText.{indent, quoted}

abbrev pub pair_line : ℕ → List ℕ × List ℕ → List ℕ
pair_line level pair = indent level ++ codes "@ " ++ quoted pair.0 ++ codes " " ++ quoted pair.1 ++ codes "\n"
