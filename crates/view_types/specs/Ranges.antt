-- Ranges of the input.
use Rattle.std.specs.Prelude.{ℕ, ◌+◌, ◌≤◌, List, length}
use Rattle.view_types.specs.declared.layout.Range.{Range}

-- a range lies inside the input
abbrev pub Lies : List ℕ → Range → Type 0
Lies input r = r.at + r.length ≤ length input
