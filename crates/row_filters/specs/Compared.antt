-- What is answered of two numbers.
use Rattle.std.specs.Prelude.{ℤ, Bool, int_lt, if◌then◌else◌}
use Rattle.row_filters.specs.declared.marks.Answers.{Answers}

-- by how the first stands to the second
abbrev pub answer_of : ℤ → ℤ → Answers → Bool
answer_of z n a = if int_lt z n then a.less else if int_lt n z then a.greater else a.equal
