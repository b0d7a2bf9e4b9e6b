-- The ids of a union's children. (Schema.fbs, Union.)
use Rattle.std.specs.Prelude.{ℕ, List, Bool, ◌&&◌, length, nat_lt, ℤ, nat_eq}
use Rattle.arrow_spec.specs.Schema.{are_ids}

-- the ids of so many children: distinct, from 0 to 127, one for each child, and there is a child
abbrev pub are_right : List ℤ → ℕ → Bool
are_right ids n = are_ids ids && nat_eq (length ids) n && nat_lt 0 n
