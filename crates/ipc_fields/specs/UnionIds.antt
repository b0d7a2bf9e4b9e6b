-- The ids of unions.
use Rattle.std.specs.Prelude.{ℕ, ◌+◌, ◌*◌, List, Bool, true, false, Ok, Option, Some, None, ℤ}
use Rattle.std.specs.Int.{w32}
use Rattle.std.specs.declared.alloc.Global.{Global}
use Rattle.std.specs.declared.vec.Vec.{Vec}
use Rattle.arrow_spec.specs.declared.error.OutOfSpecKind.TheVariants.{InvalidDataType}
use Rattle.arrow_spec.specs.Readings.{Reading, each, only_if, ◌>>=◌}
use Rattle.arrow_spec.specs.Flat.{Table, Vector, signed_at, slot_vector}
use Rattle.arrow_spec.specs.Schema.{schema_part, counted_ids}
use Rattle.arrow_flat.specs.Read.{VectorIn}
use Rattle.arrow_types.specs.KindOf.{are_stated, ids_of}
use Rattle.arrow_types.specs.UnionIds.{are_right}

-- whether the ids are stated, and the ids of so many children
abbrev pub ids_in : ℕ → Option (Vec ℤ Global) → Bool × List ℤ
ids_in children ids = (are_stated ids, ids_of ids children)

-- the numbers of a vector
abbrev pub numbers_in : VectorIn → Reading (List ℤ)
numbers_in v = schema_part (each (λ i. signed_at w32 v.bytes (v.vector.first + 4 * i)) 0 v.vector.count)

-- the ids that a union of so many children states
unfoldable pub stated_at : List ℕ → ℕ → Vector → Reading (Bool × List ℤ)
stated_at b n w = do
  ids ← schema_part (each (λ i. signed_at w32 b (w.first + 4 * i)) 0 w.count)
  right ← only_if (are_right ids n) InvalidDataType
  Ok (true, ids)

-- the ids of a vector, or those counted from 0
abbrev pub ids_of_vector : List ℕ → ℕ → Option Vector → Reading (Bool × List ℤ)
ids_of_vector b n None = only_if (are_right (counted_ids 0 n) n) InvalidDataType >>= λ right. Ok (false, counted_ids 0 n)
ids_of_vector b n (Some w) = stated_at b n w

-- a union's ids, counted from 0 where they are absent
unfoldable pub ids_by : List ℕ → Table → ℕ → Reading (Bool × List ℤ)
ids_by b t n = schema_part (slot_vector 4 b t 1) >>= ids_of_vector b n
