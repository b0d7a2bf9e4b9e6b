-- The items that stand in bytes, each of one width. (Arrow Columnar Format, "Fixed-size Primitive Layout".)
use Rattle.std.specs.Prelude.{ℕ, ◌+◌, ◌*◌, List, take, drop}
use Rattle.arrow_spec.specs.Flat.{Order}
use Rattle.arrow_spec.specs.Arrays.{from_on}

-- so many items from a place of the bytes on
abbrev pub items_at : {A : Type 0} → (Order → List ℕ → A) → ℕ → Order → List ℕ → ℕ → ℕ → List A
items_at read width order bytes at count = from_on (λ j. read order (take width (drop (at + width * j) bytes))) 0 count
