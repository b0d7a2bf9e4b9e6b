-- What holds of parts that are not refused.
use Rattle.std.proofs.Common.{◌≡◌, ℕ, ◌%◌, ◌<◌, ◌&&◌, List, Bool, true, false, Option, Some, None, length, nat_lt, nat_eq, refl}
use Rattle.std.proofs.lemmas.Bool.{and_parts, ltb-true, eqb-true}
use Rattle.std.specs.Prelude.{not, if◌then◌else◌}
use Rattle.arrow_buffers.specs.declared.error.ArrayError.TheVariants.{DataType, Length}
use Rattle.arrow_buffers.specs.Rows.{has_rows}
use Rattle.arrow_buffers.specs.Layouts.{binary_size}
use Rattle.arrow_buffers.specs.Leaf.{Leaf, leaf_fault, fixed_fault, fixed_rows}

two_tests : (s t : Bool) → (if not s then Some DataType else (if not t then Some Length else None)) ≡ None → (s ≡ true) × (t ≡ true)
two_tests true true e = (refl, refl)
two_tests true false e = cc
two_tests false t e = cc

-- as many bits as rows
pub leaf_sound : (s : Bool) (n : ℕ) (v : Option (List Bool)) → leaf_fault s n v ≡ None → has_rows v n ≡ true
leaf_sound s n v e = (two_tests s (has_rows v n) e).1

-- byte strings of one size: their size is above 0, and they are whole rows
pub record FixedSound (f : Leaf ℕ) : Type 0 where
  pub sized : 0 < binary_size f.kind
  pub whole : length f.values % binary_size f.kind ≡ 0
  pub rows : has_rows f.validity (fixed_rows f) ≡ true

pub fixed_sound : (f : Leaf ℕ) → fixed_fault f ≡ None → FixedSound f
fixed_sound f e =
    let t = two_tests (nat_lt 0 (binary_size f.kind)) (nat_eq (length f.values % binary_size f.kind) 0 && has_rows f.validity (fixed_rows f)) e in
    let p = and_parts (nat_eq (length f.values % binary_size f.kind) 0) (has_rows f.validity (fixed_rows f)) t.1 in
    record { sized = ltb-true 0 (binary_size f.kind) t.0; whole = eqb-true (length f.values % binary_size f.kind) 0 p.0; rows = p.1 }
