-- Places from which on a list and another agree up to an item.
use Rattle.std.specs.Prelude.{◌≡◌, ℕ, ◌+◌, ◌<◌, ◌≤◌, List, length, get_or}
use Rattle.arrow_spec.specs.Cells.{Cell, null}

-- from a place on a list holds what another does, up to an item of the list
abbrev pub Survives : List Cell → List Cell → ℕ → ℕ → Type 0
Survives u v at i = (j : ℕ) → at + j < i → j < length v → get_or u (at + j) null ≡ get_or v j null

-- how far on a list next agrees with itself up to an item
pub record IsShift (v : List Cell) (i shift : ℕ) : Type 0 where
  pub some : 1 ≤ shift
  pub within : shift ≤ i + 1
  pub survives : Survives v v shift i
  pub none : (e : ℕ) → 1 ≤ e → e < shift → Survives v v e i → ⊥

-- each of some shifts
abbrev pub AreShifts : List Cell → List ℕ → Type 0
AreShifts v shifts = (i : ℕ) → i < length shifts → IsShift v i (get_or shifts i 0)

-- the first place from one on, up to one item more
pub record IsNext (u v : List Cell) (from i at : ℕ) : Type 0 where
  pub later : from ≤ at
  pub within : at ≤ i + 1
  pub survives : Survives u v at (i + 1)
  pub none : (e : ℕ) → from ≤ e → e < at → Survives u v e (i + 1) → ⊥
