-- The first rows that are generated from 0.
use Rattle.std.proofs.Common.{◌≡◌, [], ◌∷◌, refl, pos}
use Rattle.std.specs.Prelude.{codes}
use Rattle.arrow_spec.specs.Cells as cells
use Rattle.arrow_spec.specs.Cells.{cells_of}
use Rattle.ipc_generate.specs.Table.{batch_by, column, row_state, state}

pub first_two : batch_by (row_state 0 0) 2 ≡ record {
  rows = 2;
  columns = (cells.null ∷ cells.number (pos 938005501904238233) ∷ [])
      ∷ (cells.text (codes "3614") ∷ cells.text (codes "2849") ∷ [])
      ∷ (cells.text (codes "v3") ∷ cells.text (codes "v6") ∷ [])
      ∷ (cells.«list» cells.none ∷ cells.«list» (cells_of (cells.number (pos 6664) ∷ [])) ∷ []) ∷ [];
  custom = [];
}
unfolding column state
first_two = refl
