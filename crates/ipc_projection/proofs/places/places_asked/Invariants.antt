use Rattle.std.proofs.Common.{◌≡◌, ℕ, List, [], drop}
use Rattle.arrow_spec.specs.Files.{wrong_columns}
use Rattle.ipc_projection.specs.Places.{ArePlacesOf}
use Rattle.ipc_projection.proofs.Asked.{AreEarlier}
use Rattle.ipc_projection.proofs.places.places_asked.Given as goal

abbrev pub invariant-loop-i : goal.invariant-loop-i
invariant-loop-i l = record {
  walked : (earlier : List ℕ) × (AreEarlier earlier l.places.items) × (wrong_columns l.width earlier (drop l.i l.columns) ≡ wrong_columns l.width [] l.columns);
  placed : ArePlacesOf l.columns l.i l.places.items l.width;
}
