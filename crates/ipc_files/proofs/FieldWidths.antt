-- How many fields a schema has, whatever ids its dictionaries have.
use Rattle.std.proofs.Common.{◌≡◌, suc, List, [], ◌∷◌, length, refl, ap}
use Rattle.arrow_spec.specs.Kinds.{Fields, none, field, width}
use Rattle.arrow_types.specs.Schemas.{Keyed, fields_in}
use Rattle.ipc_fields.specs.IpcFields.{Ids, no_fields, ids, fields_with}

-- ── fields at numbers ──

pub width_with : (fs : Fields) (below : Ids) → width (fields_with fs below) ≡ width fs
width_with none below = refl
width_with (field name nullable metadata k others) no_fields = ap suc (width_with others no_fields)
width_with (field name nullable metadata k others) (ids id below rest) = ap suc (width_with others rest)

pub width_in : (s : List Keyed) → width (fields_in s) ≡ length s
width_in [] = refl
width_in (p ∷ ps) = ap suc (width_in ps)
