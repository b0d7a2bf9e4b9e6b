-- Features of kinds that are never read. They stand at one place: where there are several, any of them may be told.
use Rattle.std.specs.Prelude.{ℕ, suc, List, [], ◌∷◌, ◌++◌, Option, if◌then◌else◌}
use Rattle.arrow_spec.specs.declared.error.IpcError.{IpcError}
use Rattle.arrow_spec.specs.declared.error.IpcError.TheVariants.{Unsupported}
use Rattle.arrow_spec.specs.declared.error.Feature.TheVariants as features
use Rattle.arrow_spec.specs.Kinds.{Kind, Fields, none, field, float, decimal256, «list», fixed_size_list, struct, map, union, dictionary, extension}
use Rattle.arrow_spec.specs.Columns.{is_chosen}

-- floats and wide decimals are never read
abbrev mutual
  pub float_faults : Kind → List IpcError
  float_faults (float t) = Unsupported features.Float ∷ []
  float_faults (decimal256 precision scale) = Unsupported features.Decimal256 ∷ []
  float_faults («list» o fs) = floats_in fs
  float_faults (fixed_size_list n fs) = floats_in fs
  float_faults (struct fs) = floats_in fs
  float_faults (map sorted fs) = floats_in fs
  float_faults (union mode stated ids fs) = floats_in fs
  float_faults (extension name metadata k) = float_faults k
  float_faults (dictionary t ordered id k) = float_faults k
  float_faults k = []

  pub floats_in : Fields → List IpcError
  floats_in none = []
  floats_in (field name nullable metadata k others) = float_faults k ++ floats_in others

-- the same of the columns asked for
abbrev pub chosen_floats : Option (List ℕ) → Fields → ℕ → List IpcError
chosen_floats asked none c = []
chosen_floats asked (field name nullable metadata k others) c = (if is_chosen asked c then float_faults k else []) ++ chosen_floats asked others (suc c)
