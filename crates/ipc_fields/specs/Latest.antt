-- The latest uses of dictionaries.
use Rattle.std.specs.Prelude.{◌≡◌, List, ℤ}
use Rattle.std.specs.Option.{option_map}
use Rattle.std.specs.Ordering.{int_cmp}
use Rattle.std.specs.BTreeMap.{BTreeMap, get}
use Rattle.arrow_spec.specs.declared.error.OutOfSpecKind.TheVariants.{InvalidIdDataType}
use Rattle.arrow_spec.specs.Readings.{Reading, only_if}
use Rattle.arrow_spec.specs.Kinds.{Use, values_under, agrees_with}
use Rattle.ipc_fields.specs.Uses.{use_in}
use Rattle.ipc_fields.specs.declared.uses.Use.{Use as ReadUse}

-- a map from an id to its latest use among some uses, of which the latest is the first
abbrev pub Holds : BTreeMap ℤ ReadUse → List Use → Type 0
Holds m earlier = (q : ℤ) → option_map (λ u. (use_in u).values) (get int_cmp m q) ≡ values_under q earlier

-- a use agrees with those before it
abbrev pub agreed : Use → List Use → Reading (Unit {0})
agreed u earlier = only_if (agrees_with (values_under u.id earlier) u.values) (InvalidIdDataType u.id)
