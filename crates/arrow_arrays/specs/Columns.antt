-- The columns of a batch, by their types alone.
use Rattle.std.specs.Prelude.{[], true}
use Rattle.arrow_spec.specs.Kinds as kind
use Rattle.arrow_spec.specs.Kinds.{Fields}
use Rattle.arrow_arrays.specs.Parts.{Forest, none, also, kind_in}

-- a column for each array
abbrev pub columns_of : Forest → Fields
columns_of none = kind.none
columns_of (also p ps) = kind.field [] true [] (kind_in p) (columns_of ps)
