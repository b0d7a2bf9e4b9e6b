-- The vector of pairs of a footer or of a message. (File.fbs, Footer; Message.fbs, Message.)
use Rattle.std.specs.Prelude.{ℕ, List, Option}
use Rattle.arrow_spec.specs.declared.error.FlatError.{FlatError}
use Rattle.arrow_spec.specs.declared.error.OutOfSpecKind.{OutOfSpecKind}
use Rattle.arrow_spec.specs.Readings.{◌>>=◌, Reading, as_kind}
use Rattle.arrow_spec.specs.Flat.{Vector, root, slot_vector}

-- it stands in slot 4 of the root table
unfoldable pub custom_vector : (FlatError → OutOfSpecKind) → List ℕ → Reading (Option Vector)
custom_vector kind b = as_kind kind (root b) >>= λ t. as_kind kind (slot_vector 4 b t 4)
