-- Uses of dictionaries that agree.
use Rattle.std.specs.Prelude.{List, [], Bool, is_ok}
use Rattle.arrow_spec.specs.Kinds.{Use}
use Rattle.arrow_spec.specs.Schema.{uses_agree}

-- the values under each id are of one kind
abbrev pub agree : List Use → Bool
agree uses = is_ok (uses_agree [] uses)
