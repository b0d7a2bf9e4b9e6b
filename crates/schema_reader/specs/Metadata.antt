-- Metadata as it is handed out.
use Rattle.std.specs.Prelude.{ℕ, ◌<◌, length, Option, Some, None, String}
use Rattle.std.specs.BTreeMap.{BTreeMap}
use Rattle.std.specs.declared.alloc.Global.{Global}

-- there is none, or some that has a pair
abbrev pub HasPairsIfAny : Option (BTreeMap (String Global) (String Global)) → Type 0
HasPairsIfAny None = Unit {0}
HasPairsIfAny (Some m) = 0 < length m.entries
