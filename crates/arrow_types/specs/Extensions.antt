-- The two pairs of a field's metadata that make its type an extension.
use Rattle.std.specs.Prelude.{ℕ, List, Option, Some, None}
use Rattle.arrow_spec.specs.Kinds.{Metadata}
use Rattle.arrow_spec.specs.Schema.{value_of, extension_name, extension_metadata}

-- the extension's name and metadata, where the name's pair is there
abbrev pub extension_in : Metadata → Option (List ℕ × Option (List ℕ))
extension_in pairs = elim (value_of extension_name pairs) [ None ↦ None | Some name ↦ Some (name, value_of extension_metadata pairs) ]
