-- Fields without dictionary ids, whether or not the ids of a union are stated.
use Rattle.std.specs.Prelude.{◌≡◌, true, Option, Some, None}
use Rattle.arrow_spec.specs.Kinds.{bare_kind, is_same_kind}
use Rattle.arrow_types.specs.Child.{Child}
use Rattle.arrow_types.specs.Schemas.{Keyed}

-- a field
abbrev pub bare_child : Child → Child
bare_child c = record { name = c.name; kind = bare_kind c.kind; nullable = c.nullable; metadata = c.metadata }

-- a field under a key, which is not looked at
abbrev pub bare_entry : Keyed → Child
bare_entry p = bare_child p.1

-- fields at a place are of one kind, names, nullability and metadata aside
abbrev pub AreOfOneKind : Option Keyed → Option Keyed → Type 0
AreOfOneKind None None = Unit {0}
AreOfOneKind None (Some q) = ⊥
AreOfOneKind (Some p) None = ⊥
AreOfOneKind (Some p) (Some q) = is_same_kind p.1.kind q.1.kind ≡ true
