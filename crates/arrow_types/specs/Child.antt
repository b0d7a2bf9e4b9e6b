-- One field, and lists of fields.
use Rattle.std.specs.Prelude.{ℕ, List, [], ◌∷◌, Bool}
use Rattle.arrow_spec.specs.Kinds.{Kind, Fields, none, field, Metadata}

-- a field by itself: its name, its kind, whether it may be null, and its metadata by key
pub record Child : Type 0 where
  pub name : List ℕ
  pub kind : Kind
  pub nullable : Bool
  pub metadata : Metadata

-- fields in order
abbrev pub fields_from : List Child → Fields
fields_from [] = none
fields_from (c ∷ cs) = field c.name c.nullable c.metadata c.kind (fields_from cs)

abbrev pub one_field : Child → Fields
one_field c = field c.name c.nullable c.metadata c.kind none
