-- Uses of dictionaries as they are read.
use Rattle.std.specs.Prelude.{Option, None, ℤ, pos}
use Rattle.arrow_spec.specs.Flat.{or_default}
use Rattle.arrow_spec.specs.Kinds.{Kind}
use Rattle.arrow_spec.specs.Kinds as kind
use Rattle.arrow_types.specs.KindOf.{kind_of}
use Rattle.ipc_fields.specs.IpcFields.{Ids, no_fields, ids, ids_of, kind_with}
use Rattle.ipc_fields.specs.declared.uses.Use.{Use}

-- a dictionary's id, 0 where none is given
abbrev pub id_under : Option ℤ → ℤ
id_under id = or_default (pos 0) id

abbrev pub use_as : ℤ → Kind → kind.Use
use_as id k = record { id = id; values = k }

abbrev pub use_in : Use → kind.Use
use_in u = use_as u.id (kind_with (kind_of u.values) None (ids_of u.fields.items))

-- the id of the first of some fields, and the ids below it
abbrev pub first_id : Ids → Option ℤ
first_id no_fields = None
first_id (ids id below others) = id

abbrev pub first_ids : Ids → Ids
first_ids no_fields = no_fields
first_ids (ids id below others) = below

-- the ids of the other fields
abbrev pub other_ids : Ids → Ids
other_ids no_fields = no_fields
other_ids (ids id below others) = others
