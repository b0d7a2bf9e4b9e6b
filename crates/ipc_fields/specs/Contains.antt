-- Whether IPC fields have a dictionary.
use Rattle.std.specs.Prelude.{Bool, false, Option, ℤ, is_some, ◌||◌}
use Rattle.ipc_fields.specs.IpcFields.{Ids, no_fields, ids}

-- one of the fields, or one below them, has an id
abbrev pub have_id : Ids → Bool
have_id no_fields = false
have_id (ids id below others) = (is_some id || have_id below) || have_id others

-- a field has an id, or one below it
abbrev pub has_id : Option ℤ → Ids → Bool
has_id id below = is_some id || have_id below
