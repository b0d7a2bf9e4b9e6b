-- Where the ids of a schema's dictionaries can count from 0.
use Rattle.std.specs.Prelude.{◌≡◌, ℕ, ◌+◌, Bool, true, not, ◌&&◌, Option, ℤ}
use Rattle.arrow_spec.specs.Kinds as kind
use Rattle.arrow_spec.specs.Kinds.{Kind, Fields, dictionary_count, dictionary_counts, numbered_kind, numbered}
use Rattle.ipc_fields.specs.IpcFields.{Ids, is_encoded, has_shape, have_shapes, kind_with, fields_with}

-- No dictionary's values are a dictionary, extensions looked through: an IPC field has one id, so an inner one had none of its own.
abbrev mutual
  pub is_apart : Kind → Bool
  is_apart (kind.«list» o fs) = are_apart fs
  is_apart (kind.fixed_size_list n fs) = are_apart fs
  is_apart (kind.struct fs) = are_apart fs
  is_apart (kind.map sorted fs) = are_apart fs
  is_apart (kind.union mode stated types fs) = are_apart fs
  is_apart (kind.dictionary index ordered id k) = not (is_encoded k) && is_apart k
  is_apart (kind.extension name metadata k) = is_apart k
  is_apart k = true

  pub are_apart : Fields → Bool
  are_apart kind.none = true
  are_apart (kind.field name nullable metadata k fs) = is_apart k && are_apart fs

-- the IPC field of a kind has its shape, and ids that count from a number on, the next of which is free
pub record IsDefault (k : Kind) (start next : ℕ) (id : Option ℤ) (below : Ids) : Type 0 where
  pub counted : next ≡ start + dictionary_count k
  pub shaped : has_shape k id below ≡ true
  pub ids : is_apart k ≡ true → kind_with k id below ≡ numbered_kind k start

-- the same of fields
pub record AreDefault (fs : Fields) (start next : ℕ) (below : Ids) : Type 0 where
  pub counted : next ≡ start + dictionary_counts fs
  pub shaped : have_shapes fs below ≡ true
  pub ids : are_apart fs ≡ true → fields_with fs below ≡ numbered fs start

-- from 0 on
pub record IsNumbered (fs : Fields) (below : Ids) : Type 0 where
  pub shaped : have_shapes fs below ≡ true
  pub ids : are_apart fs ≡ true → fields_with fs below ≡ numbered fs 0
