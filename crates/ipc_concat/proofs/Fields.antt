-- Fields without the ids of dictionaries.
use Rattle.std.proofs.Common.{◌≡◌, ◌∙◌, sym, refl, ap, ℕ, suc, List, [], ◌++◌, None}
use Rattle.std.specs.Rc.{rc_value}
use Rattle.arrow_spec.specs.Features.{chosen_floats, float_faults, floats_in}
use Rattle.arrow_spec.specs.Kinds as kind
use Rattle.arrow_spec.specs.Kinds.{Fields, Kind, bare, bare_kind}
use Rattle.arrow_types.specs.Schemas.{fields_in}
use Rattle.ipc_fields.specs.IpcFields.{ids_of}
use Rattle.laws_walk.specs.Below.{FileMetadata, meta_view}
use Rattle.same_fields.proofs.BareKinds.{fields_with_bare}

mutual
  floats_bare : (k : Kind) → float_faults (bare_kind k) ≡ float_faults k
  floats_bare (kind.«list» o fs) = each_bare fs
  floats_bare (kind.fixed_size_list n fs) = each_bare fs
  floats_bare (kind.struct fs) = each_bare fs
  floats_bare (kind.map sorted fs) = each_bare fs
  floats_bare (kind.union mode stated types fs) = each_bare fs
  floats_bare (kind.dictionary index ordered id k) = floats_bare k
  floats_bare (kind.extension name metadata k) = floats_bare k
  floats_bare k = refl

  each_bare : (fs : Fields) → floats_in (bare fs) ≡ floats_in fs
  each_bare kind.none = refl
  each_bare (kind.field name nullable metadata k fs) = rw (floats_bare k, each_bare fs) refl

-- kinds that can be read are told by them
pub chosen_bare : (fs : Fields) (c : ℕ) → chosen_floats None (bare fs) c ≡ chosen_floats None fs c
chosen_bare kind.none c = refl
chosen_bare (kind.field name nullable metadata k fs) c = rw (floats_bare k, chosen_bare fs (suc c)) refl

-- the fields of a file are those of its schema
pub bare_of : (m : FileMetadata) → bare (meta_view m).schema.fields ≡ bare (fields_in (rc_value m.schema))
bare_of m = fields_with_bare (fields_in (rc_value m.schema)) (ids_of m.ipc_schema.fields.items)
