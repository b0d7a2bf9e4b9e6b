-- Floats among the columns that are asked for, whatever ids the dictionaries have.
use Rattle.std.proofs.Common.{◌≡◌, ℕ, suc, List, Option, None, ℤ, refl}
use Rattle.arrow_spec.specs.Features.{chosen_floats, float_faults, floats_in}
use Rattle.arrow_spec.specs.Kinds as kind
use Rattle.arrow_spec.specs.Kinds.{Kind, Fields}
use Rattle.ipc_fields.specs.IpcFields.{Ids, no_fields, ids, fields_with, kind_with}

-- ── ids change nothing ──

mutual
  kind_floats : (k : Kind) (id : Option ℤ) (below : Ids) → float_faults (kind_with k id below) ≡ float_faults k
  kind_floats (kind.«list» o fs) id below = fields_floats fs below
  kind_floats (kind.fixed_size_list n fs) id below = fields_floats fs below
  kind_floats (kind.struct fs) id below = fields_floats fs below
  kind_floats (kind.map sorted fs) id below = fields_floats fs below
  kind_floats (kind.union mode stated types fs) id below = fields_floats fs below
  kind_floats (kind.dictionary index ordered old k) id below = kind_floats k None below
  kind_floats (kind.extension name metadata k) id below = kind_floats k id below
  kind_floats k id below = refl

  fields_floats : (fs : Fields) (below : Ids) → floats_in (fields_with fs below) ≡ floats_in fs
  fields_floats kind.none below = refl
  fields_floats (kind.field name nullable metadata k fs) no_fields = rw (kind_floats k None no_fields, fields_floats fs no_fields) refl
  fields_floats (kind.field name nullable metadata k fs) (ids id below others) = rw (kind_floats k id below, fields_floats fs others) refl

pub chosen_with : (asked : Option (List ℕ)) (fs : Fields) (below : Ids) (c : ℕ) → chosen_floats asked (fields_with fs below) c ≡ chosen_floats asked fs c
chosen_with asked kind.none below c = refl
chosen_with asked (kind.field name nullable metadata k fs) no_fields c = rw (kind_floats k None no_fields, chosen_with asked fs no_fields (suc c)) refl
chosen_with asked (kind.field name nullable metadata k fs) (ids id below others) c = rw (kind_floats k id below, chosen_with asked fs others (suc c)) refl
