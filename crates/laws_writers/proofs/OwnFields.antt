-- The fields of a schema with their own pairs alone: they are of the same kinds, under whatever ids.
use Rattle.std.proofs.Common.{◌≡◌, true, Option, None, ℤ, refl, ap, ◌∙◌}
use Rattle.std.proofs.lemmas.Bool.{and_parts}
use Rattle.arrow_spec.specs.Features.{float_faults, floats_in}
use Rattle.arrow_spec.specs.Kinds as kind
use Rattle.arrow_spec.specs.Kinds.{Kind, Fields, none, field, have_same_kinds, is_same_kind}
use Rattle.arrow_spec.specs.Layout as layout
use Rattle.arrow_spec.specs.WrittenSchemas.{own_fields, own_kind}
use Rattle.ipc_messages.specs.Below.{Ids, fields_with, ids, kind_with, no_fields}
use Rattle.arrow_spec.proofs.OwnPairs.{form_own}
use Rattle.ipc_messages.proofs.Below.{form_is_same, same_by_form}

-- ── under ids ──

mutual
  kind_with_own : (k : Kind) (id : Option ℤ) (below : Ids) → kind_with (own_kind k) id below ≡ own_kind (kind_with k id below)
  kind_with_own (kind.«list» o fs) id below = ap (kind.«list» o) (with_own fs below)
  kind_with_own (kind.fixed_size_list n fs) id below = ap (kind.fixed_size_list n) (with_own fs below)
  kind_with_own (kind.struct fs) id below = ap kind.struct (with_own fs below)
  kind_with_own (kind.map sorted fs) id below = ap (kind.map sorted) (with_own fs below)
  kind_with_own (kind.union mode stated types fs) id below = ap (kind.union mode stated types) (with_own fs below)
  kind_with_own (kind.dictionary t ordered old k) id below = rw (kind_with_own k None below) refl
  kind_with_own (kind.extension name metadata k) id below = rw (kind_with_own k id below) refl
  kind_with_own k id below = refl

  pub with_own : (fs : Fields) (below : Ids) → fields_with (own_fields fs) below ≡ own_fields (fields_with fs below)
  with_own none below = refl
  with_own (field name nullable metadata k fs) no_fields = rw (kind_with_own k None no_fields, with_own fs no_fields) refl
  with_own (field name nullable metadata k fs) (ids id below others) = rw (kind_with_own k id below, with_own fs others) refl

-- ── kinds ──

pub kinds_own : (fs gs : Fields) → have_same_kinds fs gs ≡ true → have_same_kinds (own_fields fs) gs ≡ true
kinds_own none none h = refl
kinds_own none (field n c y l gs) h = cc
kinds_own (field m b x k fs) none h = cc
kinds_own (field m b x k fs) (field n c y l gs) h =
    let both = and_parts (is_same_kind k l) (have_same_kinds fs gs) h in
    rw (same_by_form (own_kind k) l (form_own k ∙ form_is_same k l both.0), kinds_own fs gs both.1) refl

-- ── floats ──

mutual
  float_own : (k : Kind) → float_faults (own_kind k) ≡ float_faults k
  float_own (kind.«list» o fs) = floats_own fs
  float_own (kind.fixed_size_list n fs) = floats_own fs
  float_own (kind.struct fs) = floats_own fs
  float_own (kind.map sorted fs) = floats_own fs
  float_own (kind.union mode stated types fs) = floats_own fs
  float_own (kind.dictionary t ordered id k) = float_own k
  float_own (kind.extension name metadata k) = float_own k
  float_own k = refl

  pub floats_own : (fs : Fields) → floats_in (own_fields fs) ≡ floats_in fs
  floats_own none = refl
  floats_own (field name nullable metadata k fs) = rw (float_own k, floats_own fs) refl
