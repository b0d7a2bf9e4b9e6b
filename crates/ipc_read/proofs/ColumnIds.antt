-- A kind with the ids of IPC fields is laid out as the kind itself.
use Rattle.std.proofs.Common.{◌≡◌, ℕ, suc, List, true, Option, Some, None, ℤ, refl, sym, ap, ◌∙◌}
use Rattle.arrow_spec.specs.declared.types.IntegerType.{IntegerType}
use Rattle.arrow_spec.specs.declared.types.UnionMode.{UnionMode}
use Rattle.arrow_spec.specs.Features.{float_faults, floats_in, chosen_floats}
use Rattle.arrow_spec.specs.Kinds as kind
use Rattle.arrow_spec.specs.Kinds.{Kind, Fields, none, field, dictionary_count, dictionary_counts}
use Rattle.arrow_spec.specs.Counts.{RecordBatch, Place, after}
use Rattle.arrow_spec.specs.Faults.{count_faults}
use Rattle.arrow_types.specs.Physical.{under_extensions}
use Rattle.arrow_arrays.specs.Carried.{is_carried}
use Rattle.arrow_arrays.specs.Heads.{ids_in}
use Rattle.arrow_arrays.specs.LeafKinds.{is_leaf_kind}
use Rattle.arrow_types.specs.KindOf.{kind_of}
use Rattle.arrow_types.specs.declared.data_type.ArrowDataType.{ArrowDataType}
use Rattle.ipc_fields.specs.IpcFields.{Ids, no_fields, ids, ids_of, kind_with, fields_with}
use Rattle.ipc_fields.specs.Uses.{id_under}
use Rattle.ipc_fields.specs.declared.ipc_field.IpcField.{IpcField}
use Rattle.ipc_read_laws.specs.PlainKinds.{plain_kind}
use Rattle.ipc_read_laws.proofs.PlainKinds.{after_plain, count_faults_plain, carried_plain, none_left}
use Rattle.ipc_read_laws.proofs.PlainTypes.{plain_of, plain_with}
use Rattle.ipc_read.specs.CountedArrays.{counted_kind}
use Rattle.ipc_read.specs.Held.{column_kind, dictionary_as, ordered_in}
use Rattle.ipc_read.specs.Lists.{as_lists, is_any_map}
use Rattle.ipc_read.specs.Unions.{union_as, stated_in}

-- so the kind of a column without its ids is that of its type
pub plain_column : (dtype : ArrowDataType) (id : Option ℤ) (fs : List IpcField) → plain_kind (column_kind dtype id fs) ≡ kind_of dtype
plain_column dtype id fs = plain_with (kind_of dtype) id (ids_of fs) ∙ plain_of dtype

-- ── what it takes of a record batch ──

pub after_with : (m : RecordBatch) (k : Kind) (id : Option ℤ) (below : Ids) (p : Place) → after m (kind_with k id below) p ≡ after m k p
after_with m k id below p = sym (after_plain m (kind_with k id below) p) ∙ ap (λ l. after m l p) (plain_with k id below) ∙ after_plain m k p

pub counts_with : (m : RecordBatch) (k : Kind) (id : Option ℤ) (below : Ids) (p : Place) → count_faults m (kind_with k id below) p ≡ count_faults m k p
counts_with m k id below p = sym (count_faults_plain m (kind_with k id below) p) ∙ ap (λ l. count_faults m l p) (plain_with k id below) ∙ count_faults_plain m k p

-- ── which kind it is ──

pub carried_with : (k : Kind) (id : Option ℤ) (below : Ids) → is_carried (kind_with k id below) ≡ is_carried k
carried_with k id below = sym (carried_plain (kind_with k id below)) ∙ ap is_carried (plain_with k id below) ∙ carried_plain k

pub leaf_with : (k : Kind) (id : Option ℤ) (below : Ids) → is_leaf_kind k ≡ true → kind_with k id below ≡ k
leaf_with (kind.«list» kind.small fs) id below h = cc
leaf_with (kind.«list» kind.large fs) id below h = cc
leaf_with (kind.map sorted fs) id below h = cc
leaf_with (kind.fixed_size_list size fs) id below h = cc
leaf_with (kind.struct fs) id below h = cc
leaf_with (kind.union mode stated types fs) id below h = cc
leaf_with (kind.dictionary t ordered old k) id below h = cc
leaf_with (kind.extension name metadata k) id below h = ap (kind.extension name metadata) (leaf_with k id below h)
leaf_with k id below h = refl

lists_with : (k : Kind) (id : Option ℤ) (below : Ids) → as_lists (kind_with k id below) ≡ kind_with (as_lists k) id below
lists_with (kind.map sorted fs) id below = refl
lists_with (kind.extension name metadata k) id below = lists_with k id below
lists_with k id below = refl

pub list_with : (k : Kind) (id : Option ℤ) (below : Ids) (o : kind.Offsets) (fs : Fields) → as_lists k ≡ kind.«list» o fs → as_lists (kind_with k id below) ≡ kind.«list» o (fields_with fs below)
list_with k id below o fs u = lists_with k id below ∙ ap (λ l. kind_with l id below) u

pub maps_with : (k : Kind) (id : Option ℤ) (below : Ids) → is_any_map (kind_with k id below) ≡ is_any_map k
maps_with (kind.extension name metadata k) id below = maps_with k id below
maps_with k id below = refl

under_with : (k : Kind) (id : Option ℤ) (below : Ids) → under_extensions (kind_with k id below) ≡ kind_with (under_extensions k) id below
under_with (kind.extension name metadata k) id below = under_with k id below
under_with k id below = refl

pub counted_with : (k : Kind) (id : Option ℤ) (below : Ids) (s : Option ℕ) (fs : Fields) → under_extensions k ≡ counted_kind s fs → under_extensions (kind_with k id below) ≡ counted_kind s (fields_with fs below)
counted_with k id below None fs u = under_with k id below ∙ ap (λ l. kind_with l id below) u
counted_with k id below (Some size) fs u = under_with k id below ∙ ap (λ l. kind_with l id below) u

pub types_with : (k : Kind) (id : Option ℤ) (below : Ids) → ids_in (kind_with k id below) ≡ ids_in k
types_with (kind.extension name metadata k) id below = types_with k id below
types_with k id below = refl

stated_with : (k : Kind) (id : Option ℤ) (below : Ids) → stated_in (kind_with k id below) ≡ stated_in k
stated_with (kind.extension name metadata k) id below = stated_with k id below
stated_with k id below = refl

pub union_with : (k : Kind) (id : Option ℤ) (below : Ids) (mode : UnionMode) (fs : Fields) → under_extensions k ≡ union_as k mode fs → under_extensions (kind_with k id below) ≡ union_as (kind_with k id below) mode (fields_with fs below)
union_with k id below mode fs u =
    under_with k id below ∙ ap (λ l. kind_with l id below) u
    ∙ ap (λ s. kind.union mode s (ids_in k) (fields_with fs below)) (sym (stated_with k id below))
    ∙ ap (λ ts. kind.union mode (stated_in (kind_with k id below)) ts (fields_with fs below)) (sym (types_with k id below))

pub dictionary_with : (k : Kind) (id : Option ℤ) (below : Ids) (t : IntegerType) (values : Kind) → under_extensions k ≡ dictionary_as k t values → under_extensions (kind_with k id below) ≡ kind.dictionary t (ordered_in k) (id_under id) (kind_with values None below)
dictionary_with k id below t values u = under_with k id below ∙ ap (λ l. kind_with l id below) u

-- ── floats ──

mutual
  pub floats_with : (k : Kind) (id : Option ℤ) (below : Ids) → float_faults (kind_with k id below) ≡ float_faults k
  floats_with (kind.«list» o fs) id below = all_floats_with fs below
  floats_with (kind.fixed_size_list n fs) id below = all_floats_with fs below
  floats_with (kind.struct fs) id below = all_floats_with fs below
  floats_with (kind.map sorted fs) id below = all_floats_with fs below
  floats_with (kind.union mode stated types fs) id below = all_floats_with fs below
  floats_with (kind.dictionary t ordered old k) id below = floats_with k None below
  floats_with (kind.extension name metadata k) id below = floats_with k id below
  floats_with k id below = refl

  all_floats_with : (fs : Fields) (below : Ids) → floats_in (fields_with fs below) ≡ floats_in fs
  all_floats_with none below = refl
  all_floats_with (field name nullable metadata k fs) no_fields = rw (floats_with k None no_fields, all_floats_with fs no_fields) refl
  all_floats_with (field name nullable metadata k fs) (ids id below others) = rw (floats_with k id below, all_floats_with fs others) refl

pub chosen_floats_with : (asked : Option (List ℕ)) (fs : Fields) (below : Ids) (c : ℕ) → chosen_floats asked (fields_with fs below) c ≡ chosen_floats asked fs c
chosen_floats_with asked none below c = refl
chosen_floats_with asked (field name nullable metadata k fs) no_fields c = rw (floats_with k None no_fields, chosen_floats_with asked fs no_fields (suc c)) refl
chosen_floats_with asked (field name nullable metadata k fs) (ids id below others) c = rw (floats_with k id below, chosen_floats_with asked fs others (suc c)) refl

-- ── kinds without dictionaries ──

mutual
  -- have no ids to be given
  pub with_itself : (k : Kind) (id : Option ℤ) (below : Ids) → dictionary_count k ≡ 0 → kind_with k id below ≡ k
  with_itself (kind.«list» o fs) id below h = ap (kind.«list» o) (fields_themselves fs below h)
  with_itself (kind.fixed_size_list n fs) id below h = ap (kind.fixed_size_list n) (fields_themselves fs below h)
  with_itself (kind.struct fs) id below h = ap kind.struct (fields_themselves fs below h)
  with_itself (kind.map sorted fs) id below h = ap (kind.map sorted) (fields_themselves fs below h)
  with_itself (kind.union mode stated types fs) id below h = ap (kind.union mode stated types) (fields_themselves fs below h)
  with_itself (kind.dictionary t ordered old k) id below h = cc
  with_itself (kind.extension name metadata k) id below h = ap (kind.extension name metadata) (with_itself k id below h)
  with_itself k id below h = refl

  pub fields_themselves : (fs : Fields) (below : Ids) → dictionary_counts fs ≡ 0 → fields_with fs below ≡ fs
  fields_themselves none below h = refl
  fields_themselves (field name nullable metadata k fs) no_fields h =
      let s = none_left (dictionary_count k) (dictionary_counts fs) h in
      rw (with_itself k None no_fields s.0, fields_themselves fs no_fields s.1) refl
  fields_themselves (field name nullable metadata k fs) (ids id below others) h =
      let s = none_left (dictionary_count k) (dictionary_counts fs) h in
      rw (with_itself k id below s.0, fields_themselves fs others s.1) refl
