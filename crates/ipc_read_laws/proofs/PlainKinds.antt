-- A kind without the ids of dictionaries is laid out as the kind itself.
use Rattle.std.proofs.Common.{◌≡◌, ℕ, zero, suc, ◌+◌, List, ◌++◌, Bool, true, ℤ, nat_eq, ◌&&◌, refl, ap, ◌∙◌, arith}
use Rattle.arrow_spec.specs.declared.message.MetadataVersion.{MetadataVersion}
use Rattle.arrow_spec.specs.declared.types.IntegerType.{IntegerType}
use Rattle.arrow_spec.specs.Kinds as kind
use Rattle.arrow_spec.specs.Kinds.{Kind, Fields, Offsets, none, field, small, large, width, dictionary_count, dictionary_counts}
use Rattle.arrow_spec.specs.Schema.{is_struct_of_two, first_is_struct_of_two}
use Rattle.arrow_spec.specs.Counts.{RecordBatch, Place, nodes, nodes_of, views, views_of, buffers, buffers_of, union_buffers, after}
use Rattle.arrow_spec.specs.Faults.{counts_faults, view_count_faults, count_faults}
use Rattle.arrow_types.specs.Physical.{physical_of}
use Rattle.arrow_types.specs.UnionIds.{are_right}
use Rattle.arrow_buffers.specs.Layouts.{binary_size}
use Rattle.arrow_arrays.specs.Carried.{is_carried, are_carried}
use Rattle.arrow_arrays.specs.Heads.{is_list, is_map, is_sized, is_struct, is_union, is_mode, is_dictionary, ids_in, list_size, child_fields, values_kind}
use Rattle.arrow_arrays.specs.LeafKinds.{is_leaf_kind, is_leaf_layout}
use Rattle.ipc_read_laws.specs.PlainKinds.{plain_kind, plain_fields}

-- ── its layout ──

pub layout_plain : (k : Kind) → physical_of (plain_kind k) ≡ physical_of k
layout_plain (kind.extension name metadata k) = layout_plain k
layout_plain k = refl

pub size_plain : (k : Kind) → binary_size (plain_kind k) ≡ binary_size k
size_plain (kind.extension name metadata k) = size_plain k
size_plain k = refl

pub leaf_plain : (k : Kind) → is_leaf_kind (plain_kind k) ≡ is_leaf_kind k
leaf_plain k = ap (λ p. is_leaf_layout p (binary_size (plain_kind k))) (layout_plain k) ∙ ap (is_leaf_layout (physical_of k)) (size_plain k)

-- ── its fields ──

pub width_plain : (fs : Fields) → width (plain_fields fs) ≡ width fs
width_plain none = refl
width_plain (field name nullable metadata k others) = ap suc (width_plain others)

pub fields_plain : (k : Kind) → child_fields (plain_kind k) ≡ plain_fields (child_fields k)
fields_plain (kind.extension name metadata k) = fields_plain k
fields_plain k = refl

pub values_plain : (k : Kind) → values_kind (plain_kind k) ≡ plain_kind (values_kind k)
values_plain (kind.extension name metadata k) = values_plain k
values_plain k = refl

struct_of_two_plain : (k : Kind) → is_struct_of_two (plain_kind k) ≡ is_struct_of_two k
struct_of_two_plain (kind.struct fs) = ap (λ n. nat_eq n 2) (width_plain fs)
struct_of_two_plain (kind.extension name metadata k) = struct_of_two_plain k
struct_of_two_plain k = refl

first_plain : (fs : Fields) → first_is_struct_of_two (plain_fields fs) ≡ first_is_struct_of_two fs
first_plain none = refl
first_plain (field name nullable metadata k others) = struct_of_two_plain k

pub list_size_plain : (k : Kind) → list_size (plain_kind k) ≡ list_size k
list_size_plain (kind.extension name metadata k) = list_size_plain k
list_size_plain k = refl

pub ids_plain : (k : Kind) → ids_in (plain_kind k) ≡ ids_in k
ids_plain (kind.extension name metadata k) = ids_plain k
ids_plain k = refl

-- ── which top it has ──

pub list_plain : (o : Offsets) (k : Kind) → is_list o (plain_kind k) ≡ is_list o k
list_plain small (kind.«list» small fs) = refl
list_plain small (kind.«list» large fs) = refl
list_plain large (kind.«list» small fs) = refl
list_plain large (kind.«list» large fs) = refl
list_plain small (kind.extension name metadata k) = list_plain small k
list_plain large (kind.extension name metadata k) = list_plain large k
list_plain o k = refl

pub map_plain : (o : Offsets) (k : Kind) → is_map o (plain_kind k) ≡ is_map o k
map_plain small (kind.map sorted fs) = first_plain fs
map_plain small (kind.extension name metadata k) = map_plain small k
map_plain large (kind.extension name metadata k) = map_plain large k
map_plain o k = refl

pub sized_plain : (k : Kind) → is_sized (plain_kind k) ≡ is_sized k
sized_plain (kind.fixed_size_list zero fs) = refl
sized_plain (kind.fixed_size_list (suc n) fs) = refl
sized_plain (kind.extension name metadata k) = sized_plain k
sized_plain k = refl

pub struct_plain : (k : Kind) → is_struct (plain_kind k) ≡ is_struct k
struct_plain (kind.extension name metadata k) = struct_plain k
struct_plain k = refl

pub union_plain : (dense : Bool) (k : Kind) → is_union dense (plain_kind k) ≡ is_union dense k
union_plain dense (kind.union mode stated ids fs) = ap (λ n. is_mode dense mode && are_right ids n) (width_plain fs)
union_plain dense (kind.extension name metadata k) = union_plain dense k
union_plain dense k = refl

pub dictionary_plain : (t : IntegerType) (k : Kind) → is_dictionary t (plain_kind k) ≡ is_dictionary t k
dictionary_plain t (kind.extension name metadata k) = dictionary_plain t k
dictionary_plain t k = refl

mutual
  pub carried_plain : (k : Kind) → is_carried (plain_kind k) ≡ is_carried k
  carried_plain (kind.«list» o fs) = rw (width_plain fs, fields_carried_plain fs) refl
  carried_plain (kind.map sorted fs) = rw (width_plain fs, first_plain fs, fields_carried_plain fs) refl
  carried_plain (kind.fixed_size_list size fs) = rw (width_plain fs, fields_carried_plain fs) refl
  carried_plain (kind.struct fs) = fields_carried_plain fs
  carried_plain (kind.union mode stated ids fs) = rw (width_plain fs, fields_carried_plain fs) refl
  carried_plain (kind.dictionary t ordered id k) = carried_plain k
  carried_plain (kind.extension name metadata k) = carried_plain k
  carried_plain k = refl

  pub fields_carried_plain : (fs : Fields) → are_carried (plain_fields fs) ≡ are_carried fs
  fields_carried_plain none = refl
  fields_carried_plain (field name nullable metadata k others) = rw (carried_plain k, fields_carried_plain others) refl

-- ── what it takes of a record batch ──

mutual
  pub nodes_plain : (k : Kind) → nodes (plain_kind k) ≡ nodes k
  nodes_plain (kind.«list» o fs) = ap suc (fields_nodes_plain fs)
  nodes_plain (kind.map sorted fs) = ap suc (fields_nodes_plain fs)
  nodes_plain (kind.fixed_size_list size fs) = ap suc (fields_nodes_plain fs)
  nodes_plain (kind.struct fs) = ap suc (fields_nodes_plain fs)
  nodes_plain (kind.union mode stated ids fs) = ap suc (fields_nodes_plain fs)
  nodes_plain (kind.extension name metadata k) = nodes_plain k
  nodes_plain k = refl

  fields_nodes_plain : (fs : Fields) → nodes_of (plain_fields fs) ≡ nodes_of fs
  fields_nodes_plain none = refl
  fields_nodes_plain (field name nullable metadata k others) = rw (nodes_plain k, fields_nodes_plain others) refl

mutual
  pub views_plain : (k : Kind) → views (plain_kind k) ≡ views k
  views_plain (kind.«list» o fs) = fields_views_plain fs
  views_plain (kind.map sorted fs) = fields_views_plain fs
  views_plain (kind.fixed_size_list size fs) = fields_views_plain fs
  views_plain (kind.struct fs) = fields_views_plain fs
  views_plain (kind.union mode stated ids fs) = fields_views_plain fs
  views_plain (kind.extension name metadata k) = views_plain k
  views_plain k = refl

  fields_views_plain : (fs : Fields) → views_of (plain_fields fs) ≡ views_of fs
  fields_views_plain none = refl
  fields_views_plain (field name nullable metadata k others) = rw (views_plain k, fields_views_plain others) refl

mutual
  pub buffers_plain : (version : MetadataVersion) (counts : List ℤ) (k : Kind) (v : ℕ) → buffers version counts (plain_kind k) v ≡ buffers version counts k v
  buffers_plain version counts (kind.«list» o fs) v = ap (λ n. 2 + n) (fields_buffers_plain version counts fs v)
  buffers_plain version counts (kind.map sorted fs) v = ap (λ n. 2 + n) (fields_buffers_plain version counts fs v)
  buffers_plain version counts (kind.fixed_size_list size fs) v = ap (λ n. 1 + n) (fields_buffers_plain version counts fs v)
  buffers_plain version counts (kind.struct fs) v = ap (λ n. 1 + n) (fields_buffers_plain version counts fs v)
  buffers_plain version counts (kind.union mode stated ids fs) v = ap (λ n. union_buffers version mode + n) (fields_buffers_plain version counts fs v)
  buffers_plain version counts (kind.extension name metadata k) v = buffers_plain version counts k v
  buffers_plain version counts k v = refl

  fields_buffers_plain : (version : MetadataVersion) (counts : List ℤ) (fs : Fields) (v : ℕ) → buffers_of version counts (plain_fields fs) v ≡ buffers_of version counts fs v
  fields_buffers_plain version counts none v = refl
  fields_buffers_plain version counts (field name nullable metadata k others) v =
      ap (λ n. n + buffers_of version counts (plain_fields others) (v + views (plain_kind k))) (buffers_plain version counts k v)
      ∙ ap (λ n. buffers version counts k v + buffers_of version counts (plain_fields others) (v + n)) (views_plain k)
      ∙ ap (λ n. buffers version counts k v + n) (fields_buffers_plain version counts others (v + views k))

pub after_plain : (m : RecordBatch) (k : Kind) (p : Place) → after m (plain_kind k) p ≡ after m k p
after_plain m k p = rw (nodes_plain k, buffers_plain m.version m.variadic k p.view, views_plain k) refl

view_count_faults_plain : (m : RecordBatch) (k : Kind) (p : Place) → view_count_faults m (plain_kind k) p ≡ view_count_faults m k p
view_count_faults_plain m k p = rw (views_plain k) refl

pub count_faults_plain : (m : RecordBatch) (k : Kind) (p : Place) → count_faults m (plain_kind k) p ≡ count_faults m k p
unfolding count_faults
count_faults_plain m k p = ap (λ q. counts_faults m q ++ view_count_faults m (plain_kind k) p) (after_plain m k p) ∙ ap (λ es. counts_faults m (after m k p) ++ es) (view_count_faults_plain m k p)

-- ── a kind without dictionaries ──

pub none_left : (a b : ℕ) → a + b ≡ 0 → (a ≡ 0) × (b ≡ 0)
none_left a b h = (omega (arith, h), omega (arith, h))

mutual
  -- states no ids
  pub plain_itself : (k : Kind) → dictionary_count k ≡ 0 → plain_kind k ≡ k
  plain_itself (kind.«list» o fs) h = ap (kind.«list» o) (plain_themselves fs h)
  plain_itself (kind.map sorted fs) h = ap (kind.map sorted) (plain_themselves fs h)
  plain_itself (kind.fixed_size_list size fs) h = ap (kind.fixed_size_list size) (plain_themselves fs h)
  plain_itself (kind.struct fs) h = ap kind.struct (plain_themselves fs h)
  plain_itself (kind.union mode stated ids fs) h = ap (kind.union mode stated ids) (plain_themselves fs h)
  plain_itself (kind.dictionary t ordered id k) h = cc
  plain_itself (kind.extension name metadata k) h = ap (kind.extension name metadata) (plain_itself k h)
  plain_itself k h = refl

  pub plain_themselves : (fs : Fields) → dictionary_counts fs ≡ 0 → plain_fields fs ≡ fs
  plain_themselves none h = refl
  plain_themselves (field name nullable metadata k others) h =
      let s = none_left (dictionary_count k) (dictionary_counts others) h in
      ap (λ l. field name nullable metadata l (plain_fields others)) (plain_itself k s.0) ∙ ap (field name nullable metadata k) (plain_themselves others s.1)

-- one without children has none
pub no_dictionaries : (k : Kind) → is_leaf_kind k ≡ true → dictionary_count k ≡ 0
no_dictionaries (kind.«list» small fs) h = cc
no_dictionaries (kind.«list» large fs) h = cc
no_dictionaries (kind.map sorted fs) h = cc
no_dictionaries (kind.fixed_size_list size fs) h = cc
no_dictionaries (kind.struct fs) h = cc
no_dictionaries (kind.union mode stated ids fs) h = cc
no_dictionaries (kind.dictionary t ordered id k) h = cc
no_dictionaries (kind.extension name metadata k) h = no_dictionaries k h
no_dictionaries k h = refl
