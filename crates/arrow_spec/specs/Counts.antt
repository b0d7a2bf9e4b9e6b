-- How many nodes, buffers and view counts the arrays of a kind take, by adding over its tree. (Arrow Columnar Format, "RecordBatch message", "Buffer Listing for Each Layout", "Variadic buffers".)
use Rattle.std.specs.Prelude.{ℕ, suc, ◌+◌, List, if◌then◌else◌, Bool, true, false, Option, Some, None, ℤ, pos, negsuc, slice_get}
use Rattle.arrow_spec.specs.Flat.{Order}
use Rattle.arrow_spec.specs.declared.types.UnionMode.{UnionMode}
use Rattle.arrow_spec.specs.declared.types.UnionMode.TheVariants.{Dense, Sparse}
use Rattle.arrow_spec.specs.Kinds.{Kind, Fields, none, field, null, binary, utf8, binary_view, utf8_view, «list», fixed_size_list, struct, map, union, extension}
use Rattle.arrow_spec.specs.declared.message.FieldNode.{FieldNode}
use Rattle.arrow_spec.specs.declared.message.IpcBuffer.{IpcBuffer}
use Rattle.arrow_spec.specs.declared.message.MetadataVersion.{MetadataVersion}
use Rattle.arrow_spec.specs.declared.message.MetadataVersion.TheVariants.{V5}

-- a record batch that is read: its tables and its body
pub record RecordBatch : Type 0 where
  pub order : Order
  pub version : MetadataVersion
  pub nodes : List FieldNode
  pub buffers : List IpcBuffer
  pub variadic : List ℤ
  pub body : List ℕ

-- the numbers of an array's node, of its first buffer and of its first view count
pub record Place : Type 0 where
  pub node : ℕ
  pub buffer : ℕ
  pub view : ℕ

-- the place of the first column
abbrev pub first_place : Place
first_place = record { node = 0; buffer = 0; view = 0 }

-- a number, 0 where it is negative
abbrev pub magnitude : ℤ → ℕ
magnitude (pos n) = n
magnitude (negsuc n) = 0

-- below 0
abbrev pub is_negative : ℤ → Bool
is_negative (pos n) = false
is_negative (negsuc n) = true

-- a number, 0 where there is none
abbrev pub magnitude_or_0 : Option ℤ → ℕ
magnitude_or_0 None = 0
magnitude_or_0 (Some x) = magnitude x

-- the i-th view count
abbrev pub count_among : List ℤ → ℕ → ℕ
count_among variadic i = magnitude_or_0 (slice_get variadic i)

-- the same of a record batch
abbrev pub count_at : RecordBatch → ℕ → ℕ
count_at m i = count_among m.variadic i

-- one node an array, in preorder
abbrev mutual
  pub nodes : Kind → ℕ
  nodes («list» o fs) = suc (nodes_of fs)
  nodes (fixed_size_list n fs) = suc (nodes_of fs)
  nodes (struct fs) = suc (nodes_of fs)
  nodes (map sorted fs) = suc (nodes_of fs)
  nodes (union mode stated ids fs) = suc (nodes_of fs)
  nodes (extension name metadata k) = nodes k
  nodes k = 1

  pub nodes_of : Fields → ℕ
  nodes_of none = 0
  nodes_of (field name nullable metadata k others) = nodes k + nodes_of others

-- one count a view array
abbrev mutual
  pub views : Kind → ℕ
  views binary_view = 1
  views utf8_view = 1
  views («list» o fs) = views_of fs
  views (fixed_size_list n fs) = views_of fs
  views (struct fs) = views_of fs
  views (map sorted fs) = views_of fs
  views (union mode stated ids fs) = views_of fs
  views (extension name metadata k) = views k
  views k = 0

  pub views_of : Fields → ℕ
  views_of none = 0
  views_of (field name nullable metadata k others) = views k + views_of others

-- whether a union's types stand behind a validity, as they did before V5
abbrev pub has_union_validity : MetadataVersion → Bool
has_union_validity V5 = false
has_union_validity v = true

-- types, and offsets where it is dense
abbrev pub union_parts : UnionMode → ℕ
union_parts Sparse = 1
union_parts Dense = 2

-- a union's own buffers: its validity in older versions, its types, and its offsets where it is dense
abbrev pub union_buffers : MetadataVersion → UnionMode → ℕ
union_buffers v mode = if has_union_validity v then suc (union_parts mode) else union_parts mode

-- the buffers of an array whose first view count has this number
abbrev mutual
  pub buffers : MetadataVersion → List ℤ → Kind → ℕ → ℕ
  buffers version counts null v = 0
  buffers version counts (binary o) v = 3
  buffers version counts (utf8 o) v = 3
  buffers version counts binary_view v = 2 + count_among counts v
  buffers version counts utf8_view v = 2 + count_among counts v
  buffers version counts («list» o fs) v = 2 + buffers_of version counts fs v
  buffers version counts (fixed_size_list n fs) v = 1 + buffers_of version counts fs v
  buffers version counts (struct fs) v = 1 + buffers_of version counts fs v
  buffers version counts (map sorted fs) v = 2 + buffers_of version counts fs v
  buffers version counts (union mode stated ids fs) v = union_buffers version mode + buffers_of version counts fs v
  buffers version counts (extension name metadata k) v = buffers version counts k v
  buffers version counts k v = 2

  pub buffers_of : MetadataVersion → List ℤ → Fields → ℕ → ℕ
  buffers_of version counts none v = 0
  buffers_of version counts (field name nullable metadata k others) v = buffers version counts k v + buffers_of version counts others (v + views k)

-- the place behind an array, and the place of an array's first child behind its own node and buffers
abbrev pub after : RecordBatch → Kind → Place → Place
after m k p = record { node = p.node + nodes k; buffer = p.buffer + buffers m.version m.variadic k p.view; view = p.view + views k }

-- an array's first child stands behind its node and its own buffers
abbrev pub inside : ℕ → Place → Place
inside own p = record { node = suc p.node; buffer = p.buffer + own; view = p.view }

-- what an array is written with: its nodes, the lengths of its buffers, and its view counts
pub record Written : Type 0 where
  pub nodes : List FieldNode
  pub lengths : List ℕ
  pub views : List ℕ
