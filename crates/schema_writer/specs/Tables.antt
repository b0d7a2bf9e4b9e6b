-- The nodes of fields with the ids of their IPC fields, built field by field.
use Rattle.std.specs.Prelude.{List, [], ◌∷◌, Bool, true, ◌&&◌}
use Rattle.arrow_spec.specs.Kinds as kind
use Rattle.arrow_spec.specs.Kinds.{Kind, Fields}
use Rattle.arrow_spec.specs.Layout as layout
use Rattle.arrow_spec.specs.Layout.{Node, Nodes}
use Rattle.arrow_spec.specs.Regular.{is_size, is_representable_kind}
use Rattle.ipc_fields.specs.IpcFields.{Ids}
use Rattle.ipc_fields.specs.Uses.{first_id, first_ids, other_ids}
use Rattle.schema_writer.specs.Nodes.{field_table}

-- the nodes of a kind's children, and of fields
abbrev mutual
  pub below_nodes : Kind → Ids → Nodes
  below_nodes (kind.«list» o fs) own = nodes_with fs own
  below_nodes (kind.fixed_size_list n fs) own = nodes_with fs own
  below_nodes (kind.struct fs) own = nodes_with fs own
  below_nodes (kind.map sorted fs) own = nodes_with fs own
  below_nodes (kind.union mode stated types fs) own = nodes_with fs own
  below_nodes (kind.dictionary index ordered id k) own = below_nodes k own
  below_nodes (kind.extension name metadata k) own = below_nodes k own
  below_nodes k own = layout.none

  pub nodes_with : Fields → Ids → Nodes
  nodes_with kind.none own = layout.none
  nodes_with (kind.field name nullable metadata k fs) own =
      layout.also (field_table (record { name = name; kind = k; nullable = nullable; metadata = metadata }) (first_id own) (below_nodes k (first_ids own)))
      (nodes_with fs (other_ids own))

-- all fields below a kind, and fields with those below them, can be said in a schema's tables
abbrev mutual
  pub fits_below : Kind → Bool
  fits_below (kind.«list» o fs) = all_fit fs
  fits_below (kind.fixed_size_list n fs) = all_fit fs
  fits_below (kind.struct fs) = all_fit fs
  fits_below (kind.map sorted fs) = all_fit fs
  fits_below (kind.union mode stated types fs) = all_fit fs
  fits_below (kind.dictionary index ordered id k) = fits_below k
  fits_below (kind.extension name metadata k) = fits_below k
  fits_below k = true

  pub all_fit : Fields → Bool
  all_fit kind.none = true
  all_fit (kind.field name nullable metadata k fs) = (is_representable_kind k && fits_below k) && all_fit fs

-- a field with those below it
abbrev pub kind_fits : Kind → Bool
kind_fits k = is_representable_kind k && fits_below k

-- the sizes of a kind alone fit
abbrev pub sizes_fit : Kind → Bool
sizes_fit (kind.decimal precision scale) = is_size precision && is_size scale
sizes_fit (kind.decimal256 precision scale) = is_size precision && is_size scale
sizes_fit (kind.fixed_size_binary n) = is_size n
sizes_fit (kind.fixed_size_list n fs) = is_size n
sizes_fit (kind.dictionary index ordered id k) = sizes_fit k
sizes_fit (kind.extension name metadata k) = sizes_fit k
sizes_fit k = true

-- those of all fields below a kind, and of fields with those below them
abbrev mutual
  pub sized_below : Kind → Bool
  sized_below (kind.«list» o fs) = all_sized fs
  sized_below (kind.fixed_size_list n fs) = all_sized fs
  sized_below (kind.struct fs) = all_sized fs
  sized_below (kind.map sorted fs) = all_sized fs
  sized_below (kind.union mode stated types fs) = all_sized fs
  sized_below (kind.dictionary index ordered id k) = sized_below k
  sized_below (kind.extension name metadata k) = sized_below k
  sized_below k = true

  pub all_sized : Fields → Bool
  all_sized kind.none = true
  all_sized (kind.field name nullable metadata k fs) = (sizes_fit k && sized_below k) && all_sized fs

abbrev pub kind_sized : Kind → Bool
kind_sized k = sizes_fit k && sized_below k

-- nodes in front of others
abbrev pub onto : List Node → Nodes → Nodes
onto [] ns = ns
onto (x ∷ xs) ns = layout.also x (onto xs ns)
