-- The parts of arrays without rows. (Arrow Columnar Format, "Physical Memory Layout".)
use Rattle.std.specs.Prelude.{[], ◌∷◌, Some, None, pos}
use Rattle.arrow_spec.specs.declared.types.UnionMode.TheVariants.{Dense, Sparse}
use Rattle.arrow_spec.specs.Kinds as kind
use Rattle.arrow_spec.specs.Kinds.{Kind, Fields, Offsets, small, «list», map, fixed_size_list, struct, union, dictionary, extension, field}
use Rattle.arrow_types.specs.Physical.{physical_of}
use Rattle.arrow_types.specs.declared.physical.PhysicalType.{PhysicalType}
use Rattle.arrow_types.specs.declared.physical.PhysicalType.TheVariants as physical
use Rattle.arrow_arrays.specs.LeafParts.{LeafParts, nulls, bits, numbers, fixed, binary, text, binary_views, text_views}
use Rattle.arrow_arrays.specs.Heads.{Listed, Counted, listed, mapped, sized, structured, tagged, indexed}
use Rattle.arrow_arrays.specs.Parts.{Parts, Forest, leaf, nested, none, also}

-- an array without children, by its layout
abbrev pub empty_leaf : PhysicalType → Kind → LeafParts
empty_leaf physical.Boolean k = bits (record { kind = k; values = []; validity = None })
empty_leaf (physical.Primitive t) k = numbers (record { kind = k; values = []; validity = None })
empty_leaf physical.FixedSizeBinary k = fixed (record { kind = k; values = []; validity = None })
empty_leaf physical.Binary k = binary (record { kind = k; offsets = pos 0 ∷ []; values = []; validity = None })
empty_leaf physical.LargeBinary k = binary (record { kind = k; offsets = pos 0 ∷ []; values = []; validity = None })
empty_leaf physical.Utf8 k = text (record { kind = k; offsets = pos 0 ∷ []; values = []; validity = None })
empty_leaf physical.LargeUtf8 k = text (record { kind = k; offsets = pos 0 ∷ []; values = []; validity = None })
empty_leaf physical.BinaryView k = binary_views (record { kind = k; views = []; buffers = []; validity = None })
empty_leaf physical.Utf8View k = text_views (record { kind = k; views = []; buffers = []; validity = None })
empty_leaf layout k = nulls (record { kind = k; rows = 0 })

-- lists or maps, and lists of one size or structs
abbrev pub empty_listed : Kind → Offsets → Listed
empty_listed k o = record { kind = k; width = o; offsets = pos 0 ∷ []; validity = None }

abbrev pub empty_counted : Kind → Counted
empty_counted k = record { kind = k; rows = 0; validity = None }

-- an array of the kind, which a label stands for (an extension that is looked through), and arrays under fields; a dictionary has one part
abbrev mutual
  pub empty_under : Kind → Kind → Parts
  empty_under l («list» o fs) = nested (listed (empty_listed l o)) (empty_forest fs)
  empty_under l (map sorted fs) = nested (mapped (empty_listed l small)) (empty_forest fs)
  empty_under l (fixed_size_list size fs) = nested (sized (empty_counted l)) (empty_forest fs)
  empty_under l (struct fs) = nested (structured (empty_counted l)) (empty_forest fs)
  empty_under l (union Sparse stated ids fs) = nested (tagged (record { kind = l; types = []; offsets = None })) (empty_forest fs)
  empty_under l (union Dense stated ids fs) = nested (tagged (record { kind = l; types = []; offsets = Some [] })) (empty_forest fs)
  empty_under l (dictionary t ordered id k) = nested (indexed (record { kind = l; index = t; keys = []; validity = None })) (also (empty_under k k) none)
  empty_under l (extension name metadata k) = empty_under l k
  empty_under l k = leaf (empty_leaf (physical_of k) l)

  pub empty_forest : Fields → Forest
  empty_forest kind.none = none
  empty_forest (field name nullable metadata k others) = also (empty_under k k) (empty_forest others)

-- an array of the kind
abbrev pub empty_parts : Kind → Parts
empty_parts k = empty_under k k
