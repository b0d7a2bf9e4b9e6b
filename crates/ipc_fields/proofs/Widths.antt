-- How many fields there are, and types without ids.
use Rattle.std.proofs.Common.{◌≡◌, suc, true, Option, ℤ, refl, ap}
use Rattle.arrow_spec.specs.Kinds as kind
use Rattle.arrow_spec.specs.Kinds.{Kind, Fields, width}
use Rattle.ipc_fields.specs.IpcFields.{Ids, no_fields, ids, kind_with, fields_with}
use Rattle.arrow_types.specs.Leaves.{is_leaf}

pub leaf_with : (k : Kind) (id : Option ℤ) (below : Ids) → is_leaf k ≡ true → kind_with k id below ≡ k
leaf_with (kind.«list» o fs) id below h = cc
leaf_with (kind.fixed_size_list n fs) id below h = cc
leaf_with (kind.struct fs) id below h = cc
leaf_with (kind.map sorted fs) id below h = cc
leaf_with (kind.union mode stated types fs) id below h = cc
leaf_with (kind.dictionary index ordered old k) id below h = cc
leaf_with (kind.extension name metadata k) id below h = cc
leaf_with k id below h = refl

pub width_with : (fs : Fields) (below : Ids) → width (fields_with fs below) ≡ width fs
width_with kind.none below = refl
width_with (kind.field name nullable metadata k fs) no_fields = ap suc (width_with fs no_fields)
width_with (kind.field name nullable metadata k fs) (ids id below others) = ap suc (width_with fs others)
