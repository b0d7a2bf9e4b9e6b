-- Types without other types in them.
use Rattle.std.specs.Prelude.{Bool, true, false}
use Rattle.arrow_spec.specs.Kinds as kind
use Rattle.arrow_spec.specs.Kinds.{Kind}

-- neither children nor values nor a type below it
abbrev pub is_leaf : Kind → Bool
is_leaf (kind.«list» o fs) = false
is_leaf (kind.fixed_size_list n fs) = false
is_leaf (kind.struct fs) = false
is_leaf (kind.map sorted fs) = false
is_leaf (kind.union mode stated ids fs) = false
is_leaf (kind.dictionary index ordered id k) = false
is_leaf (kind.extension name metadata k) = false
is_leaf k = true

-- the same without parameters
abbrev pub is_plain : Kind → Bool
is_plain kind.null = true
is_plain kind.boolean = true
is_plain (kind.integer t) = true
is_plain (kind.float t) = true
is_plain kind.date32 = true
is_plain kind.date64 = true
is_plain (kind.binary o) = true
is_plain (kind.utf8 o) = true
is_plain kind.binary_view = true
is_plain kind.utf8_view = true
is_plain k = false
