-- Structs, and lists of one size, as they are read: children of one number of rows. (Arrow Columnar Format, "Struct Layout", "Fixed-Size List Layout".)
use Rattle.std.specs.Prelude.{ℕ, ◌*◌, List, [], Bool, true, false, Option, Some, None}
use Rattle.arrow_spec.specs.declared.error.IpcError.{IpcError}
use Rattle.arrow_spec.specs.declared.message.FieldNode.{FieldNode}
use Rattle.arrow_spec.specs.Kinds.{Kind, Fields, struct, fixed_size_list, extension}
use Rattle.arrow_spec.specs.Faults.{node_causes}
use Rattle.arrow_arrays.specs.Heads.{Head, Counted, structured, sized}

-- a kind of structs, or of lists of one size, extensions looked through
abbrev pub is_any_counted : Kind → Bool
is_any_counted (struct fs) = true
is_any_counted (fixed_size_list size fs) = true
is_any_counted (extension name metadata k) = is_any_counted k
is_any_counted k = false

-- structs of these fields; or, where a size is given, lists of that size of their items
abbrev pub counted_kind : Option ℕ → Fields → Kind
counted_kind None fs = struct fs
counted_kind (Some size) fs = fixed_size_list size fs

-- how many rows each child has
abbrev pub counted_rows : Option ℕ → ℕ → ℕ
counted_rows None rows = rows
counted_rows (Some size) rows = size * rows

-- the top of structs, or of lists of one size
abbrev pub counted_head : Option ℕ → Counted → Head
counted_head None c = structured c
counted_head (Some size) c = sized c

-- why lists of one size are refused by the node of their items, where these are too many
abbrev pub items_faults : Option FieldNode → Option ℕ → ℕ → List IpcError
items_faults items None rows = []
items_faults items (Some size) rows = node_causes items (size * rows)
