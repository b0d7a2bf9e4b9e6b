-- One field's lines, with the ids of its IPC field and of those behind it.
use Rattle.std.specs.Prelude.{ℕ, suc, List, ◌++◌, Option, ℤ, codes}
use Rattle.arrow_spec.specs.SchemaText.{indent, quoted, nullable_text, pair_lines, child_lines}
use Rattle.arrow_types.specs.Child.{Child}
use Rattle.ipc_fields.specs.IpcFields.{Ids, kind_with}
use Rattle.ipc_fields.specs.Uses.{first_id, first_ids}
use Rattle.ipc_text.specs.Types.{type_text_with}

-- a field's own line with the id of its dictionary
abbrev pub own_line : ℕ → Child → Option ℤ → List ℕ
own_line level c id = indent level ++ quoted c.name ++ codes " " ++ type_text_with c.kind id ++ nullable_text c.nullable ++ codes "\n"

-- a field's line, its pairs, and its children one level below it, with the first of some ids
abbrev pub field_text : ℕ → Child → Ids → List ℕ
field_text level c own =
    own_line level c (first_id own) ++ pair_lines (suc level) c.metadata ++ child_lines (suc level) (kind_with c.kind (first_id own) (first_ids own))
