-- The footer that a file is written with. (Arrow Columnar Format, "IPC File Format", File.fbs.)
use Rattle.std.specs.Prelude.{ℕ, List, ◌++◌, length, pos}
use Rattle.std.specs.List.{flat_map}
use Rattle.std.specs.Int.{w16, w32, to_le_bytes, cast_unsigned}
use Rattle.arrow_spec.specs.Flat.{little}
use Rattle.arrow_spec.specs.Kinds.{Fields, Metadata}
use Rattle.arrow_spec.specs.Layout as layout
use Rattle.arrow_spec.specs.Layout.{Node, zeros}
use Rattle.arrow_spec.specs.Sent.{custom_slot, i64_bytes, schema_node}
use Rattle.arrow_spec.specs.Files.{FileBlock}

-- a block, with four bytes of padding behind its metadata length (File.fbs, Block)
abbrev pub block_bytes : FileBlock → List ℕ
block_bytes x = i64_bytes (pos x.offset) ++ to_le_bytes w32 (cast_unsigned w32 (pos x.metadata)) ++ zeros 4 ++ i64_bytes (pos x.body)

-- blocks
abbrev pub blocks_node : List FileBlock → Node
blocks_node xs = layout.structs (length xs) (flat_map block_bytes xs)

-- a little-endian footer of version V5 with both lists of blocks, first the dictionaries', and its own pairs (File.fbs, Footer)
abbrev pub footer_node : Fields → Metadata → Metadata → List FileBlock → List FileBlock → Node
footer_node fs pairs custom dictionaries records = layout.table (layout.value w16 (pos 4)
    (layout.child (schema_node little fs pairs) (layout.child (blocks_node dictionaries) (layout.child (blocks_node records) (custom_slot custom)))))
