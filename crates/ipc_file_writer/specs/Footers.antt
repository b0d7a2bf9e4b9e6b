-- The footer that is built of a schema's table, pairs and blocks. (File.fbs, Footer.)
use Rattle.std.specs.Prelude.{List, Option, Some, None, pos}
use Rattle.std.specs.Int.{w16}
use Rattle.arrow_spec.specs.Files.{FileBlock}
use Rattle.arrow_spec.specs.Footers.{blocks_node}
use Rattle.arrow_spec.specs.Kinds.{Metadata}
use Rattle.arrow_spec.specs.Layout.{Node, Slots, child, no_more, table, value}
use Rattle.arrow_spec.specs.Sent.{custom_slot}
use Rattle.arrow_flat.specs.Nodes.{SlotValue, in_front}

-- the slots of a footer around the table of its schema
abbrev pub footer_table : Node → Metadata → List FileBlock → List FileBlock → Node
footer_table schema custom dictionaries records =
    table (value w16 (pos 4) (child schema (child (blocks_node dictionaries) (child (blocks_node records) (custom_slot custom)))))

-- the last slot of a table, where there is one
abbrev pub optional_slots : Option SlotValue → Slots
optional_slots None = no_more
optional_slots (Some v) = in_front v no_more
